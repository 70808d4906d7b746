-- Each step of the loop is a step of the definition.
use Rattle.cd_block.specs.Resolving.{each, resolved_malformed}
use Rattle.cd_block.proofs.EachInTurn.{each_more, each_fault, each_end}
use Rattle.cd_block.proofs.resolving.each_malformed.Goals as goal

pub returns-in-Err : goal.returns-in-Err
returns-in-Err c =
    let all = each (resolved_malformed c.args.block.now) c.args.stored.now in
    each_fault c.in-Err.fault (resolved_malformed c.args.block.now) c.each.messages.items c.args.stored.now c.each.one-index _ all c.each-test.true c.in-Err.ensures c.each.invariant

pub each-preserved : goal.each-preserved
each-preserved c =
    let all = each (resolved_malformed c.args.block.now) c.args.stored.now in
    let e = c.in-Ok-push.ensures.items in
    rw e (each_more (resolved_malformed c.args.block.now) c.each.messages.items c.args.stored.now c.each.one-index _ c.in-Ok.kept all c.each-test.true c.in-Ok.ensures c.each.invariant)

pub returns : goal.returns
returns c =
    let all = each (resolved_malformed c.args.block.now) c.args.stored.now in
    rw c.from_vec.ensures (each_end (resolved_malformed c.args.block.now) c.each.messages.items c.args.stored.now c.each.one-index all c.each-test.false c.each.invariant)
