-- Each step of the loop is a step of the definition.
use Rattle.cd_block.specs.Resolving.{each, resolved_question}
use Rattle.cd_block.proofs.EachInTurn.{each_more, each_fault, each_end}
use Rattle.cd_block.proofs.resolving.lists.each_question.Goals as goal

pub returns-in-Err : goal.returns-in-Err
returns-in-Err c =
    let all = each (resolved_question c.args.block.now) c.args.indexes.now in
    each_fault c.in-Err.fault (resolved_question c.args.block.now) c.each.questions.items c.args.indexes.now c.each.index-index 0 all c.each-test.true c.in-Err.ensures c.each.invariant

pub each-preserved : goal.each-preserved
each-preserved c =
    let all = each (resolved_question c.args.block.now) c.args.indexes.now in
    let e = c.in-Ok-push.ensures.items in
    rw e (each_more (resolved_question c.args.block.now) c.each.questions.items c.args.indexes.now c.each.index-index 0 c.in-Ok.question all c.each-test.true c.in-Ok.ensures c.each.invariant)

pub returns : goal.returns
returns c =
    let all = each (resolved_question c.args.block.now) c.args.indexes.now in
    rw c.from_vec.ensures (each_end (resolved_question c.args.block.now) c.each.questions.items c.args.indexes.now c.each.index-index all c.each-test.false c.each.invariant)
