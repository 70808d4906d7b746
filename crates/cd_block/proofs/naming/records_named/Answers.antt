use Rattle.cd_name.specs.Names.{IsName}
use Rattle.cd_block.proofs.EachNamed.{all_more, all_end}
use Rattle.cd_block.proofs.naming.records_named.Goals as goal

pub each-preserved : goal.each-preserved
each-preserved c = all_more (λ r. IsName r.name) c.args.records.now c.each.one-index c.one-item.result c.each-test.true c.one-item.is c.as_slice-name.ensures.named c.each.invariant

pub returns : goal.returns
returns c = all_end (λ r. IsName r.name) c.args.records.now c.each.one-index c.each-test.false c.each.invariant
