use Rattle.cd_block.specs.Naming.{ItemNamed}
use Rattle.cd_block.proofs.EachNamed.{all_more, all_end}
use Rattle.cd_block.proofs.naming.items_named.Goals as goal

pub each-preserved : goal.each-preserved
each-preserved c = all_more ItemNamed c.args.items.now c.each.item-index c.item-item.result c.each-test.true c.item-item.is c.item_named.ensures c.each.invariant

pub returns : goal.returns
returns c = all_end ItemNamed c.args.items.now c.each.item-index c.each-test.false c.each.invariant
