-- one turn more, and the end
use Rattle.std.proofs.Common.{ap, sym}
use Rattle.cd_table.specs.Growing.{put_item}
use Rattle.cd_table.proofs.Loops.{each_turn, each_given}
use Rattle.cd_table.proofs.items.put_each_item.Goals as goal

pub items-preserved : goal.items-preserved
items-preserved c =
    each_turn put_item c.args.items.now c.args.items.now c.items.kept-index c.kept-item.result c.in_ok-item.item c.items.placed.items c.push.new.self.items c.args.tables.now c.items.tables c.put_item.new.tables
    c.items.invariant c.items-test.true c.kept-item.is c.in_ok-push.ensures.items c.in_ok-item.ensures.placed c.in_ok-item.ensures.tables

pub returns-clause-tables : goal.returns-clause-tables
returns-clause-tables c =
    sym (ap (λ a. a.tables) (each_given put_item c.args.items.now c.args.items.now c.items.kept-index c.items.placed.items c.args.tables.now c.items.tables c.items.invariant c.items-test.false))

pub returns-clause-placed : goal.returns-clause-placed
returns-clause-placed c =
    sym (ap (λ a. a.value) (each_given put_item c.args.items.now c.args.items.now c.items.kept-index c.items.placed.items c.args.tables.now c.items.tables c.items.invariant c.items-test.false))
