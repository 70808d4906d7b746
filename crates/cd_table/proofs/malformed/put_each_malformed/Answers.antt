-- one turn more, and the end
use Rattle.std.proofs.Common.{ap, sym}
use Rattle.cd_table.specs.Growing.{put_malformed}
use Rattle.cd_table.proofs.Loops.{each_turn, each_given}
use Rattle.cd_table.proofs.malformed.put_each_malformed.Goals as goal

pub malformed-preserved : goal.malformed-preserved
malformed-preserved c =
    each_turn put_malformed c.args.malformed.now c.args.malformed.now c.malformed.kept-index c.kept-item.result c.in_ok-message.message c.malformed.placed.items c.push.new.self.items c.args.tables.now c.malformed.tables c.put_malformed.new.tables
    c.malformed.invariant c.malformed-test.true c.kept-item.is c.in_ok-push.ensures.items c.in_ok-message.ensures.placed c.in_ok-message.ensures.tables

pub returns-clause-tables : goal.returns-clause-tables
returns-clause-tables c =
    sym (ap (λ a. a.tables) (each_given put_malformed c.args.malformed.now c.args.malformed.now c.malformed.kept-index c.malformed.placed.items c.args.tables.now c.malformed.tables c.malformed.invariant c.malformed-test.false))

pub returns-clause-placed : goal.returns-clause-placed
returns-clause-placed c =
    sym (ap (λ a. a.value) (each_given put_malformed c.args.malformed.now c.args.malformed.now c.malformed.kept-index c.malformed.placed.items c.args.tables.now c.malformed.tables c.malformed.invariant c.malformed-test.false))
