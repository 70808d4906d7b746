-- one turn more, and the end
use Rattle.std.proofs.Common.{ap, sym}
use Rattle.cd_table.specs.Growing.{put_record}
use Rattle.cd_table.proofs.Loops.{each_turn, each_given}
use Rattle.cd_table.proofs.records.put_each_record.Goals as goal

pub records-preserved : goal.records-preserved
records-preserved c =
    each_turn put_record c.args.records.now c.args.records.now c.records.kept-index c.kept-item.result c.in_ok-index.index c.records.indexes.items c.push.new.self.items c.args.tables.now c.records.tables c.put_kept_record.new.tables
    c.records.invariant c.records-test.true c.kept-item.is c.in_ok-push.ensures.items c.in_ok-index.ensures.index c.in_ok-index.ensures.tables

pub returns-clause-tables : goal.returns-clause-tables
returns-clause-tables c =
    sym (ap (λ a. a.tables) (each_given put_record c.args.records.now c.args.records.now c.records.kept-index c.records.indexes.items c.args.tables.now c.records.tables c.records.invariant c.records-test.false))

pub returns-clause-indexes : goal.returns-clause-indexes
returns-clause-indexes c =
    sym (ap (λ a. a.value) (each_given put_record c.args.records.now c.args.records.now c.records.kept-index c.records.indexes.items c.args.tables.now c.records.tables c.records.invariant c.records-test.false))
