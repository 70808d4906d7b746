-- one turn more, and the end
use Rattle.std.proofs.Common.{ap, sym}
use Rattle.cd_hints.specs.Lists.{kept_rr}
use Rattle.cd_hints.proofs.KeptAmong.{is_kept}
use Rattle.cd_table.specs.Growing.{put_record}
use Rattle.cd_table.proofs.Choosing.{chosen}
use Rattle.cd_filling.proofs.ListsFilled.{either_turn, records_given}
use Rattle.cd_filling.proofs.lists.put_each_record.Goals as goal

pub records-preserved : goal.records-preserved
records-preserved c =
    either_turn put_record (is_kept c.args.keeper.now.rr_types c.args.with_opt) (kept_rr c.args.keeper.now.hints)
    (chosen (is_kept c.args.keeper.now.rr_types c.args.with_opt) (kept_rr c.args.keeper.now.hints) c.args.records.now) c.args.records.now
    c.records.record-index c.record-item.result c.records.indexes.items c.put_if_kept.new.indexes.items c.args.tables.now c.records.tables c.put_if_kept.new.tables
    c.records.invariant (c.records-test.true, c.record-item.is) c.in_ok-put_if_kept.ensures.indexes c.in_ok-put_if_kept.ensures.tables

pub returns-clause-tables : goal.returns-clause-tables
returns-clause-tables c =
    sym (ap (λ a. a.tables) (records_given c.args.keeper.now.rr_types c.args.with_opt c.args.keeper.now.hints c.args.records.now c.records.record-index c.records.indexes.items c.args.tables.now c.records.tables c.records.invariant c.records-test.false))

pub returns-clause-indexes : goal.returns-clause-indexes
returns-clause-indexes c =
    sym (ap (λ a. a.value) (records_given c.args.keeper.now.rr_types c.args.with_opt c.args.keeper.now.hints c.args.records.now c.records.record-index c.records.indexes.items c.args.tables.now c.records.tables c.records.invariant c.records-test.false))
