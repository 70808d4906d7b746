-- the indexes so far stand before those of the other records that are kept
use Rattle.std.proofs.Common.{◌≡◌, drop}
use Rattle.cd_hints.specs.Lists.{kept_rr}
use Rattle.cd_hints.proofs.KeptAmong.{is_kept}
use Rattle.cd_table.specs.Growing.{each, in_front, put_record}
use Rattle.cd_table.proofs.Choosing.{chosen}
use Rattle.cd_filling.proofs.lists.put_each_record.Given as goal

abbrev pub invariant-records : goal.invariant-records
invariant-records l =
    each put_record (chosen (is_kept l.fn.keeper.rr_types l.with_opt) (kept_rr l.fn.keeper.hints) l.fn.records) l.fn.tables ≡
    in_front l.indexes.items (each put_record (chosen (is_kept l.fn.keeper.rr_types l.with_opt) (kept_rr l.fn.keeper.hints) (drop l.record-index l.records)) l.tables)
