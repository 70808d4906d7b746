-- what is given so far stands before what the others give
use Rattle.std.proofs.Common.{◌≡◌, drop}
use Rattle.cd_table.specs.Growing.{each, in_front, put_record}
use Rattle.cd_table.proofs.records.put_each_record.Given as goal

abbrev pub invariant-records : goal.invariant-records
invariant-records l =
    each put_record l.fn.records l.fn.tables ≡ in_front l.indexes.items (each put_record (drop l.kept-index l.records) l.tables)
