-- what is given so far stands before what the others give
use Rattle.std.proofs.Common.{◌≡◌, drop}
use Rattle.cd_table.specs.Growing.{each, in_front, put_malformed}
use Rattle.cd_table.proofs.malformed.put_each_malformed.Given as goal

abbrev pub invariant-malformed : goal.invariant-malformed
invariant-malformed l =
    each put_malformed l.fn.malformed l.fn.tables ≡ in_front l.placed.items (each put_malformed (drop l.kept-index l.malformed) l.tables)
