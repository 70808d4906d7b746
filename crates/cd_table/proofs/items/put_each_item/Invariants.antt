-- what is given so far stands before what the others give
use Rattle.std.proofs.Common.{◌≡◌, drop}
use Rattle.cd_table.specs.Growing.{each, in_front, put_item}
use Rattle.cd_table.proofs.items.put_each_item.Given as goal

abbrev pub invariant-items : goal.invariant-items
invariant-items l =
    each put_item l.fn.items l.fn.tables ≡ in_front l.placed.items (each put_item (drop l.kept-index l.items) l.tables)
