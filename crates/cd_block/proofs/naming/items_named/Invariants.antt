-- The names of the items so far are names.
use Rattle.std.proofs.Common.{take}
use Rattle.std.specs.List.{AllByRecursion}
use Rattle.cd_block.specs.Naming.{ItemNamed}
use Rattle.cd_block.proofs.naming.items_named.Given as goal

abbrev pub invariant-each : goal.invariant-each
invariant-each l = AllByRecursion ItemNamed (take l.item-index l.items)
