-- The names so far are names.
use Rattle.std.proofs.Common.{take}
use Rattle.std.specs.List.{AllByRecursion}
use Rattle.cd_name.specs.Names.{IsName}
use Rattle.cd_block.proofs.naming.records_named.Given as goal

abbrev pub invariant-each : goal.invariant-each
invariant-each l = AllByRecursion (λ r. IsName r.name) (take l.one-index l.records)
