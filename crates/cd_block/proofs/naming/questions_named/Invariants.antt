-- The names so far are names.
use Rattle.std.proofs.Common.{take}
use Rattle.std.specs.List.{AllByRecursion}
use Rattle.cd_name.specs.Names.{IsName}
use Rattle.cd_block.proofs.naming.questions_named.Given as goal

abbrev pub invariant-each : goal.invariant-each
invariant-each l = AllByRecursion (λ q. IsName q.name) (take l.question-index l.questions)
