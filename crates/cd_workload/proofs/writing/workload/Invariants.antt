use Rattle.std.proofs.Common.{◌≡◌, ◌++◌}
use Rattle.cd_workload.specs.Workload
use Rattle.cd_workload.proofs.Steps.{left}
use Rattle.cd_workload.proofs.writing.workload.Given as goal

-- what is written, and what is left to write, are the whole
abbrev pub invariant-lookups : goal.invariant-lookups
invariant-lookups l = l.out ++ left l.count l.number l.state ≡ Workload.workload l.count l.seed
