use Rattle.std.proofs.Common.{◌≡◌, take}
use Rattle.cd_workload.specs.Workload.{file_sum}
use Rattle.cd_workload.proofs.summing.file_sum.Given as goal

-- the sum of the bytes so far
abbrev pub invariant-bytes : goal.invariant-bytes
invariant-bytes l = l.total ≡ file_sum (take l.byte-index l.bytes)
