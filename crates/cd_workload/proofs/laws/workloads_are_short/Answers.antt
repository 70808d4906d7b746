use Rattle.cd_workload.proofs.Reading.{workloads_short}
use Rattle.cd_workload.proofs.laws.workloads_are_short.Goals as goal

pub returns : goal.returns
returns c = workloads_short
