use Rattle.cd_workload.proofs.Reading.{workloads_whole}
use Rattle.cd_workload.proofs.laws.workloads_are_whole.Goals as goal

pub returns : goal.returns
returns c = workloads_whole
