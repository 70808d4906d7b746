use Rattle.cd_workload.proofs.Sent.{lookups_sent}
use Rattle.cd_workload.proofs.laws.lookups_are_sent.Goals as goal

pub returns : goal.returns
returns c = lookups_sent
