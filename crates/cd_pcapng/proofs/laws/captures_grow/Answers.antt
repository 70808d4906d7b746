use Rattle.cd_pcapng.proofs.Extending.{pcapng-goes_on}
use Rattle.cd_pcapng.proofs.laws.captures_grow.Goals as goal

pub returns : goal.returns
returns c = pcapng-goes_on
