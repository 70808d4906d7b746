use Rattle.cd_pcapng.proofs.Places.{packets_before}
use Rattle.cd_pcapng.proofs.laws.packets_stand_before_refusals.Goals as goal

pub returns : goal.returns
returns c = packets_before
