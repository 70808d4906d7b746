use Rattle.cd_pcapng.proofs.Sizes.{packets_within}
use Rattle.cd_pcapng.proofs.laws.packets_are_within_the_capture.Goals as goal

pub returns : goal.returns
returns c = packets_within
