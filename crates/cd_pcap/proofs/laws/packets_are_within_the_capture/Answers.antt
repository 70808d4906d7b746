use Rattle.cd_pcap.proofs.Sizes.{packets_within}
use Rattle.cd_pcap.proofs.laws.packets_are_within_the_capture.Goals as goal

pub returns : goal.returns
returns c = packets_within
