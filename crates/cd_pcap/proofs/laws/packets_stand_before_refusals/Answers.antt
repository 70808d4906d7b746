use Rattle.cd_pcap.proofs.Refusals.{packets_before}
use Rattle.cd_pcap.proofs.laws.packets_stand_before_refusals.Goals as goal

pub returns : goal.returns
returns c = packets_before
