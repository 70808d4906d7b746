use Rattle.cd_pcap.proofs.Standing.{given_first}
use Rattle.cd_pcap.proofs.laws.given_packets_are_first.Goals as goal

pub returns : goal.returns
returns c = given_first
