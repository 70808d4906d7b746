use Rattle.cd_pcap.proofs.Extending.{pcap-goes_on}
use Rattle.cd_pcap.proofs.laws.captures_grow.Goals as goal

pub returns : goal.returns
returns c = pcap-goes_on
