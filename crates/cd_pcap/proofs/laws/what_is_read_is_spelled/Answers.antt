use Rattle.cd_pcap.proofs.ReadSpelled.{read_captures_spelled}
use Rattle.cd_pcap.proofs.laws.what_is_read_is_spelled.Goals as goal

pub returns : goal.returns
returns c = read_captures_spelled
