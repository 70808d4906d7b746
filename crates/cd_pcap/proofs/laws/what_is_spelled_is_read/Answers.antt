use Rattle.cd_pcap.proofs.SpelledRead.{spelled_captures_read}
use Rattle.cd_pcap.proofs.laws.what_is_spelled_is_read.Goals as goal

pub returns : goal.returns
returns c = spelled_captures_read
