use Rattle.cd_pcap.proofs.Spelled.{spelled_read}
use Rattle.cd_pcap.proofs.laws.spelled_records_are_read.Goals as goal

pub returns : goal.returns
returns c = spelled_read
