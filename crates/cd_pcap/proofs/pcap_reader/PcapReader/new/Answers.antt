use Rattle.cd_pcap.specs.Pcap.{little_micros}
use Rattle.cd_pcap.proofs.Standing.{nothing_stands}
use Rattle.cd_pcap.proofs.pcap_reader.PcapReader.new.Goals as goal

pub returns-clause-history : goal.returns-clause-history
returns-clause-history c = rw c.new.ensures.items (nothing_stands little_micros)
