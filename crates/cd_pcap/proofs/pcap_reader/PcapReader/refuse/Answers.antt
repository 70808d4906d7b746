use Rattle.std.proofs.lemmas.List.{drop-take}
use Rattle.cd_pcap.proofs.pcap_reader.PcapReader.refuse.Goals as goal

pub returns : goal.returns
returns c = rw (← c.self.view_is, c.truncate.ensures.items, drop-take)
