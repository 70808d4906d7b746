use Rattle.cd_pcapng.proofs.Standing.{nothing_stands}
use Rattle.cd_pcapng.proofs.pcapng_reader.PcapngReader.new.Goals as goal

pub returns-clause-history : goal.returns-clause-history
returns-clause-history c = rw (c.new.ensures.items, c.new-2.ensures) nothing_stands
