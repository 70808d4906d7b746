use Rattle.cd_packet.proofs.BuildingBack.{built_is_read}
use Rattle.cd_packet.proofs.laws.packets_are_read_as_built.Goals as goal

pub returns : goal.returns
returns c = built_is_read
