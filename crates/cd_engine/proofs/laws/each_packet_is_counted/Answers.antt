use Rattle.cd_engine.proofs.EachPacketCounted.{each_counted}
use Rattle.cd_engine.proofs.laws.each_packet_is_counted.Goals as goal

pub returns : goal.returns
returns c = each_counted
