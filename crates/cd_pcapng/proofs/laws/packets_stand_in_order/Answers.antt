use Rattle.cd_pcapng.proofs.Places.{packets_in_order}
use Rattle.cd_pcapng.proofs.laws.packets_stand_in_order.Goals as goal

pub returns : goal.returns
returns c = packets_in_order
