use Rattle.cd_packet.proofs.Payloads.{layer_within}
use Rattle.cd_packet.proofs.laws.payloads_are_captured.Goals as goal

pub returns : goal.returns
returns c = layer_within
