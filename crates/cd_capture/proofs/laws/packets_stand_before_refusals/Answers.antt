use Rattle.cd_capture.proofs.Growing.{packets_before}
use Rattle.cd_capture.proofs.laws.packets_stand_before_refusals.Goals as goal

pub returns : goal.returns
returns c = packets_before
