use Rattle.cd_capture.proofs.Growing.{packets_within}
use Rattle.cd_capture.proofs.laws.packets_are_within_the_capture.Goals as goal

pub returns : goal.returns
returns c = packets_within
