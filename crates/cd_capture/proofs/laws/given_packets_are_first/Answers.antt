use Rattle.cd_capture.proofs.Standing.{given_first}
use Rattle.cd_capture.proofs.laws.given_packets_are_first.Goals as goal

pub returns : goal.returns
returns c = given_first
