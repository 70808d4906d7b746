use Rattle.cd_capture.proofs.Growing.{captures_go_on}
use Rattle.cd_capture.proofs.laws.captures_grow.Goals as goal

pub returns : goal.returns
returns c = captures_go_on
