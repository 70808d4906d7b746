use Rattle.cd_capture.proofs.Growing.{refusals_kept}
use Rattle.cd_capture.proofs.laws.refusals_stay.Goals as goal

pub returns : goal.returns
returns c = refusals_kept
