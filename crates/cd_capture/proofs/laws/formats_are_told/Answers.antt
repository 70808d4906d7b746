use Rattle.cd_capture.proofs.Telling.{formats_told}
use Rattle.cd_capture.proofs.laws.formats_are_told.Goals as goal

pub returns : goal.returns
returns c = formats_told
