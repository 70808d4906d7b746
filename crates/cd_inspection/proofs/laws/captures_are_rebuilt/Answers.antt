use Rattle.cd_inspection.proofs.CapturesRebuilt.{captures_rebuilt}
use Rattle.cd_inspection.proofs.laws.captures_are_rebuilt.Goals as goal

pub returns : goal.returns
returns c = captures_rebuilt
