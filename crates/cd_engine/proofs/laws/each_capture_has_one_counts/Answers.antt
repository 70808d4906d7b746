use Rattle.cd_engine.proofs.OneFile.{each_has_one_counts}
use Rattle.cd_engine.proofs.laws.each_capture_has_one_counts.Goals as goal

pub returns : goal.returns
returns c = each_has_one_counts
