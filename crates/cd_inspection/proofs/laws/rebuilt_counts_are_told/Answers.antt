use Rattle.cd_inspection.proofs.RebuiltCounts.{rebuilt_counts_told}
use Rattle.cd_inspection.proofs.laws.rebuilt_counts_are_told.Goals as goal

pub returns : goal.returns
returns c = rebuilt_counts_told
