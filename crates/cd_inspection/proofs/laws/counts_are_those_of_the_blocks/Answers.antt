use Rattle.cd_inspection.proofs.CountsTold.{counts_are_of_blocks}
use Rattle.cd_inspection.proofs.laws.counts_are_those_of_the_blocks.Goals as goal

pub returns : goal.returns
returns c = counts_are_of_blocks
