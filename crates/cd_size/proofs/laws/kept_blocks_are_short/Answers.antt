use Rattle.cd_size.proofs.Blocks.{kept_blocks_short}
use Rattle.cd_size.proofs.laws.kept_blocks_are_short.Goals as goal

pub returns : goal.returns
returns c = kept_blocks_short
