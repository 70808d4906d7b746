use Rattle.cd_size.proofs.RunsReadable.{blocks_readable}
use Rattle.cd_size.proofs.laws.blocks_are_read_back.Goals as goal

pub returns : goal.returns
returns c = blocks_readable
