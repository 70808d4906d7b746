use Rattle.cd_size.proofs.NamesKept.{blocks_named}
use Rattle.cd_size.proofs.laws.blocks_are_named.Goals as goal

pub returns : goal.returns
returns c = blocks_named
