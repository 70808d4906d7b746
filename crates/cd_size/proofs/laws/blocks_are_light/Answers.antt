use Rattle.cd_size.proofs.Runs.{blocks_light}
use Rattle.cd_size.proofs.laws.blocks_are_light.Goals as goal

pub returns : goal.returns
returns c = blocks_light
