use Rattle.cd_pairing.proofs.Growing.{grown}
use Rattle.cd_pairing.proofs.laws.one_more_joins_the_earliest.Goals as goal

pub returns : goal.returns
returns c = grown
