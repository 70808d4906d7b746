use Rattle.cd_pairing.proofs.Sets.{matchings_are_sets}
use Rattle.cd_pairing.proofs.laws.pairings_are_sets.Goals as goal

pub returns : goal.returns
returns c = matchings_are_sets
