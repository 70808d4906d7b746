use Rattle.cd_pairing.proofs.Growing.{kept}
use Rattle.cd_pairing.proofs.laws.fronts_keep_their_pairs.Goals as goal

pub returns : goal.returns
returns c = kept
