use Rattle.cd_ident.proofs.WeightBounds.{sums_of_weights_are_linear}
use Rattle.cd_ident.proofs.laws.sums_of_weights_are_linear.Goals as goal

pub returns : goal.returns
returns c = sums_of_weights_are_linear
