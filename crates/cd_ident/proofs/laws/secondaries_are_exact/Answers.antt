use Rattle.cd_ident.proofs.ExactIds.{secondaries_are_exact}
use Rattle.cd_ident.proofs.laws.secondaries_are_exact.Goals as goal

pub returns : goal.returns
returns c = secondaries_are_exact
