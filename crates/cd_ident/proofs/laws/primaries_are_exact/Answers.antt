use Rattle.cd_ident.proofs.ExactIds.{primaries_are_exact}
use Rattle.cd_ident.proofs.laws.primaries_are_exact.Goals as goal

pub returns : goal.returns
returns c = primaries_are_exact
