use Rattle.cd_ident.proofs.Exchanges.{responses_have_the_primary}
use Rattle.cd_ident.proofs.laws.responses_have_the_primary.Goals as goal

pub returns : goal.returns
returns c = responses_have_the_primary
