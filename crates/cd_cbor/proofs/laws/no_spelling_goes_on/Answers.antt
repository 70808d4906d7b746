use Rattle.cd_cbor.proofs.KnownLaws.{no_spelling_goes_on}
use Rattle.cd_cbor.proofs.laws.no_spelling_goes_on.Goals as goal

pub returns : goal.returns
returns c = no_spelling_goes_on
