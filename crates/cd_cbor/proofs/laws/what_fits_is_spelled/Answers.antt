use Rattle.cd_cbor.proofs.KnownLaws.{fitting_is_spelled}
use Rattle.cd_cbor.proofs.laws.what_fits_is_spelled.Goals as goal

pub returns : goal.returns
returns c = fitting_is_spelled
