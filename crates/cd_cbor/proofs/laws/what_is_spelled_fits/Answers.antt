use Rattle.cd_cbor.proofs.KnownLaws.{spelled_fits}
use Rattle.cd_cbor.proofs.laws.what_is_spelled_fits.Goals as goal

pub returns : goal.returns
returns c = spelled_fits
