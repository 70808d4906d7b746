use Rattle.cd_cbor.proofs.KnownLaws.{readings_stay}
use Rattle.cd_cbor.proofs.laws.readings_stay.Goals as goal

pub returns : goal.returns
returns c = readings_stay
