use Rattle.cd_cbor.proofs.OneWay.{histories_stay}
use Rattle.cd_cbor.proofs.laws.histories_stay.Goals as goal

pub returns : goal.returns
returns c = histories_stay
