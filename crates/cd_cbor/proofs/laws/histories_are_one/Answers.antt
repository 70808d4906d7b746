use Rattle.cd_cbor.proofs.OneWay.{histories_are_one}
use Rattle.cd_cbor.proofs.laws.histories_are_one.Goals as goal

pub returns : goal.returns
returns c = histories_are_one
