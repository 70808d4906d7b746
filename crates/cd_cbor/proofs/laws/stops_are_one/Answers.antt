use Rattle.cd_cbor.proofs.OneWay.{stops_are_one}
use Rattle.cd_cbor.proofs.laws.stops_are_one.Goals as goal

pub returns : goal.returns
returns c = stops_are_one
