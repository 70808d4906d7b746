use Rattle.cd_cbor.proofs.KnownLaws.{one_item_is_spelled}
use Rattle.cd_cbor.proofs.laws.one_item_is_spelled.Goals as goal

pub returns : goal.returns
returns c = one_item_is_spelled
