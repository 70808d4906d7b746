use Rattle.cd_cbor.proofs.KnownLaws.{read_is_spelled}
use Rattle.cd_cbor.proofs.laws.what_is_read_is_spelled.Goals as goal

pub returns : goal.returns
returns c = read_is_spelled
