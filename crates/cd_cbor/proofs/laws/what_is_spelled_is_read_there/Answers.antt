use Rattle.cd_cbor.proofs.KnownLaws.{spelled_is_read_there}
use Rattle.cd_cbor.proofs.laws.what_is_spelled_is_read_there.Goals as goal

pub returns : goal.returns
returns c = spelled_is_read_there
