use Rattle.cd_cbor.proofs.KnownLaws.{read_is_spelled_there}
use Rattle.cd_cbor.proofs.laws.what_is_read_there_is_spelled.Goals as goal

pub returns : goal.returns
returns c = read_is_spelled_there
