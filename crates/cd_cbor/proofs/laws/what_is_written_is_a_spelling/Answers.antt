use Rattle.cd_cbor.proofs.KnownLaws.{written_is_spelling}
use Rattle.cd_cbor.proofs.laws.what_is_written_is_a_spelling.Goals as goal

pub returns : goal.returns
returns c = written_is_spelling
