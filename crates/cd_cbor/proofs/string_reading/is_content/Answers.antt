use Rattle.cd_cbor.proofs.Texts.{same_test}
use Rattle.cd_cbor.proofs.string_reading.is_content.Goals as goal

pub returns-then-is_text : goal.returns-then-is_text
returns-then-is_text c = rw c.if-is_text.true (same_test _ _ c.is_utf8.ensures)
