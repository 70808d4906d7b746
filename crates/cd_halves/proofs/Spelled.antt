-- What is written of a plain half is read as its message.
use Rattle.std.proofs.Common.{◌≡◌, ℕ, Bool, true, false, ◌&&◌, List, length, Some, None, refl, sym, subst}
use Rattle.std.specs.Prelude.{nat_le, if◌then◌else◌}
use Rattle.std.proofs.lemmas.Bool.{and_parts, leb-true}
use Rattle.cd_message.specs.Messages.{Spells}
use Rattle.cd_message.specs.Valid.{Valid}
use Rattle.cd_message.specs.Written.{has_small_sections, written_message}
use Rattle.cd_message.specs.WrittenLaws.{NumbersFit}
use Rattle.cd_message.specs.declared.message.Message.{Message}
use Rattle.cd_message.proofs.WrittenRead.{written_messages_are_read}
use Rattle.cd_hints.specs.Items.{kept_item, kept_signature}
use Rattle.cd_rebuild.specs.Messages as rebuilt
use Rattle.cd_halves.specs.PlainHalves.{IsWrittenAs, QueriesAreSpelled, ResponsesAreSpelled}
use Rattle.cd_halves.proofs.QueryBack.{queries_come_back}
use Rattle.cd_halves.proofs.ResponseBack.{responses_come_back}

-- what is chosen is there
chosen : (b : Bool) (x payload : List ℕ) → (if b then Some x else None) ≡ Some payload → (b ≡ true) × (x ≡ payload)
chosen true x payload is = (refl, cc)
chosen false x payload is = absurd cc

-- what is written of a message is read as it
written_as_itself : (m : Message) → NumbersFit m → Valid m → IsWrittenAs m m
written_as_itself m fit valid payload is =
    let few : Bool = nat_le (length (written_message m)) 65535 in
    let told = chosen (has_small_sections m && few) (written_message m) payload is in
    let short = leb-true (length (written_message m)) 65535 (and_parts (has_small_sections m) few told.0).1 in
    subst (λ bytes. Spells bytes m (length bytes)) told.1 (written_messages_are_read m fit valid short)

-- and so of what equals it
written_as_same : (made m : Message) → made ≡ m → NumbersFit m → Valid m → IsWrittenAs made m
written_as_same made m same fit valid = subst (λ x. IsWrittenAs x m) (sym same) (written_as_itself m fit valid)

pub queries_are_spelled : QueriesAreSpelled
queries_are_spelled p earliest r m keeps is plain =
    written_as_same (rebuilt.query_of (kept_item p earliest r) (kept_signature p r)) m (queries_come_back p earliest r m keeps is plain) plain.numbers plain.valid

pub responses_are_spelled : ResponsesAreSpelled
responses_are_spelled p earliest r m keeps is plain valid =
    written_as_same (rebuilt.response_of (kept_item p earliest r) (kept_signature p r)) m (responses_come_back p earliest r m keeps is plain) plain.numbers valid
