-- Plain halves: messages of which all is kept, so that they are rebuilt as they were (RFC 8618 7.3.2.4).
use Rattle.std.specs.Prelude.{◌≡◌, ℕ, ◌%◌, true, List, [], ◌∷◌, ◌++◌, length, Some}
use Rattle.std.specs.List.{All, find}
use Rattle.std.specs.Option.{option_map}
use Rattle.cd_block.specs.declared.params.Params.{Params}
use Rattle.cd_block.specs.declared.stamp.Stamp.{Stamp}
use Rattle.cd_hints.specs.Items.{first_question, lead_question, main_message, kept_item, kept_signature}
use Rattle.cd_hints.specs.Lists.{is_listed_record, without_opt}
use Rattle.cd_hints.specs.Records.{RecordParts, query_message, response_message}
use Rattle.cd_hints.specs.Settings.{default_hints}
use Rattle.cd_ident.specs.Headers.{qr_of, opcode_of}
use Rattle.cd_message.specs.Messages.{Spells}
use Rattle.cd_message.specs.Valid.{Valid, is_opt}
use Rattle.cd_message.specs.Written.{written_if_fits}
use Rattle.cd_message.specs.WrittenLaws.{NumbersFit}
use Rattle.cd_message.specs.declared.message.Message.{Message}
use Rattle.cd_message.specs.declared.message.Question.{Question}
use Rattle.cd_message.specs.declared.message.Rr.{Rr}
use Rattle.cd_rebuild.specs.Messages.{query_of, response_of}

-- every supported hint is set, as it is where no option is given (RFC 8618 7.3.1.1.1.1)
abbrev pub KeepsAll : Params → Type 0
KeepsAll p = p.hints ≡ default_hints

-- the type of each of these resource records is listed
abbrev pub AllListed : List ℕ → List Rr → Type 0
AllListed types records = All (λ r. is_listed_record types r ≡ true) records

-- an OPT record, where there is one, is the last of these, and the 15 bits after DO are 0 (RFC 6891 6.1.4)
abbrev pub OptIsPlain : List Rr → Type 0
OptIsPlain records = (o : Rr) → find is_opt records ≡ Some o → (records ≡ without_opt records ++ o ∷ []) × (o.ttl % 0x8000 ≡ 0)

-- a query of which all is kept
pub record IsPlainQuery (types : List ℕ) (m : Message) : Type 0 where
  pub valid : Valid m
  pub numbers : NumbersFit m
  pub qr : qr_of m.bits ≡ 0
  pub answers : AllListed types m.answers
  pub authority : AllListed types m.authority
  pub additional : AllListed types (without_opt m.additional)
  pub opt : OptIsPlain m.additional

-- a response of which all is kept in its record: that has its ID and its opcode, as the query of a pair has, and its
-- first question, where it has one
pub record IsPlainResponse (types : List ℕ) (r : RecordParts) (m : Message) : Type 0 where
  pub numbers : NumbersFit m
  pub qr : qr_of m.bits ≡ 1
  pub id : option_map (λ q. q.id) (main_message r) ≡ Some m.id
  pub opcode : option_map (λ q. opcode_of q.bits) (main_message r) ≡ Some (opcode_of m.bits)
  pub question : (q : Question) → first_question m ≡ Some q → lead_question r ≡ Some q
  pub answers : AllListed types m.answers
  pub authority : AllListed types m.authority
  pub additional : AllListed types m.additional

-- a plain query is rebuilt to its own message
abbrev pub QueriesComeBack : Type 0
QueriesComeBack = (p : Params) (earliest : Stamp) (r : RecordParts) (m : Message) → KeepsAll p → query_message r ≡ Some m →
    IsPlainQuery p.rr_types m → query_of (kept_item p earliest r) (kept_signature p r) ≡ m

-- a plain response is rebuilt to its own message
abbrev pub ResponsesComeBack : Type 0
ResponsesComeBack = (p : Params) (earliest : Stamp) (r : RecordParts) (m : Message) → KeepsAll p → response_message r ≡ Some m →
    IsPlainResponse p.rr_types r m → response_of (kept_item p earliest r) (kept_signature p r) ≡ m

-- where the first message is written, the payload is read as the second one, to its last byte
abbrev pub IsWrittenAs : Message → Message → Type 0
IsWrittenAs made m = (payload : List ℕ) → written_if_fits made ≡ Some payload → Spells payload m (length payload)

-- what is written of a plain query is read as its own message
abbrev pub QueriesAreSpelled : Type 0
QueriesAreSpelled = (p : Params) (earliest : Stamp) (r : RecordParts) (m : Message) → KeepsAll p → query_message r ≡ Some m →
    IsPlainQuery p.rr_types m → IsWrittenAs (query_of (kept_item p earliest r) (kept_signature p r)) m

-- what is written of a plain response that is valid is read as its own message
abbrev pub ResponsesAreSpelled : Type 0
ResponsesAreSpelled = (p : Params) (earliest : Stamp) (r : RecordParts) (m : Message) → KeepsAll p → response_message r ≡ Some m →
    IsPlainResponse p.rr_types r m → Valid m → IsWrittenAs (response_of (kept_item p earliest r) (kept_signature p r)) m
