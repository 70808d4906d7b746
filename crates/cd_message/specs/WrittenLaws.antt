-- Laws of messages that are written.
use Rattle.std.specs.Prelude.{◌≡◌, ℕ, ◌<◌, ◌≤◌, ◌^◌, ◌↔◌, List, length, Some}
use Rattle.std.specs.List.{All}
use Rattle.cd_message.specs.declared.message.Question.{Question}
use Rattle.cd_message.specs.declared.message.Rr.{Rr}
use Rattle.cd_message.specs.declared.message.Message.{Message}
use Rattle.cd_message.specs.declared.shape.Shape as kind
use Rattle.cd_message.specs.Messages.{Spells}
use Rattle.cd_message.specs.Valid.{Valid, FillsShape}
use Rattle.cd_message.specs.Written.{RdataParts, parts_of_shape, written_message}

-- the type and class of a question have two bytes each
abbrev pub QuestionNumbersFit : Question → Type 0
QuestionNumbersFit q = (q.rtype < 2 ^ 16) × (q.rclass < 2 ^ 16)

-- the type and class of a record have two bytes each, its TTL four
abbrev pub RecordNumbersFit : Rr → Type 0
RecordNumbersFit r = (r.rtype < 2 ^ 16) × (r.rclass < 2 ^ 16) × (r.ttl < 2 ^ 32)

-- each number of a message fits the bytes of its field
pub record NumbersFit (m : Message) : Type 0 where
  pub id : m.id < 2 ^ 16
  pub bits : m.bits < 2 ^ 16
  pub questions : All QuestionNumbersFit m.questions
  pub answers : All RecordNumbersFit m.answers
  pub authority : All RecordNumbersFit m.authority
  pub additional : All RecordNumbersFit m.additional

-- a valid message that is written in at most 65,535 bytes is read as itself, to the last of them
abbrev pub WrittenMessagesAreRead : Type 0
WrittenMessagesAreRead = (m : Message) → NumbersFit m → Valid m → length (written_message m) ≤ 65535 → Spells (written_message m) m (length (written_message m))

-- RDATA has parts of a shape exactly if it fills that, and they are those that fill it
abbrev pub PartsFillShapes : Type 0
PartsFillShapes = (s : kind.Shape) (rdata : List ℕ) (parts : RdataParts) → (parts_of_shape s rdata ≡ Some parts) ↔
    ((fills : FillsShape s rdata) × (fills.before ≡ parts.before) × (fills.names ≡ parts.names) × (fills.after ≡ parts.after))
