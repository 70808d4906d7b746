-- Laws of the reading of messages.
use Rattle.std.specs.Prelude.{◌≡◌, ℕ, ◌*◌, ◌≤◌, ◌<◌, List, ◌++◌, length, slice_index, Ok}
use Rattle.cd_message.specs.declared.message.Message.{Message}
use Rattle.cd_message.specs.Messages.{Spells, rdata_at}
use Rattle.cd_message.specs.Shapes.{shape_of}
use Rattle.cd_message.specs.Valid.{Valid, KeepsShape}
use Rattle.cd_message.specs.Weights.{weight_of}

-- numbers below 256
abbrev pub AreBytes : List ℕ → Type 0
AreBytes payload = (i : ℕ) → slice_index payload i < 256

-- a message that is read is valid
abbrev pub MessagesAreValid : Type 0
MessagesAreValid = (payload : List ℕ) (message : Message) (used : ℕ) → AreBytes payload → Spells payload message used → Valid message

-- a message that is read lies within the payload, and takes its header at least
abbrev pub MessagesLieWithin : Type 0
MessagesLieWithin = (payload : List ℕ) (message : Message) (used : ℕ) → Spells payload message used → (12 ≤ used) × (used ≤ length payload)

-- what a payload spells it spells with more bytes after it
abbrev pub MessagesStay : Type 0
MessagesStay = (payload more : List ℕ) (message : Message) (used : ℕ) → Spells payload message used → Spells (payload ++ more) message used

-- A message that is read weighs at most 829 sixteenths of its bytes: a record of two names in RDATA, all of them
-- pointers, weighs 829 in 16 bytes, and nothing weighs more for its bytes.
abbrev pub MessageWeightsAreLinear : Type 0
MessageWeightsAreLinear = (payload : List ℕ) (message : Message) (used : ℕ) → Spells payload message used → 16 * weight_of message ≤ 829 * used

-- a message that is read from at most 65,535 bytes weighs at most 3,400,000
abbrev pub ReadMessagesAreLight : Type 0
ReadMessagesAreLight = (payload : List ℕ) (message : Message) (used : ℕ) → Spells payload message used → length payload ≤ 65535 → weight_of message ≤ 3400000

-- RDATA that is read keeps its type's shape, with names without pointers
abbrev pub RdataKeepsShape : Type 0
RdataKeepsShape = (rtype : ℕ) (payload : List ℕ) (at end : ℕ) (rdata : List ℕ) → end ≤ length payload → at ≤ end →
    rdata_at rtype payload at end ≡ Ok rdata → KeepsShape (shape_of rtype) rdata

-- RDATA that keeps its type's shape is read as itself, if it stands alone
abbrev pub ShapedRdataIsItself : Type 0
ShapedRdataIsItself = (rtype : ℕ) (rdata : List ℕ) → KeepsShape (shape_of rtype) rdata → rdata_at rtype rdata 0 (length rdata) ≡ Ok rdata
