-- What a call does that writes a piece of a message.
use Rattle.std.specs.Prelude.{◌≡◌, ℕ, ◌+◌, ◌<◌, ◌≤◌, List, length, take, drop, Option, Some, None, Result, Ok, Err}
use Rattle.std.specs.List.{All, concat}
use Rattle.cd_name.specs.Names.{IsName}
use Rattle.cd_name.specs.WrittenNames.{Piece, Writes}
use Rattle.cd_message.specs.declared.message.Message.{Message}
use Rattle.cd_message.specs.declared.rdata_writing.Parts.{Parts}
use Rattle.cd_message.specs.declared.writing.Writing.{Writing}
use Rattle.cd_message.specs.declared.writing.WriteFault.{WriteFault}
use Rattle.cd_message.specs.declared.writing.WriteFault.TheVariants.{TooLong, NoMemory}
use Rattle.cd_message.specs.Written.{RdataParts, names_in_front}

-- A call writes a piece, and the message has at most 65,535 bytes then; or it would have more; or memory ran out.
abbrev pub Puts : Piece → Writing → Writing → Result (Unit {0}) WriteFault → Type 0
Puts piece old new (Ok _) = Writes piece old.bytes old.names new.bytes new.names × (length new.bytes ≤ 65535)
Puts piece old new (Err TooLong) = 65535 < length old.bytes + length (piece old.names (length old.bytes)).bytes
Puts piece old new (Err NoMemory) = Unit {0}

-- so many bytes are so many names without pointers, with which some bytes begin; or these do not begin so
abbrev pub AreNamesInFront : ℕ → List ℕ → Option ℕ → Type 0
AreNamesInFront count bytes None = names_in_front count bytes ≡ None
AreNamesInFront count bytes (Some size) = (names : List (List ℕ)) × (names_in_front count bytes ≡ Some (names, drop size bytes)) × (size ≤ length bytes) × (take size bytes ≡ concat names) × All IsName names

-- slices are the parts of RDATA, if there are parts
abbrev pub ArePartsOf : Option RdataParts → Option Parts → Type 0
ArePartsOf parts None = parts ≡ None
ArePartsOf parts (Some found) = (names : List (List ℕ)) × (parts ≡ Some (record { before = found.before.now; names = names; after = found.after.now })) × (found.names.now ≡ concat names) × All IsName names

-- the sections of a message have at most 65,535 entries each
pub record FewEntries (m : Message) : Type 0 where
  pub questions : length m.questions ≤ 65535
  pub answers : length m.answers ≤ 65535
  pub authority : length m.authority ≤ 65535
  pub additional : length m.additional ≤ 65535
