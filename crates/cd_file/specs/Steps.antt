-- What one step of a reader of a file changes: a part is read at the front of the bytes that are held.
use Rattle.std.specs.Prelude.{◌≡◌, ℕ, ◌+◌, ◌<◌, ◌≤◌, List, [], ◌∷◌, ◌++◌, length, Option, Some, None, Result, Ok, Err}
use Rattle.cd_block.specs.declared.block.Block.{Block}
use Rattle.cd_block.specs.declared.params.Params.{Params}
use Rattle.cd_file.specs.declared.file_reader.Next.{Next}
use Rattle.cd_file.specs.declared.file_reader.Next.TheVariants as next
use Rattle.cd_file.specs.declared.fronts.ending.Ending.{Ending}
use Rattle.cd_file.specs.declared.fronts.ending.Unread.{Unread}
use Rattle.cd_file.specs.declared.fronts.ending.Unread.TheVariants as unread
use Rattle.cd_file.specs.declared.refusal.FileFault.{FileFault}
use Rattle.cd_file.specs.ReadFile.{FileEnd, FileRead, after_blocks, number_after}
use Rattle.cd_file.specs.FileReading.{Kept, reading_on}
use Rattle.cd_file.specs.Fronts.{ending_of}
use Rattle.cd_file.specs.Passing.{Progressed, due_of, told_at, IsKnown}

-- A part that has these blocks was read: however the bytes go on, what they hold are these blocks, and then what is read from
-- after the part on.
pub record Moves (old new : Kept) (blocks : List Block) : Type 0 where
  pub ahead : old.at < new.at
  pub place : new.at + length new.held ≡ old.at + length old.held
  pub reads : (more : List ℕ) → reading_on old.due old.at (old.held ++ more) ≡ after_blocks blocks (reading_on new.due new.at (new.held ++ more))
  pub known : IsKnown blocks new.due
  pub told : new.params ≡ told_at new.due.stage new.due.entries
  pub given : new.given_count ≡ old.given_count + length blocks
  pub fed : new.fed_count ≡ old.fed_count
  pub refused : new.refused ≡ old.refused
  pub ended : new.ended ≡ old.ended
  pub spent : new.is_spent ≡ old.is_spent

-- the block that was found, if one was
abbrev pub found_in : Option Block → List Block
found_in None = []
found_in (Some block) = block ∷ []

-- a file that ends so, with the block parameters that are told
abbrev pub ended_here : Kept → FileEnd → FileRead
ended_here r e = record { params = r.params; blocks = []; end = e }

-- A step of a reader: a part was read, or the file ends so, or memory ran out, and then nothing changes.
abbrev pub Steps : Kept → Kept → Result (Option Block) Unread → Type 0
Steps old new (Ok found) = Moves old new (found_in found)
Steps old new (Err (unread.Ended e)) = (new ≡ old) × (reading_on old.due old.at old.held ≡ ended_here old (ending_of e))
Steps old new (Err unread.NoMemory) = new ≡ old

-- the offset never falls, and rises where a block is given
abbrev pub MovesOn : Kept → Kept → Result Next FileFault → Type 0
MovesOn old new (Ok (next.Block block)) = old.at < new.at
MovesOn old new (Ok next.More) = old.at ≤ new.at
MovesOn old new (Ok next.End) = old.at ≤ new.at
MovesOn old new (Err fault) = old.at ≤ new.at

-- what is read from here on
abbrev pub rest_of : Kept → FileRead
rest_of r = reading_on r.due r.at r.held

-- The answer of a call that looks ahead: how the bytes held end, and the number of what stands there, or that memory ran out.
abbrev pub LooksAhead : {E : Type 0} → Kept → Result (Ending × ℕ) E → Type 0
LooksAhead r (Ok x) =
    ((rest_of r).end ≡ ending_of x.0) × (x.1 ≡ number_after (rest_of r).params (r.given_count + length (rest_of r).blocks))
LooksAhead r (Err e) = Unit {0}

-- In the course of looking ahead so many blocks were read, and what is left ends as all does.
pub record IsAhead (total : FileRead) (given : ℕ) (p : Progressed) (entry_count at : ℕ) (held : List ℕ) (count : ℕ) : Type 0 where
  pub entries : List Params
  pub few : length entries ≡ entry_count
  pub end : total.end ≡ (reading_on (due_of p entries) at held).end
  pub params : total.params ≡ (reading_on (due_of p entries) at held).params
  pub blocks : given + length total.blocks ≡ count + length (reading_on (due_of p entries) at held).blocks
