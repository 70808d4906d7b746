-- How a reader of a file goes on, part by part: what it knows of the file, and what a part at the front of the bytes changes.
use Rattle.std.specs.Prelude.{◌≡◌, ℕ, ◌+◌, ◌≤◌, nat_eq, Bool, List, [], ◌∷◌, ◌++◌, length, drop, Option, Some, None, Result, Ok, Err, if◌then◌else◌}
use Rattle.cd_cbor.specs.Scanning.{Mark}
use Rattle.cd_block.specs.declared.block.Block.{Block}
use Rattle.cd_block.specs.declared.params.Params.{Params}
use Rattle.cd_file.specs.declared.fronts.ending.Unread.{Unread}
use Rattle.cd_file.specs.declared.fronts.ending.Unread.TheVariants as unread
use Rattle.cd_file.specs.declared.progress.Found.{Found}
use Rattle.cd_file.specs.declared.progress.Found.TheVariants as found
use Rattle.cd_file.specs.declared.stage.Stage.{Stage}
use Rattle.cd_file.specs.declared.stage.Stage.TheVariants as stage
use Rattle.cd_file.specs.ReadFile.{FileEnd, FileRead, after_blocks, begins_with_break, closing}
use Rattle.cd_file.specs.FileReading.{Due, reading_on}
use Rattle.cd_file.specs.Fronts.{ending_of, StandsForItem}

-- what is known of a file but for its block parameters, and what the scan of the preamble or of a block keeps
pub record Progressed : Type 0 where
  pub stage : Stage
  pub is_open : Bool
  pub title : List ℕ
  pub mark : Mark

-- the block parameters that count: those of the preamble, once it is read
abbrev pub known_at : Stage → List Params → List Params
known_at stage.Array entries = entries
known_at (stage.Block left) entries = entries
known_at other entries = []

-- what is due of a file of which this is known
abbrev pub due_of : Progressed → List Params → Due
due_of p entries = record { stage = p.stage; is_open = p.is_open; title = p.title; entries = known_at p.stage entries }

-- the block parameters that are told, once blocks are due
abbrev pub told_at : Stage → List Params → Option (List Params)
told_at (stage.Block left) entries = Some entries
told_at other entries = None

-- a file that ends so where this is due
abbrev pub ended_so : Due → FileEnd → FileRead
ended_so due e = record { params = told_at due.stage due.entries; blocks = []; end = e }

-- the outer array is due at the start of the file alone
abbrev pub IsPlaced : Stage → ℕ → Type 0
IsPlaced stage.Outer at = at ≡ 0
IsPlaced other at = Unit {0}

-- the scan of the preamble or of a block stands for the bytes held, where one is due
abbrev pub IsScanned : Stage → Mark → List ℕ → Type 0
IsScanned stage.Preamble mark held = StandsForItem 15 mark held
IsScanned (stage.Block left) mark held = StandsForItem 14 mark held
IsScanned other mark held = Unit {0}

-- the block that a part is, if it is one
abbrev pub blocks_in : Found → List Block
blocks_in found.Nothing = []
blocks_in (found.Entries entries) = []
blocks_in (found.Block block) = block ∷ []

-- the block parameters after a part
abbrev pub entries_after : Found → List Params → List Params
entries_after found.Nothing before = before
entries_after (found.Entries entries) before = entries
entries_after (found.Block block) before = before

-- Once a block was found, the block parameters are those that are told.
abbrev pub IsKnown : List Block → Due → Type 0
IsKnown [] due = Unit {0}
IsKnown (block ∷ blocks) due = (at : ℕ) (bytes : List ℕ) → (reading_on due at bytes).params ≡ told_at due.stage due.entries

-- A part of this size at the front of the bytes held, at an offset, has these blocks: however the bytes go on, what they hold
-- are these blocks, and then what is read after the part.
pub record Advances (old new : Due) (at size : ℕ) (held : List ℕ) (blocks : List Block) : Type 0 where
  pub some : 1 ≤ size
  pub within : size ≤ length held
  pub placed : IsPlaced new.stage (at + size)
  pub known : IsKnown blocks new
  pub reads : (more : List ℕ) → reading_on old at (held ++ more) ≡ after_blocks blocks (reading_on new (at + size) (drop size held ++ more))

-- What a call answers that reads a part at the front of the bytes held: what it is, and its size; or how the file ends there,
-- or that memory ran out, and then the same is due.
abbrev pub Passes : Progressed → Progressed → List Params → ℕ → List ℕ → Result (Found × ℕ) Unread → Type 0
Passes old new entries at held (Ok x) =
    Advances (due_of old entries) (due_of new (entries_after x.0 entries)) at x.1 held (blocks_in x.0) × IsScanned new.stage new.mark (drop x.1 held)
Passes old new entries at held (Err (unread.Ended e)) =
    (due_of new entries ≡ due_of old entries) × IsScanned new.stage new.mark held
    × (reading_on (due_of old entries) at held ≡ ended_so (due_of old entries) (ending_of e))
Passes old new entries at held (Err unread.NoMemory) =
    (due_of new entries ≡ due_of old entries) × IsScanned new.stage new.mark held

-- how a file ends where no further block is due: none is to come, or the array of blocks ends here
unfoldable pub end_of_blocks : Bool → Option ℕ → List ℕ → Option FileEnd
end_of_blocks is_open (Some n) bytes = if nat_eq n 0 then Some (closing is_open bytes) else None
end_of_blocks is_open None bytes = if begins_with_break bytes then Some (closing is_open (drop 1 bytes)) else None
