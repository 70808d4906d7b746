-- What a reader of a file keeps, for which histories it stands, and what its calls answer.
use Rattle.std.specs.Prelude.{◌≡◌, ℕ, ◌+◌, Bool, true, false, List, [], ◌∷◌, ◌++◌, length, slice_get, Option, Some, None, option_and_then, Result, Ok, Err, if◌then◌else◌}
use Rattle.cd_block.specs.declared.block.Block.{Block}
use Rattle.cd_block.specs.declared.params.Params.{Params}
use Rattle.cd_file.specs.declared.refusal.BadFile.{BadFile}
use Rattle.cd_file.specs.declared.refusal.FileFault.{FileFault}
use Rattle.cd_file.specs.declared.refusal.FileFault.TheVariants as fault
use Rattle.cd_file.specs.declared.file_reader.Next.{Next}
use Rattle.cd_file.specs.declared.file_reader.Next.TheVariants as next
use Rattle.cd_file.specs.declared.stage.Stage.{Stage}
use Rattle.cd_file.specs.declared.stage.Stage.TheVariants as stage
use Rattle.cd_file.specs.ReadFile.{FileRead, Whole, Open, after_blocks, title_on, chunks_on, preamble_on, array_on, blocks_on, read_file, refusal_in, told_refusal}

-- what is due of a file, and what of its head is known: whether the outer array is open, the title so far, and the block
-- parameters
pub record Due : Type 0 where
  pub stage : Stage
  pub is_open : Bool
  pub title : List ℕ
  pub entries : List Params

-- what is due at first
abbrev pub due_at_first : Due
due_at_first = record { stage = stage.Outer; is_open = false; title = []; entries = [] }

-- what bytes at an offset hold from here on
abbrev pub stage_on : Stage → Bool → List ℕ → List Params → ℕ → List ℕ → FileRead
stage_on stage.Outer is_open title entries at bytes = read_file bytes
stage_on stage.Title is_open title entries at bytes = title_on is_open at bytes
stage_on stage.Chunk is_open title entries at bytes = chunks_on is_open title 0 at bytes
stage_on stage.Preamble is_open title entries at bytes = preamble_on is_open at bytes
stage_on stage.Array is_open title entries at bytes = array_on is_open entries at bytes
stage_on (stage.Block left) is_open title entries at bytes = blocks_on is_open entries left 0 at bytes

-- the same of what is due
abbrev pub reading_on : Due → ℕ → List ℕ → FileRead
reading_on due at bytes = stage_on due.stage due.is_open due.title due.entries at bytes

-- what a reader keeps
pub record Kept : Type 0 where
  -- how many bytes were fed
  pub fed_count : ℕ
  -- the bytes that were fed and are not read, and their offset
  pub held : List ℕ
  pub at : ℕ
  -- what is due there
  pub due : Due
  -- how many blocks were given
  pub given_count : ℕ
  -- the block parameters, once a call for a block came past the head
  pub params : Option (List Params)
  -- the refusal that a call for a block gave, and the one that the last call for the end gave
  pub refused : Option BadFile
  pub ended : Option BadFile
  -- whether a call found no memory and left nothing to go on with
  pub is_spent : Bool

-- Of the bytes fed those up to the offset are read. However the bytes fed go on, the file has the blocks given, and then what
-- the bytes held, and those that come, hold from the offset on.
pub record GoesOn (r : Kept) (fed : List ℕ) (given : List Block) : Type 0 where
  pub place : r.at + length r.held ≡ length fed
  pub reads : (more : List ℕ) → read_file (fed ++ more) ≡ after_blocks given (reading_on r.due r.at (r.held ++ more))

-- However the bytes fed go on, the file has the block parameters told and the blocks given and no other, and this refusal.
pub record IsRefused (bad : BadFile) (r : Kept) (fed : List ℕ) (given : List Block) : Type 0 where
  pub params : (more : List ℕ) → (read_file (fed ++ more)).params ≡ r.params
  pub blocks : (more : List ℕ) → (read_file (fed ++ more)).blocks ≡ given
  pub refusal : (more : List ℕ) → refusal_in (read_file (fed ++ more)) ≡ Some bad

-- a reader goes on, or stands at a refusal
abbrev pub Stands : Option BadFile → Kept → List ℕ → List Block → Type 0
Stands None r fed given = GoesOn r fed given
Stands (Some bad) r fed given = IsRefused bad r fed given

-- A reader that is not spent stands for the bytes fed and the blocks given. What the last call for the end gave is the
-- refusal of a file of just these bytes.
pub record StandsFor (r : Kept) (fed : List ℕ) (given : List Block) : Type 0 where
  pub unspent : r.is_spent ≡ false
  pub count : length fed ≡ r.fed_count
  pub blocks : length given ≡ r.given_count
  pub stands : Stands r.refused r fed given
  pub told : (bad : BadFile) → r.ended ≡ Some bad → told_refusal fed ≡ Some bad

-- The history after a call of `feed`: what was said of the end is not said of more bytes. Where no memory was found, nothing
-- changes.
abbrev pub Feeds : {U E : Type 0} → Kept → Kept → List ℕ → List Block → Result U E → Type 0
Feeds old new fed given (Ok u) =
    StandsFor new fed given × (new.params ≡ old.params) × (new.refused ≡ old.refused) × (new.ended ≡ None)
Feeds old new fed given (Err e) = new ≡ old

-- The history after a call of `next_block`. A block is the next one of the file. The other answers say that all blocks were
-- given that are whole and stand before the first refusal: then the file is open, or whole, or this is its refusal.
abbrev pub Nexts : Kept → List ℕ → List Block → Result Next FileFault → Type 0
Nexts new fed given (Ok (next.Block block)) =
    StandsFor new fed (given ++ block ∷ []) × (rest : List Block) × ((read_file fed).blocks ≡ given ++ block ∷ rest)
Nexts new fed given (Ok next.More) =
    StandsFor new fed given × ((read_file fed).blocks ≡ given) × ((read_file fed).end ≡ Open)
Nexts new fed given (Ok next.End) =
    StandsFor new fed given × ((read_file fed).blocks ≡ given) × ((read_file fed).end ≡ Whole)
Nexts new fed given (Err (fault.Bad bad)) =
    StandsFor new fed given × ((read_file fed).blocks ≡ given) × (refusal_in (read_file fed) ≡ Some bad)
Nexts new fed given (Err fault.NoMemory) = new.is_spent ≡ true

-- what a call of `next_block` keeps: what was said of the end, and the refusal that it gives
abbrev pub NextKeeps : Kept → Kept → Result Next FileFault → Type 0
NextKeeps old new (Ok answer) = (new.ended ≡ old.ended) × (new.refused ≡ None)
NextKeeps old new (Err (fault.Bad bad)) = (new.ended ≡ old.ended) × (new.refused ≡ Some bad)
NextKeeps old new (Err fault.NoMemory) = Unit {0}

-- The block parameters that are told after a call of `next_block`: those of the head, once it is whole.
abbrev pub Tells : Kept → List ℕ → Result Next FileFault → Type 0
Tells new fed (Ok answer) = new.params ≡ (read_file fed).params
Tells new fed (Err (fault.Bad bad)) = new.params ≡ (read_file fed).params
Tells new fed (Err fault.NoMemory) = Unit {0}

-- The history after a call of `end`: where no byte comes after those fed, the file is whole, or this is its refusal.
abbrev pub Ends : {U : Type 0} → Kept → List ℕ → List Block → Result U FileFault → Type 0
Ends new fed given (Ok u) = StandsFor new fed given × ((read_file fed).end ≡ Whole)
Ends new fed given (Err (fault.Bad bad)) = StandsFor new fed given × (told_refusal fed ≡ Some bad)
Ends new fed given (Err fault.NoMemory) = new.is_spent ≡ true

-- what a call of `end` keeps: the block parameters told, the refusal that a call for a block gave, and the one that it gives
abbrev pub EndKeeps : {U : Type 0} → Kept → Kept → Result U FileFault → Type 0
EndKeeps old new (Ok u) = (new.params ≡ old.params) × (new.refused ≡ old.refused) × (new.ended ≡ None)
EndKeeps old new (Err (fault.Bad bad)) = (new.params ≡ old.params) × (new.refused ≡ old.refused) × (new.ended ≡ Some bad)
EndKeeps old new (Err fault.NoMemory) = Unit {0}

-- a refusal that is kept is the answer again, for which no memory is wanted
abbrev pub RefusesAgain : {A : Type 0} → Kept → Option BadFile → Result A FileFault → Type 0
RefusesAgain old refused result = (bad : BadFile) → old.is_spent ≡ false → refused ≡ Some bad → result ≡ Err (fault.Bad bad)

-- a spent reader finds no memory, and stays as it is
abbrev pub StaysSpent : {A E : Type 0} → E → Kept → Kept → Result A E → Type 0
StaysSpent none old new result = old.is_spent ≡ true → (result ≡ Err none) × (new ≡ old)

-- the block parameters with this number, among those told by a reader that is not spent
abbrev pub told_params : Kept → ℕ → Option Params
told_params r number =
    if r.is_spent then None else option_and_then (λ entries. slice_get entries number) r.params
