-- For which histories an inspection stands, and what its steps do.
use Rattle.std.specs.Prelude.{◌≡◌, ℕ, ◌+◌, Bool, true, false, List, ◌++◌, length, Option, Some, None, Ok, Err}
use Rattle.cd_block.specs.Resolving.{Unresolved, resolved}
use Rattle.cd_block.specs.declared.block.Block.{Block}
use Rattle.cd_block.specs.declared.kept.KeptBlock.{KeptBlock}
use Rattle.cd_block.specs.declared.resolving.fault.ResolveFault.{ResolveFault}
use Rattle.cd_block.specs.declared.resolving.fault.ResolveFault.TheVariants as unresolved
use Rattle.cd_file.specs.FileReading.{Kept, told_params}
use Rattle.cd_file.specs.FileReading as reader
use Rattle.cd_file.specs.KeptFile.{kept_file, kept_refusal_in, why_unresolved}
use Rattle.cd_file.specs.ReadFile.{FileEnd, Whole, Open, read_file}
use Rattle.cd_file.specs.declared.refusal.BadFile.{BadFile}
use Rattle.cd_file.specs.declared.refusal.FileWhy.{FileWhy}
use Rattle.cd_file.specs.declared.refusal.FileWhy.TheVariants.{Index, Name, Cbor}
use Rattle.cd_inspection.specs.Inspecting.{Rendering, Inspected, with_block, inspected, inspected_in}
use Rattle.cd_inspection.specs.Resolved.{ResolveTo}

-- what an inspection shows: its reader, what the bytes fed are refused for, whether the file is whole, how many blocks were
-- inspected, what is counted of them, what was written of them and not cleared, and whether a call found no memory
pub record InspectionSeen (C : Type 0) : Type 0 where
  pub reader : Kept
  pub refused : Option BadFile
  pub is_whole : Bool
  pub block_count : ℕ
  pub counts : C
  pub output : List ℕ
  pub spent : Bool

-- the end of a file that is whole, or is open
abbrev pub end_of : Bool → FileEnd
end_of true = Whole
end_of false = Open

-- what was written and counted so far, where these bytes were cleared
abbrev pub so_far : {C : Type 0} → InspectionSeen C → List ℕ → Inspected C
so_far m cleared = record { bytes = cleared ++ m.output; counts = m.counts }

-- In the course of taking blocks: those that were given of the bytes fed resolve, and are inspected.
pub record Course {C : Type 0} (r : Rendering C) (m : InspectionSeen C) (fed cleared : List ℕ) : Type 0 where
  pub given : List Block
  pub kept : List KeptBlock
  pub reads : reader.StandsFor m.reader fed given
  pub unrefused : m.reader.refused ≡ None
  pub resolved : ResolveTo given kept
  pub number : m.block_count ≡ length kept
  pub inspected : so_far m cleared ≡ inspected r (read_file fed).params kept

-- All blocks that the bytes fed hold whole were given and resolve, and the file goes on or is whole.
pub record GoesOn {C : Type 0} (m : InspectionSeen C) (fed : List ℕ) : Type 0 where
  pub given : List Block
  pub kept : List KeptBlock
  pub reads : reader.StandsFor m.reader fed given
  pub unrefused : m.reader.refused ≡ None
  pub resolved : ResolveTo given kept
  pub blocks : (read_file fed).blocks ≡ given
  pub end : (read_file fed).end ≡ end_of m.is_whole
  pub params : m.reader.params ≡ (read_file fed).params

-- The blocks before the first refusal of the bytes fed, which is this, or all were inspected.
pub record HasTaken {C : Type 0} (r : Rendering C) (m : InspectionSeen C) (fed cleared : List ℕ) (refused : Option BadFile) : Type 0 where
  pub refusal : refused ≡ kept_refusal_in (kept_file fed)
  pub number : m.block_count ≡ length (kept_file fed).blocks
  pub inspected : so_far m cleared ≡ inspected_in r (kept_file fed)
  pub goes_on : refused ≡ None → GoesOn m fed

-- The inspection was fed these bytes, and this output was cleared. From a refusal on nothing is read.
pub record InspectionStands {C : Type 0} (r : Rendering C) (m : InspectionSeen C) (fed cleared : List ℕ) : Type 0 where
  pub fresh : m.spent ≡ false
  pub taken : HasTaken r m fed cleared m.refused

-- an inspection after a block with this kept block
abbrev pub with_kept : {C : Type 0} → Rendering C → InspectionSeen C → KeptBlock → InspectionSeen C
with_kept {C = C} r m k =
    let after : Inspected C = with_block r k (record { bytes = m.output; counts = m.counts }) (told_params m.reader k.params) in
    record m { block_count = m.block_count + 1; counts = after.counts; output = after.bytes }

-- the refusal of the next block, where it does not resolve
abbrev pub refused_next : {C : Type 0} → InspectionSeen C → Unresolved → BadFile
refused_next m why = record { block = m.block_count + 1; why = why_unresolved why }

-- A block was taken.
pub record TookBlock {C : Type 0} (r : Rendering C) (old new : InspectionSeen C) (block : Block) : Type 0 where
  pub kept : KeptBlock
  pub resolves : resolved block ≡ Ok kept
  pub same : new ≡ with_kept r old kept

-- A block does not resolve, and nothing changed.
pub record RefusedBlock {C : Type 0} (old new : InspectionSeen C) (block : Block) (bad : BadFile) : Type 0 where
  pub why : Unresolved
  pub fails : resolved block ≡ Err why
  pub refusal : bad ≡ refused_next old why
  pub same : new ≡ old

-- a block was taken, or does not resolve
abbrev pub TakesBlock : {C : Type 0} → Rendering C → InspectionSeen C → InspectionSeen C → Block → Option BadFile → Type 0
TakesBlock r old new block None = TookBlock r old new block
TakesBlock r old new block (Some bad) = RefusedBlock old new block bad

-- why a file is refused whose block does not resolve, if not for want of memory
abbrev pub refusal_for : ResolveFault → Option FileWhy
refusal_for (unresolved.Index table) = Some (Index table)
refusal_for unresolved.Name = Some Name
refusal_for unresolved.NoMemory = None

-- the number of what stands after so many blocks: 0 where the head is not whole
abbrev pub next_number : Bool → ℕ → ℕ
next_number false count = 0
next_number true count = count + 1

-- what a file is refused for that goes on or is whole, and has no byte after so many
abbrev pub told_refusal : Bool → Bool → ℕ → ℕ → Option BadFile
told_refusal true has_head block_count fed_count = None
told_refusal false has_head block_count fed_count =
    Some (record { block = next_number has_head block_count; why = Cbor fed_count })
