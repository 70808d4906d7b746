-- Where an item ends of which the first heads were passed, and what a scan of its bytes keeps.
use Rattle.std.specs.Prelude.{◌≡◌, ℕ, ◌+◌, ◌-◌, ◌<◌, ◌≤◌, nat_eq, Bool, true, false, List, [], ◌∷◌, ◌++◌, length, drop, Option, Some, None, Result, Ok, Err, All, if◌then◌else◌}
use Rattle.cd_cbor.specs.Spells.{most_string}
use Rattle.cd_cbor.specs.Readings.{Reading, ◌>>=◌, refused, byte_at, times, until_break}
use Rattle.cd_cbor.specs.Ends.{end_of}
use Rattle.cd_cbor.specs.Reading.{chunk_at, entry_at, item_at}
use Rattle.cd_cbor.specs.Events.{innermost, passed, acted, head_front, MayAct}
use Rattle.cd_cbor.specs.declared.wanted.Wanted.{Wanted}
use Rattle.cd_cbor.specs.declared.wanted.Wanted.TheVariants as wanted
use Rattle.cd_cbor.specs.declared.event.Told.{Told}
use Rattle.cd_cbor.specs.declared.event.Told.TheVariants as told
use Rattle.cd_cbor.specs.declared.head_passing.Done.{Done}
use Rattle.cd_cbor.specs.declared.head_passing.Done.TheVariants as done
use Rattle.cd_cbor.specs.declared.scan.Due.{Due}
use Rattle.cd_cbor.specs.declared.scan.Due.TheVariants as due
use Rattle.cd_cbor.specs.declared.scan.Judged.{Judged}
use Rattle.cd_cbor.specs.declared.scan.Judged.TheVariants as judged
use Rattle.cd_cbor.specs.declared.fault.Why.{Why}
use Rattle.cd_cbor.specs.declared.fault.Why.TheVariants as why
use Rattle.cd_cbor.specs.declared.fault.CborFault.{CborFault}
use Rattle.cd_cbor.specs.declared.fault.CborFault.TheVariants as fault

-- where all that is open ends, from after an item of the innermost on
unfoldable pub all_left : ℕ → List ℕ → List Wanted → ℕ → Result ℕ CborFault
all_left depth bytes [] at = Ok at
all_left depth bytes (wanted.Items n ∷ around) at = do
  items ← times n (item_at (depth - length (wanted.Items n ∷ around)) bytes why.Break) at
  all_left depth bytes around items.1
all_left depth bytes (wanted.Pairs n ∷ around) at = do
  value ← item_at (depth - length (wanted.Pairs n ∷ around)) bytes why.Break at
  pairs ← times n (entry_at (item_at (depth - length (wanted.Pairs n ∷ around)) bytes) why.Break) value.1
  all_left depth bytes around pairs.1
all_left depth bytes (wanted.Half n ∷ around) at = do
  pairs ← times n (entry_at (item_at (depth - length (wanted.Half n ∷ around)) bytes) why.Break) at
  all_left depth bytes around pairs.1
all_left depth bytes (wanted.Elements ∷ around) at = do
  items ← until_break (λ place. place) bytes (length bytes) (item_at (depth - length (wanted.Elements ∷ around)) bytes why.Break) at
  all_left depth bytes around items.1
all_left depth bytes (wanted.Keys ∷ around) at = do
  value ← item_at (depth - length (wanted.Keys ∷ around)) bytes why.Odd at
  pairs ← until_break (λ place. place) bytes (length bytes) (entry_at (item_at (depth - length (wanted.Keys ∷ around)) bytes) why.Odd) value.1
  all_left depth bytes around pairs.1
all_left depth bytes (wanted.Value ∷ around) at = do
  pairs ← until_break (λ place. place) bytes (length bytes) (entry_at (item_at (depth - length (wanted.Value ∷ around)) bytes) why.Odd) at
  all_left depth bytes around pairs.1

-- the fault that a break is where this is wanted, unless it may stand there
abbrev pub break_fault : Option Wanted → Option Why
break_fault None = Some why.Break
break_fault (Some (wanted.Items n)) = Some why.Break
break_fault (Some (wanted.Pairs n)) = Some why.Break
break_fault (Some (wanted.Half n)) = Some why.Break
break_fault (Some wanted.Elements) = None
break_fault (Some wanted.Keys) = None
break_fault (Some wanted.Value) = Some why.Odd

-- where all that is open ends, from where an item is due on, and a break has this fault, or ends the innermost
unfoldable pub due_by : Option Why → ℕ → List ℕ → List Wanted → ℕ → Result ℕ CborFault
due_by (Some reason) depth bytes wants at = do
  item ← item_at (depth - length wants) bytes reason at
  all_left depth bytes wants item.1
due_by None depth bytes wants at = do
  first ← byte_at at bytes
  if nat_eq first 0xff then all_left depth bytes (drop 1 wants) (at + 1)
      else (do
        item ← item_at (depth - length wants) bytes why.Break at
        all_left depth bytes wants item.1)

-- where all ends: from where an item is due on, or a chunk of a string with so many bytes in chunks before, or nothing
unfoldable pub all_due : ℕ → List ℕ → List Wanted → Due → ℕ → Result ℕ CborFault
all_due depth bytes wants due.Head at = due_by (break_fault (innermost wants)) depth bytes wants at
all_due depth bytes wants (due.Chunk is_text before) at = do
  chunks ← until_break (λ place. place.1) bytes (length bytes) (chunk_at is_text bytes) (before, at)
  all_left depth bytes wants chunks.1
all_due depth bytes wants due.Nothing at = Ok at

-- what a head does, of what it tells
abbrev pub done_of : Told × ℕ → Reading Done
done_of (told.Event e act, size) = Ok (done.Act act, size)
done_of (told.Chunks is_text, size) = Ok (done.Chunks is_text, size)

-- what the head does that is read to tell this
abbrev pub done_by : Reading Told → Reading Done
done_by front = front >>= done_of

-- what the head at the front of some bytes does, where this is wanted and so many more may be open
abbrev pub done_front : ℕ → Option Wanted → List ℕ → Reading Done
done_front room top bytes = done_by (head_front room top bytes)

-- an array, a map or a tag is opened only where one more may be
abbrev pub MayDo : ℕ → Done → Type 0
MayDo room (done.Act act) = MayAct act room
MayDo room (done.Chunks is_text) = Unit {0}

-- what is due where this is open after an item: nothing, where nothing is
abbrev pub due_after : List Wanted → Due
due_after [] = due.Nothing
due_after (top ∷ around) = due.Head

-- what is open, and what is due, after a head
abbrev pub after_done : List Wanted → Done → List Wanted × Due
after_done wants (done.Act act) = (acted act wants, due_after (acted act wants))
after_done wants (done.Chunks is_text) = (wants, due.Chunk is_text 0)

-- what is open, and what is due, after what is due at the front of some bytes, and its size
unfoldable pub due_front : ℕ → List Wanted → Due → List ℕ → Reading (List Wanted × Due)
due_front depth wants due.Head bytes = do
  head ← done_front (depth - length wants) (innermost wants) bytes
  Ok (after_done wants head.0, head.1)
due_front depth wants (due.Chunk is_text before) bytes = do
  first ← byte_at 0 bytes
  if nat_eq first 0xff then Ok ((passed wants, due_after (passed wants)), 1)
      else (do
        chunk ← chunk_at is_text bytes (before, 0)
        Ok ((wants, due.Chunk is_text chunk.1.0), chunk.1.1))
due_front depth wants due.Nothing bytes = Ok ((wants, due.Nothing), 0)

-- so many bytes are in chunks of a string at most
abbrev pub IsShort : Due → Type 0
IsShort due.Head = Unit {0}
IsShort (due.Chunk is_text before) = before ≤ most_string
IsShort due.Nothing = Unit {0}

-- What a scan keeps: how many arrays, maps and tags may be open, the offset up to which all bytes were passed, what is
-- open there, from the innermost on, and what is due.
pub record Mark : Type 0 where
  pub depth : ℕ
  pub at : ℕ
  pub wants : List Wanted
  pub due : Due

-- A mark stands for the bytes of an item that begins at this offset: however they go on, the item ends where all ends from
-- the mark on.
pub record IsMarked (start : ℕ) (mark : Mark) (bytes : List ℕ) : Type 0 where
  pub within : mark.at ≤ length bytes
  pub goes_on : (more : List ℕ) → All (λ byte. byte < 256) (bytes ++ more) →
      end_of (item_at mark.depth (bytes ++ more) why.Break start) ≡ all_due mark.depth (bytes ++ more) mark.wants mark.due mark.at

-- A call that passes what is due at the mark, a head or a chunk; or nothing is due; or a fault is there, and nothing changes.
abbrev pub Passes : Mark → Mark → List ℕ → Result Bool CborFault → Type 0
Passes old new bytes (Ok false) =
    (size : ℕ) × (due_front old.depth old.wants old.due (drop old.at bytes) ≡ Ok ((new.wants, new.due), size)) × (1 ≤ size) × (new.at ≡ old.at + size)
    × (new.at ≤ length bytes) × (new.depth ≡ old.depth)
Passes old new bytes (Ok true) = (old.due ≡ due.Nothing) × (new ≡ old)
Passes old new bytes (Err (fault.Bad place reason)) =
    (due_front old.depth old.wants old.due (drop old.at bytes) ≡ refused place reason) × (old.at + place ≤ length bytes) × (new ≡ old)
Passes old new bytes (Err fault.NoMemory) = ⊥

-- a fault at the front of the bytes from this offset on lies within so many
abbrev pub LiesBefore : ℕ → ℕ → CborFault → Type 0
LiesBefore count at (fault.Bad place reason) = at + place ≤ count
LiesBefore count at fault.NoMemory = ⊥

-- what a scan says at a fault at the front of the bytes from this offset on
abbrev pub TellsFault : CborFault → ℕ → Judged → Type 0
TellsFault fault.NoMemory at told = ⊥
TellsFault (fault.Bad place reason) at (judged.Whole end) = ⊥
TellsFault (fault.Bad place reason) at (judged.Bad there shown) = (there ≡ at + place) × (shown ≡ reason) × (reason ≡ why.End → ⊥)
TellsFault (fault.Bad place reason) at judged.More = reason ≡ why.End

-- What a scan says of what is read: where the item ends, or the first fault but for an end, or that the bytes end.
abbrev pub Judges : {A : Type 0} → Judged → Reading A → Type 0
Judges (judged.Whole end) reading = end_of reading ≡ Ok end
Judges (judged.Bad at reason) reading = (reading ≡ refused at reason) × (reason ≡ why.End → ⊥)
Judges judged.More reading = (at : ℕ) × (reading ≡ refused at why.End)
