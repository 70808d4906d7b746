-- What the calls answer that read the parts of a file at the front of some bytes.
use Rattle.std.specs.Prelude.{◌≡◌, ℕ, ◌+◌, ◌<◌, List, take, Result, Ok, Err}
use Rattle.cd_cbor.specs.Scanning.{Mark, IsMarked}
use Rattle.cd_cbor.specs.declared.item.Item.{Item}
use Rattle.cd_cbor.specs.declared.fault.Why.TheVariants as why
use Rattle.cd_cbor.specs.declared.fault.CborFault.{CborFault}
use Rattle.cd_cbor.specs.declared.fault.CborFault.TheVariants as fault
use Rattle.cd_file.specs.declared.refusal.FileWhy.TheVariants.{Cbor}
use Rattle.cd_file.specs.declared.fronts.ending.Ending.{Ending}
use Rattle.cd_file.specs.declared.fronts.ending.Ending.TheVariants as ending
use Rattle.cd_file.specs.declared.fronts.ending.Unread.{Unread}
use Rattle.cd_file.specs.declared.fronts.ending.Unread.TheVariants as unread
use Rattle.cd_file.specs.declared.fronts.heads.Head.{Head}
use Rattle.cd_file.specs.ItemHeads.{ItemHead}
use Rattle.cd_file.specs.ReadFile.{FileEnd, Whole, Open, Refused, Front, most_item}

-- how a file ends
abbrev pub ending_of : Ending → FileEnd
ending_of ending.Whole = Whole
ending_of ending.Open = Open
ending_of (ending.Refused reason) = Refused reason

-- what a call answers, looked at by a view, is what stands at the front of some bytes, or how the file ends there
abbrev pub GivesFront : {X Y : Type 0} → (X → Y) → Result X Ending → Result Y FileEnd → Type 0
GivesFront view (Ok x) front = front ≡ Ok (view x)
GivesFront view (Err e) front = front ≡ Err (ending_of e)

-- the same, unless memory ran out
abbrev pub GivesPart : {X Y : Type 0} → (X → Y) → Result X Unread → Result Y FileEnd → Type 0
GivesPart view (Ok x) front = front ≡ Ok (view x)
GivesPart view (Err (unread.Ended e)) front = front ≡ Err (ending_of e)
GivesPart view (Err unread.NoMemory) front = Unit {0}

-- how a file ends at a fault of its bytes from an offset on, where bytes that end too early are this
abbrev pub fault_end : FileEnd → ℕ → CborFault → FileEnd
fault_end unfinished at (fault.Bad place why.End) = unfinished
fault_end unfinished at (fault.Bad place reason) = Refused (Cbor (at + place))
fault_end unfinished at fault.NoMemory = unfinished

-- a fault of the bytes from an offset on lies below this one
abbrev pub LiesBelow : ℕ → ℕ → CborFault → Type 0
LiesBelow most at (fault.Bad place reason) = at + place < most
LiesBelow most at fault.NoMemory = Unit {0}

-- a head
abbrev pub head_of : Head → ItemHead
head_of head = record { kind = head.kind; argument = head.argument }

-- A scan of an item in which so many arrays, maps and tags may be open stands for the bytes of it that are held: for those
-- that are judged, at most as many as the longest preamble or block has.
pub record StandsForItem (depth : ℕ) (mark : Mark) (held : List ℕ) : Type 0 where
  pub deep : mark.depth ≡ depth
  pub marked : IsMarked 0 mark (take most_item held)

-- what a scan says of the item at the front: its size, or how the file ends there
abbrev pub JudgesItem : Result ℕ Ending → Front Item → Type 0
JudgesItem (Ok size) front = (item : Item) × (front ≡ Ok (item, size))
JudgesItem (Err e) front = front ≡ Err (ending_of e)
