-- How an item is read where it stands in bytes that hold it: by its head, and by the items in it, one after another.
use Rattle.std.specs.Prelude.{◌≡◌, ℕ, ◌+◌, ◌-◌, ◌^◌, ◌≤◌, nat_eq, ℤ, pos, negsuc, false, List, [], ◌∷◌, ◌++◌, length, drop, Option, Some, None, option_map, Result, Ok, Err, if◌then◌else◌}
use Rattle.cd_cbor.specs.Readings.{piece}
use Rattle.cd_cbor.specs.Reading.{item_at, chunks_at}
use Rattle.cd_cbor.specs.declared.item.Item.{Item}
use Rattle.cd_cbor.specs.declared.item.Item.TheViews.{out-Item}
use Rattle.cd_cbor.specs.declared.item.Item.TheOpen.{Item-F}
use Rattle.cd_cbor.specs.declared.fault.Why.TheVariants as why
use Rattle.cd_cbor.specs.declared.major_type.MajorType.{MajorType}
use Rattle.cd_cbor.specs.declared.major_type.MajorType.TheVariants as major
use Rattle.cd_file.specs.declared.reading.fault.ItemFault.{ItemFault}
use Rattle.cd_file.specs.declared.reading.fault.ItemFault.TheVariants as fault
use Rattle.cd_cbor.specs.declared.integer.Integer.{Integer}
use Rattle.cd_cbor.specs.declared.integer.Integer.TheVariants.{Unsigned, Negative}
use Rattle.cd_file.specs.Refusing.{Refusing, ◌>>=◌}
use Rattle.cd_file.specs.Kinds.{Kind, below, each}
use Rattle.cd_file.specs.ReadFile.{begins_with_break, one_less}

-- this item stands at an offset, in which so many arrays, maps and tags may be open, and ends there
abbrev pub ItemAt : ℕ → List ℕ → ℕ → Item → ℕ → Type 0
ItemAt depth bytes at item end = item_at depth bytes why.Break at ≡ Ok (item, end)

-- where items end, if an offset is their end: so many are left, or all up to a break
abbrev pub ended_at : Option ℕ → List ℕ → ℕ → Option ℕ
ended_at (Some n) bytes at = if nat_eq n 0 then Some at else None
ended_at None bytes at = if begins_with_break (drop at bytes) then Some (at + 1) else None

-- these items stand at an offset, one after another, so many or all up to a break, and end there
abbrev pub ItemsAt : ℕ → List ℕ → Option ℕ → ℕ → List Item → ℕ → Type 0
ItemsAt depth bytes left at [] end = ended_at left bytes at ≡ Some end
ItemsAt depth bytes left at (item ∷ items) end =
    (ended_at left bytes at ≡ None)
    × ((next : ℕ) × ItemAt depth bytes at item next × ItemsAt depth bytes (one_less left) next items end)

-- so do these pairs of a key and a value
abbrev pub PairsAt : ℕ → List ℕ → Option ℕ → ℕ → List (Item × Item) → ℕ → Type 0
PairsAt depth bytes left at [] end = ended_at left bytes at ≡ Some end
PairsAt depth bytes left at (pair ∷ pairs) end =
    (ended_at left bytes at ≡ None)
    × ((middle next : ℕ) × ItemAt depth bytes at pair.0 middle × ItemAt depth bytes middle pair.1 next
    × PairsAt depth bytes (one_less left) next pairs end)

-- What an item that ends there is, by its head: the major type, the argument, if it has one, and the offset behind it.
abbrev pub HeadOf : MajorType → Option ℕ → ℕ → ℕ → List ℕ → Item → ℕ → Type 0
HeadOf major.Unsigned None next depth bytes item end = ⊥
HeadOf major.Unsigned (Some n) next depth bytes item end = (out-Item item ≡ Item-F.Uint n) × (next ≡ end)
HeadOf major.Negative None next depth bytes item end = ⊥
HeadOf major.Negative (Some n) next depth bytes item end = (out-Item item ≡ Item-F.Nint n) × (next ≡ end)
HeadOf major.Bytes None next depth bytes item end =
    (content : List ℕ) × (out-Item item ≡ Item-F.Bytes content) × (chunks_at false next bytes ≡ Ok (content, end))
HeadOf major.Bytes (Some n) next depth bytes item end =
    (out-Item item ≡ Item-F.Bytes (piece next n bytes)) × (next + n ≤ length bytes) × (next + n ≡ end)
HeadOf major.Text argument next depth bytes item end = (content : List ℕ) × (out-Item item ≡ Item-F.Text content)
HeadOf major.Array left next depth bytes item end =
    (items : List Item) × (out-Item item ≡ Item-F.Array items) × ItemsAt (depth - 1) bytes left next items end
HeadOf major.Map left next depth bytes item end =
    (pairs : List (Item × Item)) × (out-Item item ≡ Item-F.Map pairs) × PairsAt (depth - 1) bytes left next pairs end
HeadOf major.Tag argument next depth bytes item end = (content : List ℕ) × (out-Item item ≡ Item-F.Other content)
HeadOf major.Simple argument next depth bytes item end = (content : List ℕ) × (out-Item item ≡ Item-F.Other content)

-- the integer that an item is
abbrev pub number_in : Item-F Item → Option Integer
number_in (Item-F.Uint n) = Some (Unsigned n)
number_in (Item-F.Nint n) = Some (Negative n)
number_in item = None

-- an integer as a signed number of 64 bits
abbrev pub signed_by : Integer → Option ℤ
signed_by (Unsigned n) = option_map pos (below (2 ^ 63) n)
signed_by (Negative n) = option_map negsuc (below (2 ^ 63) n)

-- an integer as a key
abbrev pub key_by : Integer → ℤ
key_by (Unsigned n) = pos n
key_by (Negative n) = negsuc n

-- the integer that a head tells, and the offset behind it
abbrev pub number_of_head : MajorType → Option ℕ → ℕ → Option (Integer × ℕ)
number_of_head major.Unsigned (Some n) next = Some (Unsigned n, next)
number_of_head major.Negative (Some n) next = Some (Negative n, next)
number_of_head kind argument next = None

-- the number from 0 that a head tells, and the offset behind it
abbrev pub unsigned_of_head : MajorType → Option ℕ → ℕ → Option (ℕ × ℕ)
unsigned_of_head major.Unsigned (Some n) next = Some (n, next)
unsigned_of_head kind argument next = None

-- how many items the array of a head has, if its length is definite, and the offset behind it
abbrev pub items_of_head : MajorType → Option ℕ → ℕ → Option (Option ℕ × ℕ)
items_of_head major.Array left next = Some (left, next)
items_of_head kind argument next = None

-- how many pairs the map of a head has, if its length is definite, and the offset behind it
abbrev pub pairs_of_head : MajorType → Option ℕ → ℕ → Option (Option ℕ × ℕ)
pairs_of_head major.Map left next = Some (left, next)
pairs_of_head kind argument next = None

-- the items of an array behind its head, or that an item is none
abbrev pub ViewsItems : Option (Option ℕ × ℕ) → Option (List Item) → ℕ → List ℕ → ℕ → Type 0
ViewsItems None seen depth bytes end = seen ≡ None
ViewsItems (Some x) seen depth bytes end =
    (items : List Item) × (seen ≡ Some items) × ItemsAt (depth - 1) bytes x.0 x.1 items end

-- the pairs of a map behind its head, or that an item is none
abbrev pub ViewsPairs : Option (Option ℕ × ℕ) → Option (List (Item × Item)) → ℕ → List ℕ → ℕ → Type 0
ViewsPairs None seen depth bytes end = seen ≡ None
ViewsPairs (Some x) seen depth bytes end =
    (pairs : List (Item × Item)) × (seen ≡ Some pairs) × PairsAt (depth - 1) bytes x.0 x.1 pairs end

-- what is seen of an item that ends there, if it is of this kind, and the offset behind it
abbrev pub Views : {A : Type 0} → Option (A × ℕ) → Option A → ℕ → Type 0
Views None value end = value ≡ None
Views (Some x) value end = (value ≡ Some x.0) × (x.1 ≡ end)

-- what a call answers that reads an item which ends there: what is read of it, and the offset behind it, or why it is refused,
-- or memory ran out
abbrev pub Reads : {X Y : Type 0} → (X → Y) → Result (X × ℕ) ItemFault → Refusing Y → ℕ → Type 0
Reads view (Ok x) reading end = (reading ≡ Ok (view x.0)) × (x.1 ≡ end)
Reads view (Err (fault.Refused reason)) reading end = reading ≡ Err reason
Reads view (Err fault.NoMemory) reading end = Unit {0}

-- what a call answers that reads the item at an offset
abbrev pub ReadsItem : {X Y : Type 0} → (X → Y) → Result (X × ℕ) ItemFault → ℕ → List ℕ → ℕ → (Item → Refusing Y) → Type 0
ReadsItem view result depth bytes at read =
    (item : Item) (end : ℕ) → ItemAt depth bytes at item end → Reads view result (read item) end

-- what a call answers that puts what it reads of an item which ends there into something
abbrev pub Puts : {Y : Type 0} → Y → Result ℕ ItemFault → Refusing Y → ℕ → Type 0
Puts new (Ok next) reading end = (reading ≡ Ok new) × (next ≡ end)
Puts new (Err (fault.Refused reason)) reading end = reading ≡ Err reason
Puts new (Err fault.NoMemory) reading end = Unit {0}

-- what a call answers that puts what it reads of the item at an offset into something
abbrev pub PutsItem : {Y : Type 0} → Y → Result ℕ ItemFault → ℕ → List ℕ → ℕ → (Item → Refusing Y) → Type 0
PutsItem new result depth bytes at read =
    (item : Item) (end : ℕ) → ItemAt depth bytes at item end → Puts new result (read item) end

-- values before those that are read
abbrev pub with_front : {A : Type 0} → List A → Refusing (List A) → Refusing (List A)
with_front front reading = do
  values ← reading
  Ok (front ++ values)

-- In the course of reading items one after another these values were read, and what is read of the items that are left comes
-- behind them. So many items were passed, each with a byte at least.
pub record Gathers {A : Type 0} (kind : Kind A) (key : ℤ) (depth : ℕ) (bytes : List ℕ) (left : Option ℕ) (here passed : ℕ) (values : List A) (items : List Item) (end : ℕ) : Type 0 where
  pub rest : List Item
  pub stands : ItemsAt depth bytes left here rest end
  pub reads : each kind key items ≡ with_front values (each kind key rest)
  pub far : passed ≤ here
