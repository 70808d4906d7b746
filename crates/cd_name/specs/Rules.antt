-- The rules of names in a message, one by one (RFC 1035 3.1, 4.1.4), as relations. A name is read from left to right.
use Rattle.std.specs.Prelude.{◌≡◌, ◌↔◌, ℕ, ◌+◌, ◌-◌, ◌*◌, ◌<◌, ◌≤◌, List, [], ◌∷◌, ◌++◌, length, take, drop, slice_index, Result, Ok, Err}
use Rattle.cd_name.specs.Names.{NameAt, NameBroken}
use Rattle.cd_name.specs.declared.fault.NameWhy.{NameWhy}
use Rattle.cd_name.specs.declared.fault.NameWhy.TheVariants.{Short, Label, Pointer, LongName}

-- a label of n bytes, 1 to 63, begins at an offset, and its bytes are there
abbrev pub LabelAt : List ℕ → ℕ → ℕ → Type 0
LabelAt p at n = (slice_index p at ≡ n) × (0 < n) × (n ≤ 63) × (at + n < length p)

-- a pointer to a target stands at an offset: two bytes, of which the first is 192 or more
abbrev pub PointerAt : List ℕ → ℕ → ℕ → Type 0
PointerAt p at target = (at + 1 < length p) × (191 < slice_index p at) × (target ≡ (slice_index p at - 192) * 256 + slice_index p (at + 1))

-- in a run that begins at start, the bytes of a name from an offset on, and the offset after its own bytes
pub data ReadsName (p : List ℕ) : ℕ → ℕ → List ℕ → ℕ → Type 0 where
  -- a length byte 0 ends the name
  root : (start at : ℕ) → at < length p → slice_index p at ≡ 0 → ReadsName p start at (0 ∷ []) (at + 1)
  -- a label stands before what is read after it
  label : (start at n : ℕ) (labels : List ℕ) (next : ℕ) → LabelAt p at n → ReadsName p start (at + (n + 1)) labels next →
      ReadsName p start at (take (n + 1) (drop at p) ++ labels) next
  -- at the target of a pointer a new run begins, if it is before the present one
  pointer : (start at target : ℕ) (labels : List ℕ) (next : ℕ) → PointerAt p at target → target < start → ReadsName p target target labels next →
      ReadsName p start at labels (at + 2)

-- in a run that begins at start, the first rule that is broken from an offset on, after so many bytes of labels
pub data BreaksName (p : List ℕ) : ℕ → ℕ → ℕ → NameWhy → Type 0 where
  -- there is no length byte
  no_byte : (start at size : ℕ) → length p ≤ at → BreaksName p start at size Short
  -- a length byte is 64 to 191
  reserved_type : (start at size : ℕ) → at < length p → 63 < slice_index p at → slice_index p at < 192 → BreaksName p start at size Label
  -- bytes of a label are missing
  part_of_label : (start at size : ℕ) → at < length p → 0 < slice_index p at → slice_index p at ≤ 63 → length p ≤ at + slice_index p at → BreaksName p start at size Short
  -- the second byte of a pointer is missing
  part_of_pointer : (start at size : ℕ) → at + 1 ≡ length p → 191 < slice_index p at → BreaksName p start at size Short
  -- a pointer leads to the start of the present run or past it
  forward_pointer : (start at target size : ℕ) → PointerAt p at target → start ≤ target → BreaksName p start at size Pointer
  -- with a label whose bytes are there, the labels and the root have more than 255 bytes
  long_name : (start at n size : ℕ) → LabelAt p at n → 255 < size + (n + 1) + 1 → BreaksName p start at size LongName
  -- a rule is broken after a label
  after_label : (start at n size : ℕ) (why : NameWhy) → LabelAt p at n → size + (n + 1) + 1 ≤ 255 →
      BreaksName p start (at + (n + 1)) (size + (n + 1)) why → BreaksName p start at size why
  -- a rule is broken at the target of a pointer or after it
  after_pointer : (start at target size : ℕ) (why : NameWhy) → PointerAt p at target → target < start → BreaksName p target target size why →
      BreaksName p start at size why

-- a name stands at an offset exactly if the rules read it, and it has at most 255 bytes
abbrev pub ReadByRules : Type 0
ReadByRules = (p : List ℕ) (at : ℕ) (name : List ℕ) (next : ℕ) → NameAt p at name next ↔ (ReadsName p at at name next × (length name ≤ 255))

-- a rule is the first that is broken exactly if the rules say so
abbrev pub BrokenByRules : Type 0
BrokenByRules = (p : List ℕ) (at : ℕ) (why : NameWhy) → NameBroken p at why ↔ BreaksName p at at 0 why

-- the rules give at an offset a name and the offset after its own bytes, or the first rule that is broken
abbrev pub RulesGive : List ℕ → ℕ → Result (List ℕ × ℕ) NameWhy → Type 0
RulesGive p at (Ok r) = ReadsName p at at r.0 r.1 × (length r.0 ≤ 255)
RulesGive p at (Err why) = BreaksName p at at 0 why

-- at each offset of each payload the rules give exactly one of these
abbrev pub RulesGiveOne : Type 0
RulesGiveOne = (p : List ℕ) (at : ℕ) →
    (answer : Result (List ℕ × ℕ) NameWhy) × RulesGive p at answer × ((other : Result (List ℕ × ℕ) NameWhy) → RulesGive p at other → other ≡ answer)
