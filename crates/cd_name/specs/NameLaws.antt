-- Laws of names in a message.
use Rattle.std.specs.Prelude.{◌≡◌, ◌≢◌, ◌↔◌, ℕ, ◌+◌, ◌-◌, ◌*◌, ◌<◌, ◌≤◌, List, ◌∷◌, ◌++◌, [], length}
use Rattle.std.specs.List.{AllByRecursion}
use Rattle.cd_name.specs.Rules.{ReadsName}
use Rattle.cd_name.specs.Names.{IsName, NameAt, NameBroken}
use Rattle.cd_name.specs.declared.fault.NameWhy.{NameWhy}
use Rattle.cd_name.specs.declared.fault.NameWhy.TheVariants.{Short}

-- a name that is spelled without pointers is read as itself, whatever stands before and after it
abbrev pub PlainNamesAreRead : Type 0
PlainNamesAreRead = (front name after : List ℕ) → IsName name →
    NameAt (front ++ name ++ after) (length front) name (length front + length name)

-- what is read is a name, and its own bytes are within the payload
abbrev pub NamesAreNames : Type 0
NamesAreNames = (p : List ℕ) (at : ℕ) (name : List ℕ) (next : ℕ) → NameAt p at name next → IsName name × (at < next) × (next ≤ length p)

-- what is read is read with more bytes after the payload
abbrev pub NamesStay : Type 0
NamesStay = (p more : List ℕ) (at : ℕ) (name : List ℕ) (next : ℕ) → NameAt p at name next → NameAt (p ++ more) at name next

-- a rule that is broken where no byte is missing stays broken with more bytes after the payload
abbrev pub BrokenNamesStay : Type 0
BrokenNamesStay = (p more : List ℕ) (at : ℕ) (why : NameWhy) → NameBroken p at why → why ≢ Short → NameBroken (p ++ more) at why

-- the bytes of a label
abbrev pub IsLabel : List ℕ → Type 0
IsLabel l = (0 < length l) × (length l ≤ 63)

-- labels, each after its length byte
abbrev pub label_bytes : List (List ℕ) → List ℕ
label_bytes [] = []
label_bytes (l ∷ ls) = (length l ∷ l) ++ label_bytes ls

-- a name is labels and the root, in at most 255 bytes
abbrev pub NamesAreLabels : Type 0
NamesAreLabels = (name : List ℕ) → IsName name ↔
    ((labels : List (List ℕ)) × AllByRecursion IsLabel labels × (name ≡ label_bytes labels ++ 0 ∷ []) × (length name ≤ 255))

-- labels are read before what is read after them
abbrev pub LabelsAreRead : Type 0
LabelsAreRead = (labels : List (List ℕ)) (front more name : List ℕ) (start next : ℕ) → AllByRecursion IsLabel labels →
    ReadsName (front ++ (label_bytes labels ++ more)) start (length front + length (label_bytes labels)) name next →
    ReadsName (front ++ (label_bytes labels ++ more)) start (length front) (label_bytes labels ++ name) next

-- labels and after them a pointer to an offset before them are read as the labels and the name at that offset, if they have at most 255 bytes together
abbrev pub PointersAreFollowed : Type 0
PointersAreFollowed = (labels : List (List ℕ)) (front more name : List ℕ) (high low target next : ℕ) → AllByRecursion IsLabel labels →
    192 ≤ high → target ≡ (high - 192) * 256 + low → target < length front →
    NameAt (front ++ (label_bytes labels ++ high ∷ low ∷ more)) target name next → length (label_bytes labels) + length name ≤ 255 →
    NameAt (front ++ (label_bytes labels ++ high ∷ low ∷ more)) (length front) (label_bytes labels ++ name) (length front + length (label_bytes labels) + 2)
