-- Names as they are written into a message (RFC 1035 4.1.4): a name that ends as one before it did ends in a pointer to that.
use Rattle.std.specs.Prelude.{◌≡◌, ◌≢◌, ◌↔◌, ℕ, zero, suc, ◌+◌, ◌/◌, ◌%◌, ◌<◌, ◌≤◌, nat_lt, nat_eq, min, List, [], ◌∷◌, ◌++◌, length, if◌then◌else◌, Option, Some, None, Contains, ◌⊎◌}
use Rattle.std.specs.List.{All, AllByRecursion}
use Rattle.std.specs.Option.{option_map_or}
use Rattle.std.specs.Str.{bytes_eq}
use Rattle.cd_name.specs.Names.{IsName, NameAt}
use Rattle.cd_name.specs.NameLaws.{IsLabel, label_bytes}

-- a suffix of a name, of at least one label, and the offset at which its first label is written
pub record Suffix : Type 0 where
  pub name : List ℕ
  pub offset : ℕ

-- what is written: its bytes, and the suffixes that come to stand in them below 16,384, where a pointer can lead
pub record Written : Type 0 where
  pub bytes : List ℕ
  pub suffixes : List Suffix

-- What is written depends on the suffixes that stand in the bytes before it, and on its offset.
abbrev pub Piece : Type 0
Piece = List Suffix → ℕ → Written

-- the least offset at which a suffix stands
unfoldable pub least_offset : List Suffix → List ℕ → Option ℕ
least_offset [] name = None
least_offset (s ∷ others) name =
    if bytes_eq name s.name then Some (option_map_or (min s.offset) (least_offset others name) s.offset) else least_offset others name

-- a pointer to an offset below 16,384: two bytes, of which the first is 192 or more
abbrev pub pointer_to : ℕ → List ℕ
pointer_to offset = (192 + offset / 256) ∷ offset % 256 ∷ []

-- a suffix at an offset, if a pointer can lead there
abbrev pub suffix_at : List ℕ → ℕ → List Suffix
suffix_at name offset = if nat_lt offset 16384 then record { name = name; offset = offset } ∷ [] else []

-- some bytes alone
abbrev pub only_bytes : List ℕ → Written
only_bytes bytes = record { bytes = bytes; suffixes = [] }

-- a byte before what is written
abbrev pub byte_then : ℕ → Written → Written
byte_then b w = record { bytes = b ∷ w.bytes; suffixes = w.suffixes }

-- the length byte of a label, with which a suffix begins, before what is written
abbrev pub label_then : List Suffix → ℕ → Written → Written
label_then suffix n w = record { bytes = n ∷ w.bytes; suffixes = suffix ++ w.suffixes }

-- What is written at an offset of a name that begins with so many bytes of a label: its labels up to the first suffix that stands,
-- and a pointer to the least offset of that; or all of it.
unfoldable pub name_from : List Suffix → ℕ → ℕ → List ℕ → Written
name_from standing at inside [] = only_bytes []
name_from standing at (suc inside) (b ∷ bytes) = byte_then b (name_from standing (at + 1) inside bytes)
name_from standing at zero (n ∷ bytes) =
    if nat_eq n 0 then only_bytes (n ∷ bytes)
    else option_map_or (λ offset. only_bytes (pointer_to offset)) (least_offset standing (n ∷ bytes))
    (label_then (suffix_at (n ∷ bytes) at) n (name_from standing (at + 1) n bytes))

-- a name
abbrev pub name_piece : List ℕ → Piece
name_piece name standing at = name_from standing at zero name

-- After bytes in which suffixes stand, a piece is written, and its suffixes stand too.
pub record Writes (piece : Piece) (old_bytes : List ℕ) (old_suffixes : List Suffix) (new_bytes : List ℕ) (new_suffixes : List Suffix) : Type 0 where
  pub bytes : new_bytes ≡ old_bytes ++ (piece old_suffixes (length old_bytes)).bytes
  pub suffixes : new_suffixes ≡ old_suffixes ++ (piece old_suffixes (length old_bytes)).suffixes

-- a suffix stands at an offset
abbrev pub StandsAt : List Suffix → List ℕ → ℕ → Type 0
StandsAt standing name offset = Contains standing (record { name = name; offset = offset })

-- an offset is the least at which a suffix stands
pub record IsLeastOffset (standing : List Suffix) (name : List ℕ) (offset : ℕ) : Type 0 where
  pub stands : StandsAt standing name offset
  pub is_least : (other : ℕ) → StandsAt standing name other → offset ≤ other

-- A name is written at an offset by the rule: as the labels before its longest suffix that stands, and a pointer to the least offset of that,
-- or as it is. A suffix comes to stand at each label that is written, if a pointer can lead there.
pub record IsWrittenByRule (standing : List Suffix) (at : ℕ) (name : List ℕ) (written : Written) : Type 0 where
  pub labels : List (List ℕ)
  pub suffix : List ℕ
  pub are_labels : AllByRecursion IsLabel labels
  pub is_all : name ≡ label_bytes labels ++ suffix
  pub is_longest : (front after : List (List ℕ)) (offset : ℕ) → labels ≡ front ++ after → after ≢ [] → StandsAt standing (label_bytes after ++ suffix) offset → ⊥
  pub ends : ((suffix ≡ 0 ∷ []) × (written.bytes ≡ name)) ⊎
      ((offset : ℕ) × (suffix ≢ 0 ∷ []) × IsLeastOffset standing suffix offset × (written.bytes ≡ label_bytes labels ++ pointer_to offset))
  pub come_to_stand : (s : Suffix) → Contains written.suffixes s ↔ ((front : List (List ℕ)) × (after : List (List ℕ)) × (labels ≡ front ++ after) ×
      (after ≢ []) × (s.name ≡ label_bytes after ++ suffix) × (s.offset ≡ at + length (label_bytes front)) × (s.offset < 16384))

-- each name is written by the rule
abbrev pub NamesAreWrittenByRule : Type 0
NamesAreWrittenByRule = (standing : List Suffix) (at : ℕ) (name : List ℕ) → IsName name → IsWrittenByRule standing at name (name_piece name standing at)

-- each suffix is read where it stands, below 16,384
abbrev pub SuffixesAreRead : List ℕ → List Suffix → Type 0
SuffixesAreRead bytes standing = All (λ s. (s.offset < 16384) × ((next : ℕ) × NameAt bytes s.offset s.name next)) standing

-- a name that is written is read as itself, and so are the suffixes that come to stand
abbrev pub WrittenNamesAreRead : Type 0
WrittenNamesAreRead = (bytes : List ℕ) (standing : List Suffix) (name : List ℕ) (new_bytes : List ℕ) (new_standing : List Suffix) → SuffixesAreRead bytes standing → IsName name →
    Writes (name_piece name) bytes standing new_bytes new_standing → NameAt new_bytes (length bytes) name (length new_bytes) × SuffixesAreRead new_bytes new_standing
