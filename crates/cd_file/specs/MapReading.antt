-- How a map of a file is read: its entries in the order of their spelling, each into the fields of the map, by a table that
-- has one line a key (RFC 8618 7.3). What has no line is passed over.
use Rattle.std.specs.Prelude.{ℕ, ◌+◌, nat_eq, nat_le, ℤ, pos, negsuc, Bool, true, false, not, ◌&&◌, ◌||◌, List, [], ◌∷◌, Option, None, Some, Ok, Err, if◌then◌else◌}
use Rattle.cd_cbor.specs.declared.item.Item.{Item}
use Rattle.cd_cbor.specs.declared.item.Item.TheViews.{out-Item}
use Rattle.cd_file.specs.declared.refusal.FileWhy.TheVariants.{Repeated, Missing}
use Rattle.cd_file.specs.Refusing.{Refusing, ◌>>=◌}
use Rattle.cd_file.specs.Kinds.{Kind, integer_in, pairs_in, or_shape}

-- A key of a kind of map: whether the map must have it, and how its value is read into the fields of the map.
pub record Line (F : Type 0) : Type 0 where
  pub key : ℕ
  pub is_required : Bool
  pub read : Item → F → Refusing F

-- the keys of a table are all at or above a number and ascend, so that each has one line
unfoldable pub ascends_from : {F : Type 0} → ℕ → List (Line F) → Bool
ascends_from least [] = true
ascends_from least (line ∷ table) = nat_le least line.key && ascends_from (line.key + 1) table

-- the line of a key
unfoldable pub line_of : {F : Type 0} → List (Line F) → ℕ → Option (Line F)
line_of [] key = None
line_of (line ∷ table) key = if nat_eq key line.key then Some line else line_of table key

-- a value is read by the line of its key, and passed over where there is none
abbrev pub read_by : {F : Type 0} → Option (Line F) → Item → F → Refusing F
read_by None item fields = Ok fields
read_by (Some line) item fields = line.read item fields

-- the value of a key is read; no key below 0 has a line
unfoldable pub value_read : {F : Type 0} → List (Line F) → ℤ → Item → F → Refusing F
value_read table (pos key) item fields = read_by (line_of table key) item fields
value_read table (negsuc n) item fields = Ok fields

-- two keys are one
abbrev pub same_key : ℤ → ℤ → Bool
same_key (pos m) (pos n) = nat_eq m n
same_key (negsuc m) (negsuc n) = nat_eq m n
same_key a b = false

-- a key was met before
unfoldable pub is_met : List ℤ → ℤ → Bool
is_met [] key = false
is_met (first ∷ met) key = same_key key first || is_met met key

-- What is known in the course of a map: the integer keys that were met, the last one first, and the fields.
pub record Course (F : Type 0) : Type 0 where
  pub met : List ℤ
  pub fields : F

-- an entry by its key: one that is no integer is passed over; an integer must not have been met before, and counts as met
-- whether it has a line or not
unfoldable pub entry_by : {F : Type 0} → List (Line F) → Option ℤ → Item → Course F → Refusing (Course F)
entry_by table None item course = Ok course
entry_by table (Some key) item course =
    if is_met course.met key then Err (Repeated key)
    else (do
      fields ← value_read table key item course.fields
      Ok (record { met = key ∷ course.met; fields = fields }))

-- the entries of a map, one after another
unfoldable pub entries_read : {F : Type 0} → List (Line F) → List (Item × Item) → Course F → Refusing (Course F)
entries_read table [] course = Ok course
entries_read table (pair ∷ pairs) course = do
  next ← entry_by table (integer_in (out-Item pair.0)) pair.1 course
  entries_read table pairs next

-- the least required key that was not met; the keys of a table ascend
unfoldable pub first_missing : {F : Type 0} → List (Line F) → List ℤ → Option ℕ
first_missing [] met = None
first_missing (line ∷ table) met =
    if line.is_required && not (is_met met (pos line.key)) then Some line.key else first_missing table met

-- the fields at the end of a map of which this key is missing
abbrev pub complete : {F : Type 0} → Option ℕ → F → Refusing F
complete None fields = Ok fields
complete (Some key) fields = Err (Missing (pos key))

-- the fields of a map with these pairs, from what they are before its first entry
unfoldable pub fields_of : {F : Type 0} → List (Line F) → F → List (Item × Item) → Refusing F
fields_of table before pairs = do
  course ← entries_read table pairs (record { met = []; fields = before })
  complete (first_missing table course.met) course.fields

-- a map under a key, whose fields are these before its first entry
unfoldable pub map_from : {F : Type 0} → List (Line F) → F → Kind F
map_from table before key item = do
  pairs ← or_shape key (pairs_in (out-Item item))
  fields_of table before pairs

-- a value of a kind is read and put into the fields
abbrev pub read_and_put : {A F : Type 0} → Kind A → (A → F → F) → ℕ → Item → F → Refusing F
read_and_put kind put key item fields = do
  value ← kind (pos key) item
  Ok (put value fields)

-- the entries of a map under a key are read into the fields of the map around it
abbrev pub read_within : {F : Type 0} → List (Line F) → ℕ → Item → F → Refusing F
read_within table key item fields = map_from table fields (pos key) item

-- a key that must be there
abbrev pub required : {A F : Type 0} → ℕ → Kind A → (A → F → F) → Line F
required key kind put = record { key = key; is_required = true; read = read_and_put kind put key }

-- a key that may be absent
abbrev pub optional : {A F : Type 0} → ℕ → Kind A → (A → F → F) → Line F
optional key kind put = record { key = key; is_required = false; read = read_and_put kind put key }

-- a key of a map within, which must be there
abbrev pub required_within : {F : Type 0} → ℕ → List (Line F) → Line F
required_within key table = record { key = key; is_required = true; read = read_within table key }

-- a key of a map within, which may be absent
abbrev pub optional_within : {F : Type 0} → ℕ → List (Line F) → Line F
optional_within key table = record { key = key; is_required = false; read = read_within table key }
