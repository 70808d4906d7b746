-- Maps and arrays of which parts may be absent, and how they are spelled (RFC 8949 3.1, 4.2.1).
use Rattle.std.specs.Prelude.{ℕ, ◌+◌, List, [], ◌∷◌, ◌++◌, map, Option, None, Some}
use Rattle.std.specs.Option.{option_map}
use Rattle.cd_cbor.specs.declared.item.Item.{Item}
use Rattle.cd_cbor.specs.Items.{unsigned, array, entries, present}
use Rattle.cd_cbor.specs.Spelling.{spelling}

-- a map of the values that are there
unfoldable pub map_of : List (ℕ × Option Item) → Item
map_of es = entries (present es)

-- a map of these pairs, absent where there is none
abbrev pub where_any : List (Item × Item) → Option Item
where_any [] = None
where_any (pair ∷ pairs) = Some (entries (pair ∷ pairs))

-- a map of the values that are there, absent where none is
unfoldable pub optional_map : List (ℕ × Option Item) → Option Item
optional_map es = where_any (present es)

-- an array of these items, absent where there is none
abbrev pub optional_array : List Item → Option Item
optional_array [] = None
optional_array (item ∷ items) = Some (array (item ∷ items))

-- a number, where it is there
abbrev pub number : Option ℕ → Option Item
number n = option_map unsigned n

-- an array of numbers
abbrev pub numbers : List ℕ → Item
numbers ns = array (map unsigned ns)

-- a key and its number, where it is there
abbrev pub number_entry : ℕ × Option ℕ → ℕ × Option Item
number_entry e = (e.0, number e.1)

-- 1 for a value that is there, else 0
abbrev pub there : Option Item → ℕ
there None = 0
there (Some item) = 1

-- how many values are there
abbrev pub entries_count : List (ℕ × Option Item) → ℕ
entries_count [] = 0
entries_count (e ∷ es) = there e.1 + entries_count es

-- the spelling of a key and its value, where it is there
unfoldable pub entry_spelling : ℕ → Option Item → List ℕ
entry_spelling key None = []
entry_spelling key (Some item) = spelling (unsigned key) ++ spelling item

-- the spelling of these entries, without the head of their map
unfoldable pub entries_spelling : List (ℕ × Option Item) → List ℕ
entries_spelling [] = []
entries_spelling (e ∷ es) = entry_spelling e.0 e.1 ++ entries_spelling es
