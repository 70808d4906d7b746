-- Words to build an item with. The bytes of each one are told by a lemma of `proofs/Spelled`.
use Rattle.std.specs.Prelude.{ℕ, List, Option}
use Rattle.std.specs.List.{filter_map}
use Rattle.std.specs.Option.{option_map}
use Rattle.cd_cbor.specs.declared.item.Item.{Item}
use Rattle.cd_cbor.specs.declared.item.Item.TheVariants.{Uint, Nint, Bytes, Text, Array, Map}

-- a number from 0
unfoldable pub unsigned : ℕ → Item
unsigned n = Uint n

-- the number -1 - n
unfoldable pub negative : ℕ → Item
negative n = Nint n

-- a string of bytes
unfoldable pub bytes : List ℕ → Item
bytes content = Bytes content

-- a text, by its bytes in UTF-8
unfoldable pub text : List ℕ → Item
text content = Text content

-- an array of items
unfoldable pub array : List Item → Item
array items = Array items

-- a map, by its pairs of a key and a value
unfoldable pub entries : List (Item × Item) → Item
entries pairs = Map pairs

-- the pair of a key and a value, where the value is there
abbrev pub entry_of : ℕ × Option Item → Option (Item × Item)
entry_of entry = option_map (λ value. (unsigned entry.0, value)) entry.1

-- the pairs of keys and values, of those values that are there
unfoldable pub present : List (ℕ × Option Item) → List (Item × Item)
present es = filter_map entry_of es
