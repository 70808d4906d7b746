-- The kinds of values that stand under the keys of a file, with their ranges (RFC 8618 7.3). A number of CBOR has 64 bits,
-- so a range of 64 bits is every number.
use Rattle.std.specs.Prelude.{ℕ, ◌^◌, nat_lt, nat_le, ℤ, pos, negsuc, List, [], ◌∷◌, length, Option, None, Some, Ok, option_map, ok_or, if◌then◌else◌}
use Rattle.cd_cbor.specs.declared.item.Item.{Item}
use Rattle.cd_cbor.specs.declared.item.Item.TheViews.{out-Item}
use Rattle.cd_cbor.specs.declared.item.Item.TheOpen.{Item-F}
use Rattle.cd_block.specs.declared.stamp.Stamp.{Stamp}
use Rattle.cd_file.specs.declared.refusal.FileWhy.TheVariants.{Shape}
use Rattle.cd_file.specs.Refusing.{Refusing, ◌>>=◌}

-- a number that is below a bound
abbrev pub below : ℕ → ℕ → Option ℕ
below bound n = if nat_lt n bound then Some n else None

-- bytes that are at most so many
abbrev pub at_most : ℕ → List ℕ → Option (List ℕ)
at_most most bytes = if nat_le (length bytes) most then Some bytes else None

-- a list that has an element
abbrev pub filled : {A : Type 0} → List A → Option (List A)
filled [] = None
filled (x ∷ xs) = Some (x ∷ xs)

-- the number from 0 that an item is
abbrev pub unsigned_in : Item-F Item → Option ℕ
unsigned_in (Item-F.Uint n) = Some n
unsigned_in item = None

-- the signed number of 64 bits that an item is
abbrev pub signed_in : Item-F Item → Option ℤ
signed_in (Item-F.Uint n) = option_map pos (below (2 ^ 63) n)
signed_in (Item-F.Nint n) = option_map negsuc (below (2 ^ 63) n)
signed_in item = None

-- the string of bytes that an item is
abbrev pub bytes_in : Item-F Item → Option (List ℕ)
bytes_in (Item-F.Bytes content) = Some content
bytes_in item = None

-- the items of the array that an item is
abbrev pub items_in : Item-F Item → Option (List Item)
items_in (Item-F.Array items) = Some items
items_in item = None

-- the pairs of the map that an item is
abbrev pub pairs_in : Item-F Item → Option (List (Item × Item))
pairs_in (Item-F.Map pairs) = Some pairs
pairs_in item = None

-- the integer that an item is, as the key of a map
abbrev pub integer_in : Item-F Item → Option ℤ
integer_in (Item-F.Uint n) = Some (pos n)
integer_in (Item-F.Nint n) = Some (negsuc n)
integer_in item = None

-- A kind of values: what an item under a key gives, or the first refusal.
abbrev pub Kind : Type 0 → Type 0
Kind A = ℤ → Item → Refusing A

-- a value that is there, or else a refusal of what stands under the key
abbrev pub or_shape : {A : Type 0} → ℤ → Option A → Refusing A
or_shape key value = ok_or value (Shape key)

-- a number from 0, of 64 bits
unfoldable pub unsigned : Kind ℕ
unsigned key item = or_shape key (unsigned_in (out-Item item))

-- a number from 0 below a bound
unfoldable pub unsigned_below : ℕ → Kind ℕ
unsigned_below bound key item = do
  n ← unsigned key item
  or_shape key (below bound n)

-- a number from 0, which is passed over unless it is below a bound
unfoldable pub unsigned_if_below : ℕ → Kind (Option ℕ)
unsigned_if_below bound key item = do
  n ← unsigned key item
  Ok (below bound n)

-- a signed number, -2^63 to 2^63 - 1
unfoldable pub signed : Kind ℤ
signed key item = or_shape key (signed_in (out-Item item))

-- a string of bytes
unfoldable pub byte_string : Kind (List ℕ)
byte_string key item = or_shape key (bytes_in (out-Item item))

-- a string of at most so many bytes
unfoldable pub short_byte_string : ℕ → Kind (List ℕ)
short_byte_string most key item = do
  content ← byte_string key item
  or_shape key (at_most most content)

-- values of a kind, one after another
unfoldable pub each : {A : Type 0} → Kind A → ℤ → List Item → Refusing (List A)
each kind key [] = Ok []
each kind key (item ∷ items) = do
  value ← kind key item
  values ← each kind key items
  Ok (value ∷ values)

-- an array of values of a kind, each under the key of the array
unfoldable pub array_of : {A : Type 0} → Kind A → Kind (List A)
array_of kind key item = do
  items ← or_shape key (items_in (out-Item item))
  each kind key items

-- an array of at least one value of a kind
unfoldable pub filled_array_of : {A : Type 0} → Kind A → Kind (List A)
filled_array_of kind key item = do
  items ← or_shape key (items_in (out-Item item))
  elements ← or_shape key (filled items)
  each kind key elements

-- a time by its two numbers: seconds and ticks (RFC 8618 7.3.2.1)
abbrev pub stamp_in : List ℕ → Option Stamp
stamp_in (seconds ∷ ticks ∷ []) = Some (record { seconds = seconds; ticks = ticks })
stamp_in numbers = None

-- a time: an array of seconds and ticks (RFC 8618 7.3.2.1)
unfoldable pub stamp : Kind Stamp
stamp key item = do
  numbers ← array_of unsigned key item
  or_shape key (stamp_in numbers)
