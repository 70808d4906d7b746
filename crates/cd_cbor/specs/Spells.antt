-- The well-formed spellings of an item (RFC 8949 3): heads of every size, strings in chunks, arrays and maps up to a
-- break, tags, simple values and floats.
use Rattle.std.specs.Prelude.{◌≡◌, ℕ, zero, suc, ◌+◌, ◌*◌, ◌≤◌, Bool, true, List, [], ◌∷◌, ◌++◌, length, ◌⊎◌, if◌then◌else◌}
use Rattle.std.specs.List.{concat}
use Rattle.std.specs.Str.{is_utf8}
use Rattle.cd_cbor.specs.MajorTypes.{major_number}
use Rattle.cd_cbor.specs.Heads.{IsHead}
use Rattle.cd_cbor.specs.Items.{unsigned, negative, bytes, text, array, entries}
use Rattle.cd_cbor.specs.declared.item.Item.{Item}
use Rattle.cd_cbor.specs.declared.item.Item.TheVariants as variant
use Rattle.cd_cbor.specs.declared.major_type.MajorType.{MajorType}
use Rattle.cd_cbor.specs.declared.major_type.MajorType.TheVariants as major

-- the bytes of a tagged value, a simple value or a float
unfoldable pub other : List ℕ → Item
other content = variant.Other content

-- the longest string that is read, in bytes; of one in chunks all together
abbrev pub most_string : ℕ
most_string = 134217728

-- how many arrays, maps and tags may be open at a time
abbrev pub most_depth : ℕ
most_depth = 16

-- the major type of a text or of a string of bytes
abbrev pub string_type : Bool → MajorType
string_type is_text = if is_text then major.Text else major.Bytes

-- a text or a string of bytes as an item
abbrev pub string_item : Bool → List ℕ → Item
string_item is_text content = if is_text then text content else bytes content

-- these bytes may be the content of such a string: a text is UTF-8
abbrev pub is_content : Bool → List ℕ → Bool
is_content is_text content = if is_text then is_utf8 content else true

-- the break that ends what has no definite length
abbrev pub break_byte : ℕ
break_byte = 255

-- the first byte of what has no definite length
abbrev pub indefinite : MajorType → ℕ
indefinite kind = 32 * major_number kind + 31

-- things one after the other, each spelled
abbrev pub Each : {A : Type 0} → (A → List ℕ → Type 0) → List A → List ℕ → Type 0
Each Spelled [] bytes = bytes ≡ []
Each Spelled (x ∷ xs) bytes =
    (first : List ℕ) × (rest : List ℕ) × (bytes ≡ first ++ rest) × Spelled x first × Each Spelled xs rest

-- a key and its value
abbrev pub SpellsPair : (Item → List ℕ → Type 0) → Item × Item → List ℕ → Type 0
SpellsPair Spelled pair bytes =
    (first : List ℕ) × (rest : List ℕ) × (bytes ≡ first ++ rest) × Spelled pair.0 first × Spelled pair.1 rest

-- a string of definite length
pub record SpellsString (is_text : Bool) (content bytes : List ℕ) : Type 0 where
  pub head : List ℕ
  pub is_head : IsHead (string_type is_text) (length content) head
  pub whole : bytes ≡ head ++ content
  pub short : length content ≤ most_string
  pub right : is_content is_text content ≡ true

-- a string in chunks, each of them a string of definite length
pub record SpellsChunks (is_text : Bool) (content bytes : List ℕ) : Type 0 where
  pub chunks : List (List ℕ)
  pub body : List ℕ
  pub each : Each (SpellsString is_text) chunks body
  pub whole : bytes ≡ indefinite (string_type is_text) ∷ (body ++ break_byte ∷ [])
  pub joined : content ≡ concat chunks
  pub short : length content ≤ most_string

-- an item that holds no other one
pub data SpellsPlain (item : Item) (bytes : List ℕ) : Type 0 where
  is_unsigned : (n : ℕ) → IsHead major.Unsigned n bytes → item ≡ unsigned n → SpellsPlain item bytes
  is_negative : (n : ℕ) → IsHead major.Negative n bytes → item ≡ negative n → SpellsPlain item bytes
  is_string : (is_text : Bool) (content : List ℕ) → SpellsString is_text content bytes →
      item ≡ string_item is_text content → SpellsPlain item bytes
  is_chunked : (is_text : Bool) (content : List ℕ) → SpellsChunks is_text content bytes →
      item ≡ string_item is_text content → SpellsPlain item bytes
  -- a simple value of two bytes is not below 32 (RFC 8949 3.3)
  is_simple : (n : ℕ) → IsHead major.Simple n bytes → (length bytes ≡ 2 → 32 ≤ n) → item ≡ other bytes →
      SpellsPlain item bytes

-- an array, a map or a tag, in which items are spelled so
pub data SpellsHolder (Spelled : Item → List ℕ → Type 0) (item : Item) (bytes : List ℕ) : Type 0 where
  is_array : (items : List Item) (head body : List ℕ) → IsHead major.Array (length items) head →
      Each Spelled items body → bytes ≡ head ++ body → item ≡ array items → SpellsHolder Spelled item bytes
  is_open_array : (items : List Item) (body : List ℕ) → Each Spelled items body →
      bytes ≡ indefinite major.Array ∷ (body ++ break_byte ∷ []) → item ≡ array items → SpellsHolder Spelled item bytes
  is_map : (pairs : List (Item × Item)) (head body : List ℕ) → IsHead major.Map (length pairs) head →
      Each (SpellsPair Spelled) pairs body → bytes ≡ head ++ body → item ≡ entries pairs →
      SpellsHolder Spelled item bytes
  is_open_map : (pairs : List (Item × Item)) (body : List ℕ) → Each (SpellsPair Spelled) pairs body →
      bytes ≡ indefinite major.Map ∷ (body ++ break_byte ∷ []) → item ≡ entries pairs → SpellsHolder Spelled item bytes
  is_tagged : (tag : ℕ) (content : Item) (head body : List ℕ) → IsHead major.Tag tag head → Spelled content body →
      bytes ≡ head ++ body → item ≡ other bytes → SpellsHolder Spelled item bytes

-- these bytes spell this item, in which so many arrays, maps and tags may be open at a time
abbrev pub Spells : ℕ → Item → List ℕ → Type 0
Spells zero item bytes = SpellsPlain item bytes
Spells (suc depth) item bytes = SpellsPlain item bytes ⊎ SpellsHolder (Spells depth) item bytes

-- these bytes are a well-formed spelling of this item with no fault
unfoldable pub Cbor : Item → List ℕ → Type 0
Cbor item bytes = Spells most_depth item bytes
