-- Items that have a spelling, by what they hold.
use Rattle.std.specs.Prelude.{◌≡◌, ℕ, zero, suc, ◌≤◌, ◌<◌, ◌^◌, Bool, true, List, length, ◌⊎◌}
use Rattle.std.specs.List.{AllByRecursion}
use Rattle.cd_cbor.specs.Items.{unsigned, negative, array, entries}
use Rattle.cd_cbor.specs.Spells.{other, most_string, string_item, is_content, Spells}
use Rattle.cd_cbor.specs.declared.item.Item.{Item}

-- An item that holds no other one: a number of 64 bits, a string that is not too long, where it is a text of UTF-8, or
-- what is kept as its bytes, which spell it.
pub data FitsPlain (Spelled : Item → List ℕ → Type 0) (item : Item) : Type 0 where
  fits_unsigned : (n : ℕ) → n < 2 ^ 64 → item ≡ unsigned n → FitsPlain Spelled item
  fits_negative : (n : ℕ) → n < 2 ^ 64 → item ≡ negative n → FitsPlain Spelled item
  fits_string : (is_text : Bool) (content : List ℕ) → length content ≤ most_string → is_content is_text content ≡ true →
      item ≡ string_item is_text content → FitsPlain Spelled item
  fits_other : (content : List ℕ) → Spelled item content → item ≡ other content → FitsPlain Spelled item

-- a key and its value
abbrev pub FitsPair : (Item → Type 0) → Item × Item → Type 0
FitsPair Fit pair = Fit pair.0 × Fit pair.1

-- an array or a map, as long as a head can tell, in which each item fits
pub data FitsHolder (Fit : Item → Type 0) (item : Item) : Type 0 where
  fits_array : (items : List Item) → length items < 2 ^ 64 → AllByRecursion Fit items → item ≡ array items →
      FitsHolder Fit item
  fits_map : (pairs : List (Item × Item)) → length pairs < 2 ^ 64 → AllByRecursion (FitsPair Fit) pairs →
      item ≡ entries pairs → FitsHolder Fit item

-- an item in which so many arrays, maps and tags may be open at a time, with nothing in it that no bytes spell
abbrev pub Fits : ℕ → Item → Type 0
Fits zero item = FitsPlain (Spells zero) item
Fits (suc depth) item = FitsPlain (Spells (suc depth)) item ⊎ FitsHolder (Fits depth) item
