-- What is known of spellings, and of what bytes are read as.
use Rattle.std.specs.Prelude.{◌≡◌, ℕ, ◌+◌, ◌-◌, ◌<◌, ◌≤◌, ◌^◌, List, [], ◌++◌, length, take, drop, Ok, All}
use Rattle.cd_cbor.specs.Spelling.{spelling}
use Rattle.cd_cbor.specs.Spells.{Cbor, Spells}
use Rattle.cd_cbor.specs.Fitting.{Fits}
use Rattle.cd_cbor.specs.Reading.{cbor, item_at}
use Rattle.cd_cbor.specs.Readings.{refused, piece}
use Rattle.cd_cbor.specs.declared.item.Item.{Item}
use Rattle.cd_cbor.specs.declared.fault.Why.{Why}
use Rattle.cd_cbor.specs.declared.fault.Why.TheVariants.{End}

-- What spells an item is read as that item, to its last byte, whatever stands after it.
abbrev pub SpelledIsRead : Type 0
SpelledIsRead = (item : Item) (bytes more : List ℕ) → Cbor item bytes → cbor (bytes ++ more) ≡ Ok (item, length bytes)

-- What spells an item with any depth is read as that item wherever it stands, whatever a break would be there.
abbrev pub SpelledIsReadThere : Type 0
SpelledIsReadThere = (depth : ℕ) (item : Item) (bytes spelled more : List ℕ) (broken : Why) (at : ℕ) →
    drop at bytes ≡ spelled ++ more → Spells depth item spelled → item_at depth bytes broken at ≡ Ok (item, at + length spelled)

-- What is read as an item spells that item, in as many bytes.
abbrev pub ReadIsSpelled : Type 0
ReadIsSpelled = (bytes : List ℕ) (item : Item) (size : ℕ) → All (λ byte. byte < 256) bytes → cbor bytes ≡ Ok (item, size) →
    (size ≤ length bytes) × Cbor item (take size bytes)

-- What is read as an item with any depth, at any offset, spells that item: the bytes from there to the offset after it.
abbrev pub ReadIsSpelledThere : Type 0
ReadIsSpelledThere = (depth : ℕ) (bytes : List ℕ) (broken : Why) (at : ℕ) (item : Item) (next : ℕ) →
    All (λ byte. byte < 256) bytes → item_at depth bytes broken at ≡ Ok (item, next) →
    (at < next) × (next ≤ length bytes) × Spells depth item (piece at (next - at) bytes)

-- No spelling of an item goes on as a longer spelling of any item.
abbrev pub NoSpellingGoesOn : Type 0
NoSpellingGoesOn = (one another : Item) (bytes more : List ℕ) → Cbor one bytes → Cbor another (bytes ++ more) → more ≡ []

-- Some bytes spell at most one item.
abbrev pub OneItemIsSpelled : Type 0
OneItemIsSpelled = (one another : Item) (bytes : List ℕ) → Cbor one bytes → Cbor another bytes → one ≡ another

-- What is read stays as the bytes go on, but for an end, which stands at the end of the bytes.
pub record ReadingStays (depth : ℕ) (bytes : List ℕ) (broken : Why) (at : ℕ) : Type 0 where
  pub stays : (more : List ℕ) → ((place : ℕ) → item_at depth bytes broken at ≡ refused place End → ⊥) →
      item_at depth (bytes ++ more) broken at ≡ item_at depth bytes broken at
  pub ends : (place : ℕ) → item_at depth bytes broken at ≡ refused place End → place ≡ length bytes

-- what is read of any bytes stays so, with any depth and at any offset, whatever a break would be there but an end
abbrev pub ReadingsStay : Type 0
ReadingsStay = (depth : ℕ) (bytes : List ℕ) (broken : Why) (at : ℕ) → All (λ byte. byte < 256) bytes → (broken ≡ End → ⊥) →
    ReadingStays depth bytes broken at

-- An item that fits is spelled by the bytes that are written of it, with the shortest heads and definite lengths.
abbrev pub FittingIsSpelled : Type 0
FittingIsSpelled = (depth : ℕ) (item : Item) → Fits depth item → Spells depth item (spelling item)

-- An item that some bytes spell fits.
abbrev pub SpelledFits : Type 0
SpelledFits = (depth : ℕ) (item : Item) (bytes : List ℕ) → length bytes < 2 ^ 64 → Spells depth item bytes → Fits depth item

-- An item that bytes spell is spelled by those that are written of it, with the shortest heads and definite lengths.
abbrev pub WrittenIsSpelling : Type 0
WrittenIsSpelling = (item : Item) (bytes : List ℕ) → length bytes < 2 ^ 64 → Cbor item bytes → Cbor item (spelling item)
