-- How what is read is put into the fields of a map, and which keys a map must have.
use Rattle.std.specs.Prelude.{◌≡◌, ℕ, List, [], ◌∷◌, Result, Ok, Err, ok_or, if◌then◌else◌}
use Rattle.cd_file.specs.declared.reading.fault.ItemFault.{ItemFault}
use Rattle.cd_cbor.specs.declared.item.Item.{Item}
use Rattle.cd_cbor.specs.declared.item.Item.TheViews.{out-Item}
use Rattle.cd_file.specs.declared.refusal.FileWhy.{FileWhy}
use Rattle.cd_file.specs.Refusing.{Refusing, ◌>>=◌}
use Rattle.cd_file.specs.Kinds.{pairs_in}
use Rattle.cd_file.specs.MapReading.{Line, fields_of}

-- the keys of a table that each map has
abbrev pub required_keys : {F : Type 0} → List (Line F) → List ℕ
required_keys [] = []
required_keys (line ∷ table) = if line.is_required then line.key ∷ required_keys table else required_keys table

-- what was read is put somewhere, so that this holds of it, and the offset behind it is given, or the fault
abbrev pub Places : {A : Type 0} → (A → Type 0) → Result (A × ℕ) ItemFault → Result ℕ ItemFault → Type 0
Places Holds (Ok x) result = Holds x.0 × (result ≡ Ok x.1)
Places Holds (Err fault) result = result ≡ Err fault

-- the fields of an item that is a map, from what they are before its first entry, or this refusal
abbrev pub map_or : {F : Type 0} → FileWhy → List (Line F) → F → Item → Refusing F
map_or no_map table before item = do
  pairs ← ok_or (pairs_in (out-Item item)) no_map
  fields_of table before pairs
