-- Which integer keys were met in a map, as they are kept: the low ones by their place, and the others in a set.
use Rattle.std.specs.Prelude.{◌≡◌, ℕ, nat_lt, ℤ, pos, negsuc, Bool, false, List, Option, Some, None, get_or, Result, Ok, Err, if◌then◌else◌}
use Rattle.std.specs.Ordering.{int_eq}
use Rattle.indexmap.specs.IndexSet.{contains}
use Rattle.cd_file.specs.declared.reading.fault.ItemFault.{ItemFault}
use Rattle.cd_file.specs.declared.reading.fault.ItemFault.TheVariants as fault
use Rattle.cd_file.specs.declared.reading.met.Met.{Met}
use Rattle.cd_file.specs.Refusing.{Refusing}
use Rattle.cd_file.specs.MapReading.{is_met, Course}

-- the place of a key
abbrev pub low_place : ℤ → Option ℕ
low_place (pos n) = if nat_lt n 64 then Some n else None
low_place (negsuc n) = None

-- what stands at a place, or else whether the key is among the others
abbrev pub kept_at : Option ℕ → List Bool → Bool → Bool
kept_at (Some place) low among = get_or low place false
kept_at None low among = among

-- a key is kept as met
abbrev pub is_kept : Met → ℤ → Bool
is_kept met key = kept_at (low_place key) met.low (contains int_eq met.others key)

-- the keys that are kept are those that were met
unfoldable pub Keeps : Met → List ℤ → Type 0
Keeps met keys = (key : ℤ) → is_kept met key ≡ is_met keys key

-- What a call answers that reads an entry which ends there: these are the fields then, and the keys that are kept are those
-- that were met; or why it is refused, or memory ran out.
abbrev pub Meets : {F : Type 0} → Met → F → Result ℕ ItemFault → Refusing (Course F) → ℕ → Type 0
Meets met fields (Ok next) reading end =
    ((keys : List ℤ) × (reading ≡ Ok (record { met = keys; fields = fields })) × Keeps met keys) × (next ≡ end)
Meets met fields (Err (fault.Refused reason)) reading end = reading ≡ Err reason
Meets met fields (Err fault.NoMemory) reading end = Unit {0}
