-- Where runs of labels lead that are at once a pointer (RFC 1035 4.1.4).
use Rattle.std.specs.Prelude.{◌≡◌, ℕ, ◌<◌, ◌≤◌, List, length, slice_index}
use Rattle.cd_name.specs.Names.{reading_at, pointer_then_reading}

-- a run at an offset reads as one at or before it does, but for the offset after the name's own bytes
abbrev pub LeadsTo : List ℕ → ℕ → ℕ → Type 0
LeadsTo p from to = (to ≤ from) × (pointer_then_reading 0 (reading_at p from from) ≡ pointer_then_reading 0 (reading_at p to to))

-- each offset of a table leads to the one that stands there
abbrev pub AllLead : List ℕ → List ℕ → Type 0
AllLead p table = (from : ℕ) → from < length table → LeadsTo p from (slice_index table from)

-- each entry of a table is its own offset
abbrev pub AreOwnOffsets : List ℕ → Type 0
AreOwnOffsets table = (at : ℕ) → at < length table → slice_index table at ≡ at
