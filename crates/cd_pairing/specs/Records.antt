-- The records of a list of events, and those that no later event can change.
use Rattle.std.specs.Prelude.{◌≡◌, ℕ, suc, nat_lt, if◌then◌else◌, List, [], ◌∷◌, ◌++◌, take, Option, Some, None}
use Rattle.cd_pairing.specs.declared.keyed.Windows.{Windows}
use Rattle.cd_pairing.specs.Events.{EventView}
use Rattle.cd_pairing.specs.Pairing.{IsPairing}
use Rattle.cd_pairing.specs.Settling.{AreHeavy, settled_count}

-- a pair of positions, the earlier first, or the position of an event that stands alone
pub data Record : Type 0 where
  pair : ℕ → ℕ → Record
  single : ℕ → Record

-- the records of these partners, of which the first stands at this position
abbrev pub records_from : ℕ → List (Option ℕ) → List Record
records_from i [] = []
records_from i (None ∷ ps) = single i ∷ records_from (suc i) ps
records_from i (Some j ∷ ps) = if nat_lt i j then pair i j ∷ records_from (suc i) ps else records_from (suc i) ps

-- the pairs and the single events, in the order of their first events
abbrev pub records : List (Option ℕ) → List Record
records partners = records_from 0 partners

-- the records whose first event stands before the least position that is not settled
abbrev pub released_records : Windows → List EventView → List (Option ℕ) → List Record
released_records windows events partners = records (take (settled_count windows events partners) partners)

-- the list begins with this front
pub record BeginsWith (front all : List Record) : Type 0 where
  pub rest : List Record
  pub whole : all ≡ front ++ rest

-- what is released is a front of what is released of any longer list, and of all of its records
pub record StayReleased (windows : Windows) (events more : List EventView) (p q : List (Option ℕ)) : Type 0 where
  pub released : BeginsWith (released_records windows events p) (released_records windows (events ++ more) q)
  pub all : BeginsWith (released_records windows events p) (records q)

-- what is released stays so as more events come, where no event is lighter than the least weight
abbrev pub ReleasedStay : Type 0
ReleasedStay = (windows : Windows) (events more : List EventView) (p q : List (Option ℕ)) → AreHeavy (events ++ more) →
    IsPairing windows events p → IsPairing windows (events ++ more) q → StayReleased windows events more p q
