-- What holds of the pairing of every list of events.
use Rattle.std.specs.Prelude.{◌≡◌, ℕ, ◌<◌, ◌≤◌, List, [], ◌∷◌, ◌++◌, length, take, map, Option, Some, None, nat_lt, if◌then◌else◌, slice_set, true, false}
use Rattle.cd_pairing.specs.declared.keyed.Windows.{Windows}
use Rattle.cd_pairing.specs.Events.{EventView}
use Rattle.cd_pairing.specs.Matching.{partner}
use Rattle.cd_pairing.specs.Pairing.{IsPairing, are_compatible}

-- no list of events has two pairings
abbrev pub PairingsAreUnique : Type 0
PairingsAreUnique = (windows : Windows) (events : List EventView) (p q : List (Option ℕ)) → IsPairing windows events p →
    IsPairing windows events q → p ≡ q

-- each list of events has a pairing
abbrev pub EachListHasPairing : Type 0
EachListHasPairing = (windows : Windows) (events : List EventView) → (p : List (Option ℕ)) × IsPairing windows events p

-- this partner where it stands below this position, else none
abbrev pub partner_below : ℕ → Option ℕ → Option ℕ
partner_below n None = None
partner_below n (Some k) = if nat_lt k n then Some k else None

-- the pairs of which both positions are below this one
abbrev pub pairs_below : ℕ → List (Option ℕ) → List (Option ℕ)
pairs_below n partners = map (partner_below n) (take n partners)

-- the pairing of the first events is that of all, as far as both positions are among the first
abbrev pub FrontsKeepPairs : Type 0
FrontsKeepPairs = (windows : Windows) (events : List EventView) (n : ℕ) (p : List (Option ℕ)) → n ≤ length events →
    IsPairing windows events p → IsPairing windows (take n events) (pairs_below n p)

-- the earliest position that is unpaired and compatible with this one
pub record IsEarliestFree (windows : Windows) (events : List EventView) (p : List (Option ℕ)) (n i : ℕ) : Type 0 where
  pub within : i < n
  pub free : partner p i ≡ None
  pub fits : are_compatible windows events i n ≡ true
  pub earliest : (k : ℕ) → k < i → partner p k ≡ None → are_compatible windows events k n ≡ false

-- one more event joins the earliest unpaired one that is compatible with it, and stays alone where there is none
pub record JoinsEarliest (windows : Windows) (events : List EventView) (e : EventView) (p : List (Option ℕ)) : Type 0 where
  pub joined : (i : ℕ) → IsEarliestFree windows (events ++ e ∷ []) p (length events) i →
      IsPairing windows (events ++ e ∷ []) (slice_set p i (Some (length events)) ++ Some i ∷ [])
  pub alone : ((i : ℕ) → i < length events → partner p i ≡ None → are_compatible windows (events ++ e ∷ []) i (length events) ≡ false) →
      IsPairing windows (events ++ e ∷ []) (p ++ None ∷ [])

-- what one more event changes
abbrev pub OneMoreJoins : Type 0
OneMoreJoins = (windows : Windows) (events : List EventView) (e : EventView) (p : List (Option ℕ)) →
    IsPairing windows events p → JoinsEarliest windows events e p
