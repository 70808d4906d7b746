-- What no later event can change.
use Rattle.std.specs.Prelude.{◌≡◌, ℕ, zero, suc, ◌+◌, ◌-◌, ◌<◌, ◌≤◌, Bool, true, false, not, ◌&&◌, ◌||◌, nat_le, nat_lt, List, [], ◌∷◌, ◌++◌, length, Option, Some, None, is_some, cond, slice_set}
use Rattle.cd_pairing.specs.declared.keyed.TheConstants.{LEAST_WEIGHT}
use Rattle.cd_pairing.specs.declared.keyed.Side.{Side}
use Rattle.cd_pairing.specs.declared.keyed.Side.TheVariants.{Query, Response, Neither}
use Rattle.cd_pairing.specs.declared.keyed.Windows.{Windows}
use Rattle.cd_pairing.specs.Events.{EventView, event_at, clock, weight_sum}
use Rattle.cd_pairing.specs.Matching.{partner}
use Rattle.cd_pairing.specs.Pairing.{timeout, stamped_event, is_in_window, are_compatible, IsPairing}

-- no event is lighter than the least weight
abbrev pub AreHeavy : List EventView → Type 0
AreHeavy events = (i : ℕ) → i < length events → LEAST_WEIGHT ≤ (event_at events i).weight

-- of an unpaired query or response: whether an event of the least weight after these could still stand with the one at this position
unfoldable pub is_window_open : Windows → List EventView → ℕ → Bool
is_window_open windows events i =
    nat_lt (length events - i) windows.count
    && nat_le (clock events (length events - 1) - clock events i) (timeout windows (event_at events i).side)
    && nat_le (weight_sum events (length events - 1) - weight_sum events i + (event_at events i).weight + LEAST_WEIGHT) windows.bytes

abbrev pub is_neither : Side → Bool
is_neither Neither = true
is_neither Query = false
is_neither Response = false

-- whether the event at this position is no query and no response, stands in a pair, or waits no more
abbrev pub is_settled : Windows → List EventView → List (Option ℕ) → ℕ → Bool
is_settled windows events partners i =
    is_neither (event_at events i).side || is_some (partner partners i) || not (is_window_open windows events i)

-- how many of this many positions, from this one on, are settled before the first that is not
abbrev pub settled_count_from : (ℕ → Bool) → ℕ → ℕ → ℕ
settled_count_from settled i zero = 0
settled_count_from settled i (suc left) = cond (settled i) (1 + settled_count_from settled (suc i) left) 0

-- the least position that is not settled, or the number of all
abbrev pub settled_count : Windows → List EventView → List (Option ℕ) → ℕ
settled_count windows events partners = settled_count_from (is_settled windows events partners) 0 (length events)

-- what is settled has the partner that it has in the pairing of any longer list
abbrev pub SettledKeepPartners : Type 0
SettledKeepPartners = (windows : Windows) (events more : List EventView) (p q : List (Option ℕ)) →
    AreHeavy (events ++ more) →
    IsPairing windows events p → IsPairing windows (events ++ more) q → (i : ℕ) → i < length events →
    is_settled windows events p i ≡ true → partner q i ≡ partner p i

-- what is settled is settled in any longer list
abbrev pub SettledStaySettled : Type 0
SettledStaySettled = (windows : Windows) (events more : List EventView) (p q : List (Option ℕ)) → AreHeavy (events ++ more) →
    IsPairing windows events p → IsPairing windows (events ++ more) q → (i : ℕ) → i < length events →
    is_settled windows events p i ≡ true → is_settled windows (events ++ more) q i ≡ true

-- the earliest position that is unpaired and compatible with the next event, of those whose windows are open
pub record IsEarliestOpen (windows : Windows) (events : List EventView) (e : EventView) (p : List (Option ℕ)) (i : ℕ) : Type 0 where
  pub within : i < length events
  pub free : partner p i ≡ None
  pub fits : are_compatible windows (events ++ e ∷ []) i (length events) ≡ true
  pub earliest : (k : ℕ) → k < i → partner p k ≡ None → is_window_open windows events k ≡ true →
      are_compatible windows (events ++ e ∷ []) k (length events) ≡ false

-- one more event joins the earliest that fits of those whose windows are open, and stays alone where there is none
pub record JoinsEarliestOpen (windows : Windows) (events : List EventView) (e : EventView) (p : List (Option ℕ)) : Type 0 where
  pub joined : (i : ℕ) → IsEarliestOpen windows events e p i →
      IsPairing windows (events ++ e ∷ []) (slice_set p i (Some (length events)) ++ Some i ∷ [])
  pub alone : ((i : ℕ) → i < length events → partner p i ≡ None → is_window_open windows events i ≡ true → are_compatible windows (events ++ e ∷ []) i (length events) ≡ false) →
      IsPairing windows (events ++ e ∷ []) (p ++ None ∷ [])

-- what one more event changes can be found among the open windows
abbrev pub OneMoreJoinsOpen : Type 0
OneMoreJoinsOpen = (windows : Windows) (events : List EventView) (e : EventView) (p : List (Option ℕ)) →
    AreHeavy (events ++ e ∷ []) → IsPairing windows events p → JoinsEarliestOpen windows events e p

-- of two events of one side that wait, the later one waits longer
abbrev pub LaterWaitLonger : Type 0
LaterWaitLonger = (windows : Windows) (events : List EventView) (i k n : ℕ) → i < k → k ≤ n → n < length events →
    (event_at events i).side ≡ (event_at events k).side →
    is_in_window windows (stamped_event events i) (stamped_event events n) ≡ true →
    is_in_window windows (stamped_event events k) (stamped_event events n) ≡ true
