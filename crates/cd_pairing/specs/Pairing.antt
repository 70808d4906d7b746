-- Which events are compatible, and the one pairing of a list of events.
use Rattle.std.specs.Prelude.{ℕ, ◌+◌, ◌-◌, Bool, ◌&&◌, nat_le, nat_lt, nat_eq, List, length, Option}
use Rattle.std.specs.Cmp.Lexicographic.{pointwise}
use Rattle.cd_pairing.specs.declared.keyed.Side.{Side}
use Rattle.cd_pairing.specs.declared.keyed.Side.TheVariants.{Query, Response, Neither}
use Rattle.cd_pairing.specs.declared.keyed.Windows.{Windows}
use Rattle.cd_pairing.specs.Matching.{IsMatching}
use Rattle.cd_pairing.specs.Events.{EventView, event_at, clock, weight_sum, are_opposite, secondaries_agree}

-- how long an event waits for its partner: a query for its response, a response for its query
abbrev pub timeout : Windows → Side → ℕ
timeout windows Query = windows.query_ns
timeout windows Response = windows.skew_ns
timeout windows Neither = 0

-- an event at its position, with the clock and the sum there
pub record StampedEvent : Type 0 where
  pub view : EventView
  pub index : ℕ
  pub clock : ℕ
  pub weight_sum : ℕ

abbrev pub stamped_event : List EventView → ℕ → StampedEvent
stamped_event events i = record { view = event_at events i; index = i; clock = clock events i; weight_sum = weight_sum events i }

-- primaries equal, secondaries equal or one absent
abbrev pub identifiers_agree : EventView → EventView → Bool
identifiers_agree a b = pointwise nat_eq a.primary b.primary && secondaries_agree a.secondary b.secondary

-- whether a later event comes while an earlier one still waits
unfoldable pub is_in_window : Windows → StampedEvent → StampedEvent → Bool
is_in_window windows a b =
    nat_le (b.clock - a.clock) (timeout windows a.view.side)
    && nat_lt (b.index - a.index) windows.count
    && nat_le (b.weight_sum - a.weight_sum + a.view.weight) windows.bytes

-- whether an earlier event and a later one may stand together
unfoldable pub may_pair : Windows → StampedEvent → StampedEvent → Bool
may_pair windows a b = are_opposite a.view.side b.view.side && identifiers_agree a.view b.view && is_in_window windows a b

-- whether the events at an earlier position and a later one may stand together
unfoldable pub are_compatible : Windows → List EventView → ℕ → ℕ → Bool
are_compatible windows events i j = may_pair windows (stamped_event events i) (stamped_event events j)

-- each position's partner in the one pairing
abbrev pub IsPairing : Windows → List EventView → List (Option ℕ) → Type 0
IsPairing windows events partners = IsMatching (are_compatible windows events) (length events) partners
