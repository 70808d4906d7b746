-- A window as contracts see it.
use Rattle.std.specs.Prelude.{ℕ, ◌+◌, ◌-◌, Bool, false, not, ◌&&◌, ◌||◌, nat_le, nat_lt, List, [], length}
use Rattle.std.specs.Prelude.{Option, Some, None, is_some, slice_index_or}
use Rattle.std.specs.List.{count_by, sum_by}
use Rattle.cd_pairing.specs.declared.keyed.TheConstants.{LEAST_WEIGHT}
use Rattle.cd_pairing.specs.declared.keyed.Windows.{Windows}
use Rattle.cd_pairing.specs.Events.{EventView}
use Rattle.cd_pairing.specs.Pairing.{StampedEvent, timeout}
use Rattle.cd_pairing.specs.Settling.{is_neither}
use Rattle.cd_window.specs.declared.held.Held.{Held}

-- places in order: at each an event that is held, or none
abbrev pub Places : Type 0 → Type 0
Places E = List (Option (Held E))

-- the windows, whether the end was told, the position of the front, the clock and the sum of weights at the last event,
-- and what is held from the front on: nothing at a position that was popped with an earlier one
pub record Seen (E : Type 0) : Type 0 where
  pub windows : Windows
  pub finished : Bool
  pub first : ℕ
  pub clock : ℕ
  pub weight_sum : ℕ
  pub held : Places E

-- a window that was given no event
abbrev pub empty_window : {E : Type 0} → Windows → Seen E
empty_window windows = record { windows = windows; finished = false; first = 0; clock = 0; weight_sum = 0; held = [] }

-- how many events were pushed: the position that the next one gets
abbrev pub count_of : {E : Type 0} → Seen E → ℕ
count_of w = w.first + length w.held

-- what is held at this place behind the front
abbrev pub held_at : {E : Type 0} → Seen E → ℕ → Option (Held E)
held_at w k = slice_index_or w.held k None

-- what is held at this position, as the pairing sees it
abbrev pub stamped : {E : Type 0} → (E → EventView) → ℕ → Held E → StampedEvent
stamped view i h = record { view = view h.event; index = i; clock = h.clock; weight_sum = h.weight_sum }

-- after so many events with this clock and this sum of weights: whether one more of the least weight could stand with
-- this one, were it unpaired
abbrev pub waits_after : Windows → ℕ → ℕ → ℕ → StampedEvent → Bool
waits_after windows count clock weight_sum s =
    nat_lt (count - s.index) windows.count
    && nat_le (clock - s.clock) (timeout windows s.view.side)
    && nat_le (weight_sum - s.weight_sum + s.view.weight + LEAST_WEIGHT) windows.bytes

-- whether one more event of the least weight could stand with the one held at this place, were it unpaired
abbrev pub is_open : {E : Type 0} → (E → EventView) → Seen E → ℕ → Held E → Bool
is_open view w k h = waits_after w.windows (count_of w) w.clock w.weight_sum (stamped view (w.first + k) h)

-- whether what is held at the front can be popped: the end was told, or it stands alone, is paired or waits no more
abbrev pub is_front_ready : {E : Type 0} → (E → EventView) → Seen E → Option (Held E) → Bool
is_front_ready view w None = false
is_front_ready view w (Some h) =
    w.finished || (is_neither (view h.event).side || is_some h.partner || not (is_open view w 0 h))

-- whether a pop gives a record
abbrev pub is_ready : {E : Type 0} → (E → EventView) → Seen E → Bool
is_ready view w = is_front_ready view w (held_at w 0)

-- how many events are held
abbrev pub held_count : {E : Type 0} → Seen E → ℕ
held_count w = count_by is_some w.held

-- the weight of what is held at one place
abbrev pub weight_held : {E : Type 0} → (E → EventView) → Option (Held E) → ℕ
weight_held view None = 0
weight_held view (Some h) = (view h.event).weight

-- the sum of the weights of the events that are held
abbrev pub held_weight : {E : Type 0} → (E → EventView) → Seen E → ℕ
held_weight view w = sum_by (weight_held view) w.held
