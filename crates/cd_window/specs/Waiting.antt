-- Scaffolding, which only contracts of private functions cite: the events of a side that wait for their partners.
use Rattle.std.specs.Prelude.{ℕ, suc, ◌+◌, ◌<◌, ◌≤◌, Bool, true, false, not, ◌&&◌, nat_eq, eqb, cond, List, [], ◌∷◌, ◌++◌, Option, Some, None, is_none, slice_get}
use Rattle.std.specs.List.{filter}
use Rattle.std.specs.Option.{option_map}
use Rattle.std.specs.Cmp.Lexicographic.{pointwise}
use Rattle.cd_pairing.specs.declared.keyed.Side.{Side}
use Rattle.cd_pairing.specs.declared.keyed.Side.TheVariants.{Query, Response}
use Rattle.cd_pairing.specs.declared.keyed.Windows.{Windows}
use Rattle.cd_pairing.specs.Events.{EventView, secondaries_agree}
use Rattle.cd_pairing.specs.Pairing.{StampedEvent}
use Rattle.cd_window.specs.declared.held.Held.{Held}
use Rattle.cd_window.specs.declared.stamps.Stamp.{Stamp}
use Rattle.cd_window.specs.declared.waiter.Waiter.{Waiter}
use Rattle.cd_window.specs.Keys.{secondary_of}
use Rattle.cd_window.specs.Seen.{Places, Seen, count_of, stamped, waits_after}

-- an event that waits: what identifies its exchange, its position, and the clock, the sum and its weight there
pub record Waits : Type 0 where
  pub primary : List ℕ
  pub secondary : Option (List ℕ)
  pub index : ℕ
  pub clock : ℕ
  pub weight_sum : ℕ
  pub weight : ℕ

-- what waits of an event at this position
abbrev pub waits_with : EventView → ℕ → ℕ → ℕ → Waits
waits_with v i clock weight_sum = record {
  primary = v.primary;
  secondary = v.secondary;
  index = i;
  clock = clock;
  weight_sum = weight_sum;
  weight = v.weight;
}

-- what waits of an event that is held at this position
abbrev pub waits_at : {E : Type 0} → (E → EventView) → ℕ → Held E → Waits
waits_at view i h = waits_with (view h.event) i h.clock h.weight_sum

-- what waits as it is stored
abbrev pub waits_of : Waiter → Waits
waits_of w = record {
  primary = w.whole.primary.items;
  secondary = secondary_of w.whole;
  index = w.position;
  clock = w.clock;
  weight_sum = w.weight_sum;
  weight = w.weight;
}

-- whether two events stand on one side, which is that of queries or of responses
abbrev pub same_side : Side → Side → Bool
same_side Query Query = true
same_side Response Response = true
same_side _ _ = false

-- of what is held from this position on, in order, what passes a test
abbrev pub waits_from : {E : Type 0} → (E → EventView) → (ℕ → Held E → Bool) → ℕ → Places E → List Waits
waits_from view test i [] = []
waits_from view test i (None ∷ hs) = waits_from view test (suc i) hs
waits_from view test i (Some h ∷ hs) =
    cond (test i h) (waits_at view i h ∷ waits_from view test (suc i) hs) (waits_from view test (suc i) hs)

-- whether what is held at this position is of this side, is unpaired, and has an open window
abbrev pub is_waiting : {E : Type 0} → (E → EventView) → Seen E → Side → ℕ → Held E → Bool
is_waiting view w side i h =
    same_side (view h.event).side side
    && (is_none h.partner && waits_after w.windows (count_of w) w.clock w.weight_sum (stamped view i h))

-- the events of a side that are held, are unpaired and have open windows, in order
abbrev pub waiting : {E : Type 0} → (E → EventView) → Seen E → Side → List Waits
waiting view w side = waits_from view (is_waiting view w side) w.first w.held

-- what waits, as an event of a side
abbrev pub stamped_waits : Side → Waits → StampedEvent
stamped_waits side x = record {
  view = record { side = side; time = 0; weight = x.weight; primary = x.primary; secondary = x.secondary };
  index = x.index;
  clock = x.clock;
  weight_sum = x.weight_sum;
}

-- after so many events: whether one more of the least weight could stand with what waits
abbrev pub waits_still : Windows → Side → Stamp → Waits → Bool
waits_still windows side now x =
    waits_after windows now.index now.clock now.weight_sum (stamped_waits side x)

-- whether what waits agrees with another event in what identifies an exchange
abbrev pub agrees_with : Waits → Waits → Bool
agrees_with a x = pointwise nat_eq x.primary a.primary && secondaries_agree x.secondary a.secondary

-- two that wait stand in this order
pub record Rises (x y : Waits) : Type 0 where
  pub position : x.index < y.index
  pub time : x.clock ≤ y.clock
  pub sum : x.weight_sum + y.weight ≤ y.weight_sum

-- each of these comes after the first
abbrev pub RisesTo : Waits → List Waits → Type 0
RisesTo x [] = Unit {0}
RisesTo x (y ∷ ys) = Rises x y × RisesTo x ys

-- each comes after those before it
abbrev pub AreRising : List Waits → Type 0
AreRising [] = Unit {0}
AreRising (x ∷ xs) = RisesTo x xs × AreRising xs

-- one that waits came before so many events, this clock and this sum
pub record CameBefore (i clock weight_sum : ℕ) (x : Waits) : Type 0 where
  pub position : x.index < i
  pub time : x.clock ≤ clock
  pub sum : x.weight_sum ≤ weight_sum

-- each of these came before
abbrev pub AllBefore : ℕ → ℕ → ℕ → List Waits → Type 0
AllBefore i clock weight_sum [] = Unit {0}
AllBefore i clock weight_sum (x ∷ xs) = CameBefore i clock weight_sum x × AllBefore i clock weight_sum xs

-- none stands before this position
abbrev pub NoneBefore : ℕ → List Waits → Type 0
NoneBefore i [] = Unit {0}
NoneBefore i (x ∷ xs) = (i ≤ x.index) × NoneBefore i xs

-- all but what stands at this position
abbrev pub but_at : ℕ → List Waits → List Waits
but_at i xs = filter (λ x. not (eqb x.index i)) xs

-- all but what stands at a position that may be there
abbrev pub left_of : Option ℕ → List Waits → List Waits
left_of None xs = xs
left_of (Some i) xs = but_at i xs

-- with one more, unless it has found its partner
abbrev pub joined_by : Option ℕ → Waits → List Waits → List Waits
joined_by None x xs = xs ++ x ∷ []
joined_by (Some i) x xs = xs

-- the position of the first that agrees with an event
abbrev pub agreeing : Waits → List Waits → Option ℕ
agreeing a xs = option_map (λ x. x.index) (slice_get (filter (agrees_with a) xs) 0)
