-- Scaffolding, which only contracts of private functions cite: places one by one.
use Rattle.std.specs.Prelude.{◌≡◌, ℕ, ◌+◌, ◌-◌, ◌<◌, ◌≤◌, Bool, true, false, not, ◌&&◌, ◌||◌, [], ◌∷◌, ◌++◌, length}
use Rattle.std.specs.Prelude.{drop, Option, Some, None, is_some, is_none, IsSome, slice_index_or, slice_set, ◌⊎◌, ◌≢◌}
use Rattle.cd_pairing.specs.declared.keyed.Side.{Side}
use Rattle.cd_pairing.specs.declared.keyed.Windows.{Windows}
use Rattle.cd_pairing.specs.Events.{EventView}
use Rattle.cd_pairing.specs.Pairing.{StampedEvent, may_pair}
use Rattle.cd_pairing.specs.Settling.{is_neither}
use Rattle.cd_window.specs.declared.held.Held.{Held}
use Rattle.cd_window.specs.declared.stamps.Stamp.{Stamp}
use Rattle.cd_window.specs.declared.released.Released.{Released}
use Rattle.cd_window.specs.declared.released.Released.TheVariants.{One}
use Rattle.cd_window.specs.Seen.{Places, stamped, waits_after}
use Rattle.cd_window.specs.Pops.{in_order}
use Rattle.cd_window.specs.Pushes.{with_partner}

-- an event of this side and weight with this stamp, as far as windows ask for it
abbrev pub weighed : Side → Stamp → ℕ → StampedEvent
weighed side s weight = record {
  view = record { side = side; time = 0; weight = weight; primary = []; secondary = None };
  index = s.index;
  clock = s.clock;
  weight_sum = s.weight_sum;
}

-- an event with this stamp
abbrev pub with_stamp : EventView → Stamp → StampedEvent
with_stamp view s = record { view = view; index = s.index; clock = s.clock; weight_sum = s.weight_sum }

-- whether an event with this partner is no query and no response, is paired, or waits no more
abbrev pub is_settled : Windows → Stamp → StampedEvent → Option ℕ → Bool
is_settled windows now s partner =
    is_neither s.view.side || is_some partner || not (waits_after windows now.index now.clock now.weight_sum s)

-- whether what is held at a position is unpaired and may stand with the next event
abbrev pub place_fits : {E : Type 0} → (E → EventView) → Windows → ℕ → Option (Held E) → StampedEvent → Bool
place_fits view windows position None next = false
place_fits view windows position (Some h) next = is_none h.partner && may_pair windows (stamped view position h) next

-- what is held at a place
abbrev pub place_at : {E : Type 0} → Places E → ℕ → Option (Held E)
place_at places k = slice_index_or places k None

-- nothing before this place fits the next event
pub record NothingFits {E : Type 0} (view : E → EventView) (windows : Windows) (first : ℕ) (places : Places E)
    (next : StampedEvent) (limit : ℕ) : Type 0 where
  pub none : (k : ℕ) → k < limit → place_fits view windows (first + k) (place_at places k) next ≡ false

-- the first that fits the next event
pub record FirstFits {E : Type 0} (view : E → EventView) (windows : Windows) (first : ℕ) (places : Places E)
    (next : StampedEvent) (k : ℕ) : Type 0 where
  pub within : k < length places
  pub fits : place_fits view windows (first + k) (place_at places k) next ≡ true
  pub earlier : NothingFits view windows first places next k

-- so many places in front are gone, all of them empty, and what is left begins with an event that is held
pub record Trims {E : Type 0} (old new : Places E) (gone : ℕ) : Type 0 where
  pub within : gone ≤ length old
  pub left : new ≡ drop gone old
  pub empty : (k : ℕ) → k < gone → place_at old k ≡ None
  pub trimmed : place_at new 0 ≡ None → new ≡ []

-- the front, which is unpaired, is taken
pub record TakesOne {E : Type 0} (first : ℕ) (old : Places E) (record_of : Released E) (new : Places E) : Type 0 where
  pub was : Held E
  pub held : place_at old 0 ≡ Some was
  pub free : was.partner ≡ None
  pub result_is : record_of ≡ One first was.event
  pub left : new ≡ slice_set old 0 None

-- the front is taken with its partner
pub record TakesPair {E : Type 0} (view : E → EventView) (first : ℕ)
    (old : Places E) (record_of : Released E) (new : Places E) : Type 0 where
  pub was : Held E
  pub place : ℕ
  pub other : Held E
  pub held : place_at old 0 ≡ Some was
  pub paired : was.partner ≡ Some (first + place)
  pub there : place_at old place ≡ Some other
  pub apart : place ≢ 0
  pub result_is : record_of ≡ in_order (view was.event).side first was.event other.event
  pub left : new ≡ slice_set (slice_set old place None) 0 None

-- the record of the front is taken
abbrev pub Takes : {E : Type 0} → (E → EventView) → ℕ → Places E → Released E → Places E → Type 0
Takes view first old r new = TakesOne first old r new ⊎ TakesPair view first old r new

-- a front of empty places is gone
pub record Dropped {E : Type 0} (old new : Places E) : Type 0 where
  pub gone : ℕ
  pub within : gone ≤ length old
  pub left : new ≡ drop gone old
  pub empty : (k : ℕ) → k < gone → place_at old k ≡ None

-- the next event is held, paired with the first that fits
pub record PutsPaired {E : Type 0} (view : E → EventView) (windows : Windows) (first : ℕ)
    (old : Places E) (e : E) (next : Stamp) (new : Places E) : Type 0 where
  pub place : ℕ
  pub was : Held E
  pub fits : FirstFits view windows first old (with_stamp (view e) next) place
  pub there : place_at old place ≡ Some was
  pub left : new ≡ slice_set old place (Some (with_partner was next.index))
      ++ Some (record { event = e; clock = next.clock; weight_sum = next.weight_sum; partner = Some (first + place) })
      ∷ []

-- the next event is held, unpaired, since nothing fits
pub record PutsAlone {E : Type 0} (view : E → EventView) (windows : Windows) (first : ℕ)
    (old : Places E) (e : E) (next : Stamp) (new : Places E) : Type 0 where
  pub none : NothingFits view windows first old (with_stamp (view e) next) (length old)
  pub left : new ≡ old
      ++ Some (record { event = e; clock = next.clock; weight_sum = next.weight_sum; partner = None }) ∷ []

-- the next event is held
abbrev pub Puts : {E : Type 0} → (E → EventView) → Windows → ℕ → Places E → E → Stamp → Places E → Type 0
Puts view windows first old e next new =
    PutsPaired view windows first old e next new ⊎ PutsAlone view windows first old e next new

-- the next event is held after the others, with this partner
abbrev pub held_next : {E : Type 0} → Places E → E → Stamp → Option ℕ → Places E
held_next held e next partner =
    held ++ Some (record { event = e; clock = next.clock; weight_sum = next.weight_sum; partner = partner }) ∷ []

-- the next event is held, and is the partner of what is held at its partner's position
pub record HoldsNext {E : Type 0} (first : ℕ) (old : Places E) (e : E) (next : Stamp) (partner : Option ℕ)
    (new : Places E) : Type 0 where
  pub alone : partner ≡ None → new ≡ held_next old e next None
  pub paired : (k : ℕ) (h : Held E) → partner ≡ Some (first + k) → place_at old k ≡ Some h →
      new ≡ held_next (slice_set old k (Some (with_partner h next.index))) e next (Some (first + k))

-- a partner, where there is one, is held
abbrev pub IsAmong : {E : Type 0} → ℕ → Places E → Option ℕ → Type 0
IsAmong first held None = Unit {0}
IsAmong first held (Some i) = (first ≤ i) × IsSome (place_at held (i - first))
