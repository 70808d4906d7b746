-- What a push does to a window. It speaks of what is held alone, and not of the events before.
use Rattle.std.specs.Prelude.{◌≡◌, ℕ, ◌+◌, ◌<◌, Bool, true, false, max, [], ◌∷◌, ◌++◌, length, Option, Some, None}
use Rattle.std.specs.Prelude.{slice_set, ◌⊎◌}
use Rattle.cd_pairing.specs.Events.{EventView}
use Rattle.cd_pairing.specs.Pairing.{may_pair}
use Rattle.cd_window.specs.declared.held.Held.{Held}
use Rattle.cd_window.specs.Seen.{Places, Seen, count_of, held_at, stamped, is_open}

-- the next event as it is held
abbrev pub next_held : {E : Type 0} → (E → EventView) → Seen E → E → Option ℕ → Held E
next_held view w e partner = record {
  event = e;
  clock = max w.clock (view e).time;
  weight_sum = w.weight_sum + (view e).weight;
  partner = partner;
}

-- whether what is held at this place may stand with the next event
abbrev pub fits_next : {E : Type 0} → (E → EventView) → Seen E → E → ℕ → Held E → Bool
fits_next view w e k h =
    may_pair w.windows (stamped view (w.first + k) h) (stamped view (count_of w) (next_held view w e None))

-- before this place, nothing that is unpaired and whose window is open may stand with the next event
pub record NoneFitsBefore {E : Type 0} (view : E → EventView) (w : Seen E) (e : E) (limit : ℕ) : Type 0 where
  pub none : (k : ℕ) (h : Held E) → k < limit → held_at w k ≡ Some h → h.partner ≡ None →
      is_open view w k h ≡ true → fits_next view w e k h ≡ false

-- this event with a partner
abbrev pub with_partner : {E : Type 0} → Held E → ℕ → Held E
with_partner h j = record { event = h.event; clock = h.clock; weight_sum = h.weight_sum; partner = Some j }

-- the next event is paired with the earliest that may stand with it
pub record JoinsAt {E : Type 0} (view : E → EventView) (w : Seen E) (e : E) (new : Places E) : Type 0 where
  pub place : ℕ
  pub was : Held E
  pub within : place < length w.held
  pub held : held_at w place ≡ Some was
  pub free : was.partner ≡ None
  pub fits : fits_next view w e place was ≡ true
  pub earlier : NoneFitsBefore view w e place
  pub new_is : new ≡ slice_set w.held place (Some (with_partner was (count_of w)))
      ++ Some (next_held view w e (Some (w.first + place))) ∷ []

-- nothing may stand with the next event, which stays unpaired
pub record StaysAlone {E : Type 0} (view : E → EventView) (w : Seen E) (e : E) (new : Places E) : Type 0 where
  pub none : NoneFitsBefore view w e (length w.held)
  pub new_is : new ≡ w.held ++ Some (next_held view w e None) ∷ []

-- what a push of this event does
pub record IsPushed {E : Type 0} (view : E → EventView) (w : Seen E) (e : E) (new : Seen E) : Type 0 where
  pub windows : new.windows ≡ w.windows
  pub finished : new.finished ≡ w.finished
  pub first : new.first ≡ w.first
  pub clock : new.clock ≡ max w.clock (view e).time
  pub weight_sum : new.weight_sum ≡ w.weight_sum + (view e).weight
  pub held : JoinsAt view w e new.held ⊎ StaysAlone view w e new.held
