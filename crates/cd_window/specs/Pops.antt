-- What a pop answers, and what it leaves.
use Rattle.std.specs.Prelude.{◌≡◌, ℕ, ◌+◌, ◌<◌, true, false, [], length, drop, Option, Some, None, slice_set, ◌⊎◌}
use Rattle.cd_pairing.specs.declared.keyed.Side.{Side}
use Rattle.cd_pairing.specs.declared.keyed.Side.TheVariants.{Query, Response, Neither}
use Rattle.cd_pairing.specs.Events.{EventView}
use Rattle.cd_window.specs.declared.released.Released.{Released}
use Rattle.cd_window.specs.declared.released.Released.TheVariants.{Pair, One}
use Rattle.cd_window.specs.declared.held.Held.{Held}
use Rattle.cd_window.specs.Seen.{Places, Seen, held_at, is_ready}

-- nothing is held, or something at the front
abbrev pub IsTrimmed : {E : Type 0} → Seen E → Type 0
IsTrimmed w = held_at w 0 ≡ None → w.held ≡ []

-- the front is gone, and with it the places behind it at which nothing was held
pub record IsLeft {E : Type 0} (w : Seen E) (rest : Places E) (new : Seen E) : Type 0 where
  pub skipped : ℕ
  pub within : skipped < length rest
  pub empty : (k : ℕ) → 0 < k → k < 1 + skipped → held_at (record w { held = rest }) k ≡ None
  pub new_is : new ≡ record w { first = w.first + (1 + skipped); held = drop (1 + skipped) rest }
  pub trimmed : IsTrimmed new

-- a pair with its first event at this position, which is of this side
abbrev pub in_order : {E : Type 0} → Side → ℕ → E → E → Released E
in_order Query lead one other = Pair lead one other
in_order Response lead one other = Pair lead other one
in_order Neither lead one other = Pair lead one other

-- the front is unpaired, and popped alone
pub record PopsOne {E : Type 0} (w : Seen E) (result : Released E) (new : Seen E) : Type 0 where
  pub was : Held E
  pub held : held_at w 0 ≡ Some was
  pub free : was.partner ≡ None
  pub result_is : result ≡ One w.first was.event
  pub left : IsLeft w w.held new

-- the front is popped with its partner
pub record PopsPair {E : Type 0} (view : E → EventView) (w : Seen E) (result : Released E) (new : Seen E) : Type 0 where
  pub was : Held E
  pub place : ℕ
  pub other : Held E
  pub held : held_at w 0 ≡ Some was
  pub paired : was.partner ≡ Some (w.first + place)
  pub other_held : held_at w place ≡ Some other
  pub result_is : result ≡ in_order (view was.event).side w.first was.event other.event
  pub left : IsLeft w (slice_set w.held place None) new

-- what a pop answers, and what it leaves
abbrev pub IsPopped : {E : Type 0} → (E → EventView) → Seen E → Option (Released E) → Seen E → Type 0
IsPopped view w None new = (is_ready view w ≡ false) × (new ≡ w)
IsPopped view w (Some r) new = (is_ready view w ≡ true) × (PopsOne w r new ⊎ PopsPair view w r new)
