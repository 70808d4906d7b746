-- What a window keeps of what it holds, whatever its history.
use Rattle.std.specs.Prelude.{◌≡◌, ℕ, ◌+◌, ◌<◌, ◌≤◌, ◌^◌, ◌≢◌, [], ◌∷◌, Some, None, slice_index_or}
use Rattle.cd_pairing.specs.Events.{EventView}
use Rattle.cd_window.specs.declared.held.Held.{Held}
use Rattle.cd_window.specs.Seen.{Places, Seen, count_of, held_at, held_count, held_weight}
use Rattle.cd_window.specs.Pops.{IsTrimmed}

-- from this clock and this sum of weights up to those, the stamps of what is held rise: each sum by its own weight
abbrev pub StampsRise : {E : Type 0} → (E → EventView) → ℕ → ℕ → Places E → ℕ → ℕ → Type 0
StampsRise view clock sum [] last_clock last_sum = (clock ≤ last_clock) × (sum ≤ last_sum)
StampsRise view clock sum (None ∷ hs) last_clock last_sum = StampsRise view clock sum hs last_clock last_sum
StampsRise view clock sum (Some h ∷ hs) last_clock last_sum = (clock ≤ h.clock)
    × (sum + (view h.event).weight ≤ h.weight_sum) × StampsRise view h.clock h.weight_sum hs last_clock last_sum

-- of what is held from this position on: what stands at this place has its partner at that position, which is held as
-- well and paired back
pub record IsMated {E : Type 0} (first : ℕ) (held : Places E) (k j : ℕ) : Type 0 where
  pub place : ℕ
  pub is : j ≡ first + place
  pub other : Held E
  pub there : slice_index_or held place None ≡ Some other
  pub back : other.partner ≡ Some (first + k)
  pub apart : place ≢ k

-- what a window keeps, and what it counts
pub record Keeps {E : Type 0} (view : E → EventView) (w : Seen E) (count weight : ℕ) : Type 0 where
  pub some : 1 ≤ w.windows.count
  pub few : w.windows.count < 2 ^ 31
  pub trimmed : IsTrimmed w
  pub rises : StampsRise view 0 0 w.held w.clock w.weight_sum
  pub mated : (k j : ℕ) (h : Held E) → held_at w k ≡ Some h → h.partner ≡ Some j → IsMated w.first w.held k j
  pub room : count_of w ≤ w.weight_sum
  pub light : w.weight_sum < 2 ^ 63
  pub counted : count ≡ held_count w
  pub weighed : weight ≡ held_weight view w
