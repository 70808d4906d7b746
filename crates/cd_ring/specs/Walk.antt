-- What the looks of a seat say of a walk over the slots.
use Rattle.std.specs.Prelude.{◌≡◌, ℕ, ◌+◌, ◌<◌, ◌≤◌, List}
use Rattle.cd_ring.specs.declared.view.Look.{Look}
use Rattle.cd_ring.specs.Rule.{READY}
use Rattle.cd_ring.specs.Kinds.{look_at, noted}

-- each of the first k slots was looked at once, and was not READY. No other word was looked at
abbrev pub LookedOver : ℕ → List Look → List Look → Type 0
LookedOver k before now = ((i : ℕ) → i < k → ((look_at now i).times ≡ (look_at before i).times + 1)
    × ((look_at now i).met ≡ READY → ⊥))
    × ((i : ℕ) → k ≤ i → look_at now i ≡ look_at before i)

-- the slots before k were looked at so, and then this one, which was READY
abbrev pub LookedUpTo : ℕ → List Look → List Look → Type 0
LookedUpTo k before now = (first : List Look) × LookedOver k before first × (now ≡ noted first k READY)
