-- What an event shows to the pairing, the running clock and the running sum of weights.
use Rattle.std.specs.Prelude.{ℕ, ◌+◌, Bool, true, false, max, nat_eq, List, [], take, slice_index_or, Option, Some, None}
use Rattle.std.specs.List.{fold, sum_by}
use Rattle.std.specs.Cmp.Lexicographic.{pointwise}
use Rattle.cd_pairing.specs.declared.keyed.Side.{Side}
use Rattle.cd_pairing.specs.declared.keyed.Side.TheVariants.{Query, Response, Neither}

-- what the methods of `Keyed` answer
pub record EventView : Type 0 where
  pub side : Side
  pub time : ℕ
  pub weight : ℕ
  pub primary : List ℕ
  pub secondary : Option (List ℕ)

-- what stands past the end of a list of events
abbrev pub no_event : EventView
no_event = record { side = Neither; time = 0; weight = 0; primary = []; secondary = None }

abbrev pub event_at : List EventView → ℕ → EventView
event_at events i = slice_index_or events i no_event

-- the greatest time of the events up to and with this one
abbrev pub clock : List EventView → ℕ → ℕ
clock events i = fold (λ latest e. max latest e.time) 0 (take (i + 1) events)

-- the sum of the weights of the events up to and with this one
abbrev pub weight_sum : List EventView → ℕ → ℕ
weight_sum events i = sum_by (λ e. e.weight) (take (i + 1) events)

-- one of the two is a query and the other a response
abbrev pub are_opposite : Side → Side → Bool
are_opposite Query Response = true
are_opposite Response Query = true
are_opposite _ _ = false

-- equal, or one is absent
abbrev pub secondaries_agree : Option (List ℕ) → Option (List ℕ) → Bool
secondaries_agree (Some a) (Some b) = pointwise nat_eq a b
secondaries_agree None _ = true
secondaries_agree (Some a) None = true
