-- The sum of the weights of events that weigh 256 each.
use Rattle.std.proofs.Common.{◌≡◌, ◌*◌, ◌≤◌, List, [], ◌∷◌, length, map, arith}
use Rattle.std.specs.List.{sum_by}
use Rattle.std.proofs.lemmas.List.Sums.{sum_by-cons}
use Rattle.cd_pairing.specs.Events.{EventView}

pub sum_by-alike : {X : Type 0} (view : X → EventView) (xs : List X) → ((x : X) → (view x).weight ≡ 256) → sum_by (λ e. e.weight) (map view xs) ≤ length xs * 256
sum_by-alike view [] each = omega arith
sum_by-alike view (x ∷ xs) each = omega (arith, sum_by-cons (λ (e : EventView). e.weight) (view x) (map view xs), each x, sum_by-alike view xs each)
