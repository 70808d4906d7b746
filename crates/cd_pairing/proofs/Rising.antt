-- The clock and the sum of weights never fall.
use Rattle.std.proofs.Common.{◌≡◌, ℕ, zero, suc, ◌+◌, ◌<◌, ◌≤◌, max, List, length, sym, subst, arith}
use Rattle.std.proofs.lemmas.List.Sums.{fold_more, sum_by_more}
use Rattle.cd_pairing.specs.Events.{EventView, event_at, clock, weight_sum, no_event}

pub clock_next : (events : List EventView) (k : ℕ) → k + 1 < length events → clock events (k + 1) ≡ max (clock events k) (event_at events (k + 1)).time
clock_next events k lt = fold_more (λ latest (e : EventView). max latest e.time) 0 events (k + 1) no_event lt

pub weights_next : (events : List EventView) (k : ℕ) → k + 1 < length events → weight_sum events (k + 1) ≡ weight_sum events k + (event_at events (k + 1)).weight
weights_next events k lt = sum_by_more (λ (e : EventView). e.weight) events (k + 1) no_event lt

pub clock_rises : (events : List EventView) (a d : ℕ) → a + d < length events → clock events a ≤ clock events (a + d)
clock_rises events a zero lt = let e : a + 0 ≡ a = omega arith in subst (λ (k : ℕ). clock events a ≤ clock events k) (sym e) (let x : clock events a ≤ clock events a = omega arith in x)
clock_rises events a (suc d) lt =
    let e : a + d + 1 ≡ a + suc d = omega arith in
    let before : clock events a ≤ clock events (a + d) = clock_rises events a d (omega arith) in
    let step = clock_next events (a + d) (omega arith) in
    subst (λ (k : ℕ). clock events a ≤ clock events k) e (omega arith)

pub weights_rise : (events : List EventView) (a d : ℕ) → a + d < length events → weight_sum events a ≤ weight_sum events (a + d)
weights_rise events a zero lt = let e : a + 0 ≡ a = omega arith in subst (λ (k : ℕ). weight_sum events a ≤ weight_sum events k) (sym e) (let x : weight_sum events a ≤ weight_sum events a = omega arith in x)
weights_rise events a (suc d) lt =
    let e : a + d + 1 ≡ a + suc d = omega arith in
    let before : weight_sum events a ≤ weight_sum events (a + d) = weights_rise events a d (omega arith) in
    let step = weights_next events (a + d) (omega arith) in
    subst (λ (k : ℕ). weight_sum events a ≤ weight_sum events k) e (omega arith)
