-- The stamp of the next event.
use Rattle.std.proofs.Common.{◌≡◌, ℕ, ◌+◌, ◌<◌, ◌≤◌, List, length, take, map, get_or, ap, sym, ◌∙◌, arith, max}
use Rattle.std.specs.List.{fold, sum_by}
use Rattle.std.proofs.lemmas.List.{length-map, get_or-map}
use Rattle.std.proofs.lemmas.List.Sums.{fold_more, sum_by_more, sum_by_more_le}
use Rattle.cd_pairing.specs.declared.stamp.Stamp.{Stamp}
use Rattle.cd_pairing.specs.Events.{EventView, event_at, no_event}
use Rattle.cd_pairing.specs.Waiting.{digest_of, stamp_at}

-- the event that is read at a index is the one that it shows there
pub at_next : {X : Type 0} (view : X → EventView) (xs : List X) (n : ℕ) (x : X) → n < length xs → x ≡ get_or xs n x → event_at (map view xs) n ≡ view x
at_next view xs n x lt e = get_or-map view xs n x no_event lt ∙ ap view (sym e)

-- the stamp of the next event
pub record Next (events : List EventView) (n clock weight time added digest : ℕ) : Type 0 where
  pub stamp : ◌≡◌ {A = Stamp} (record { index = n; clock = max clock time; weight_sum = weight + added; digest = digest }) (stamp_at events n)
  pub light : weight + added ≤ sum_by (λ e. e.weight) events

pub next : {X : Type 0} (view : X → EventView) (xs : List X) (n : ℕ) (x : X) (clock weight time added digest : ℕ) → n < length xs → x ≡ get_or xs n x →
    clock ≡ fold (λ latest e. max latest e.time) 0 (take n (map view xs)) → weight ≡ sum_by (λ e. e.weight) (take n (map view xs)) → time ≡ (view x).time → added ≡ (view x).weight →
    digest ≡ digest_of (view x).primary → Next (map view xs) n clock weight time added digest
next view xs n x clock weight time added digest lt read c s t a d =
    let events : List EventView = map view xs in
    let inside : n < length events = omega (arith, length-map xs view) in
    let at = at_next view xs n x lt read in
    let f : ℕ → EventView → ℕ = λ latest y. max latest y.time in
    let g : EventView → ℕ = λ y. y.weight in
    let new_clock : max clock time ≡ fold f 0 (take (n + 1) events) =
    ap (λ (y : ℕ). max y time) c ∙ ap (λ (y : ℕ). max (fold f 0 (take n events)) y) (t ∙ ap (λ (y : EventView). y.time) (sym at)) ∙ sym (fold_more f 0 events n no_event inside) in
    let new_weight : weight + added ≡ sum_by g (take (n + 1) events) =
    ap (λ (y : ℕ). y + added) s ∙ ap (λ (y : ℕ). sum_by g (take n events) + y) (a ∙ ap (λ (y : EventView). y.weight) (sym at)) ∙ sym (sum_by_more g events n no_event inside) in
    let new_digest : digest ≡ digest_of (event_at events n).primary = d ∙ ap (λ (y : EventView). digest_of y.primary) (sym at) in
    record {
      stamp =
          ap (λ (y : ℕ). let r : Stamp = record { index = n; clock = y; weight_sum = weight + added; digest = digest } in r) new_clock
          ∙ ap (λ (y : ℕ). let r : Stamp = record { index = n; clock = fold f 0 (take (n + 1) events); weight_sum = y; digest = digest } in r) new_weight
          ∙ ap (λ (y : ℕ). let r : Stamp = record { index = n; clock = fold f 0 (take (n + 1) events); weight_sum = sum_by g (take (n + 1) events); digest = y } in r) new_digest;
      light = let l = sum_by_more_le g events n no_event inside in let w = a ∙ ap (λ (y : EventView). y.weight) (sym at) in omega arith;
    }
