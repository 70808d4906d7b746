-- Two claims of one seat are of two slots, and the second leaves the first.
use Rattle.std.proofs.Common.{◌≡◌, ℕ, ◌≢◌, List, set, sym, ap, ◌∙◌, ⊎_elim, Option, Some, None}
use mathlib.Core.Option.{some}
use lib.ListN.{get_elem?}
use Rattle.atomic_table.proofs.Lists.{at_set, set_else}

module _ {J : Type 0} (before now : List (Option J)) (first second : ℕ) (x y : J) where
  pub apart : before ≡ set now second None → get_elem? before first ≡ some (Some x) → first ≢ second
  apart e has is = ⊎_elim
      (λ (t : (first ≡ second) × (None ≡ Some x)). let z : None ≡ Some x = t.1 in cc)
      (λ (t : (first ≢ second) × (get_elem? now first ≡ some (Some x))). t.0 is)
      (at_set now second first None (Some x) (sym (ap (λ (l : List (Option J)). get_elem? l first) e) ∙ has))

  pub still_held : now ≡ set before second (Some y) → before ≡ set now second None → get_elem? before first ≡ some (Some x) → get_elem? now first ≡ some (Some x)
  still_held e f has = ap (λ (l : List (Option J)). get_elem? l first) e ∙ set_else before second first (Some y) (apart f has) ∙ has
