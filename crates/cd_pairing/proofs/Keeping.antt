-- The matching of the first positions is the whole one, cut.
use Rattle.std.proofs.Common.{◌≡◌, ℕ, ◌<◌, ◌≤◌, Bool, List, length, take, Option, Some, None, ap, sym, ◌∙◌, subst, arith, ◌≢◌, inl, inr}
use Rattle.std.proofs.lemmas.Bool.{cases_lt, lt-ltb, le-ltb}
use Rattle.std.proofs.lemmas.Option.{same_Some, none-some}
use Rattle.std.proofs.lemmas.List.{get_or-map, get_or-take, length-map, length-take-le}
use Rattle.cd_pairing.specs.Matching.{partner, IsFreeAfter, IsMatching}
use Rattle.cd_pairing.specs.Laws.{partner_below, pairs_below}
use Rattle.cd_pairing.proofs.Unique.{partner_within}

pub record IsBelow (n : ℕ) (o : Option ℕ) (j : ℕ) : Type 0 where
  pub is : o ≡ Some j
  pub under : j < n

pub below_less : (n k : ℕ) → k < n → partner_below n (Some k) ≡ Some k
below_less n k h = rw (lt-ltb k n h)

pub below_more : (n k : ℕ) → n ≤ k → partner_below n (Some k) ≡ None
below_more n k h = rw (le-ltb k n h)

below_some : (n : ℕ) (o : Option ℕ) (j : ℕ) → partner_below n o ≡ Some j → IsBelow n o j
below_some n None j e = absurd (none-some j e)
below_some n (Some k) j e = elim (cases_lt k n) [
  | inl h ↦ let same : k ≡ j = same_Some k j (sym (below_less n k h) ∙ e) in record { is = ap Some same; under = omega arith }
  | inr h ↦ absurd (none-some j (sym (below_more n k h) ∙ e))
]

-- what is free after a position among the first when only these count was free before
below_free : (n m : ℕ) (o : Option ℕ) → m < n → IsFreeAfter m (partner_below n o) → IsFreeAfter m o
below_free n m None lt f = tt
below_free n m (Some k) lt f = elim (cases_lt k n) [
  | inl h ↦ subst (λ (o : Option ℕ). IsFreeAfter m o) (below_less n k h) f
  | inr h ↦ omega arith
]

cut_length : (n : ℕ) (p : List (Option ℕ)) → n ≤ length p → length (pairs_below n p) ≡ n
cut_length n p h = length-map (take n p) (partner_below n) ∙ length-take-le n p h

pub cut_at : (n : ℕ) (p : List (Option ℕ)) (i : ℕ) → n ≤ length p → i < n → partner (pairs_below n p) i ≡ partner_below n (partner p i)
cut_at n p i h lt =
    get_or-map (partner_below n) (take n p) i None None (omega (arith, length-take-le n p h)) ∙ ap (partner_below n) (get_or-take n p i None lt)

cut_some : (n : ℕ) (p : List (Option ℕ)) (i j : ℕ) → n ≤ length p → partner (pairs_below n p) i ≡ Some j → IsBelow n (partner p i) j
cut_some n p i j h e =
    let w = partner_within (pairs_below n p) i j e in
    below_some n (partner p i) j (sym (cut_at n p i h (omega (arith, cut_length n p h))) ∙ e)

cut_free : (n : ℕ) (p : List (Option ℕ)) (i m : ℕ) → n ≤ length p → i < n → m < n → IsFreeAfter m (partner (pairs_below n p) i) → IsFreeAfter m (partner p i)
cut_free n p i m h li lm f = below_free n m (partner p i) lm (subst (λ (o : Option ℕ). IsFreeAfter m o) (cut_at n p i h li) f)

free_outside : (p : List (Option ℕ)) (i j : ℕ) → IsFreeAfter j (partner p i) → partner p i ≢ Some j
free_outside p i j f e = let h : j < j = subst (λ (o : Option ℕ). IsFreeAfter j o) e f in omega arith

cut_back : (R : ℕ → ℕ → Bool) (m n : ℕ) (p : List (Option ℕ)) → IsMatching R m p → n ≤ length p → (i j : ℕ) → partner (pairs_below n p) i ≡ Some j → partner (pairs_below n p) j ≡ Some i
cut_back R m n p P h i j e =
    let w = cut_some n p i j h e in
    let inside = partner_within (pairs_below n p) i j e in
    let li : i < n = omega (arith, cut_length n p h) in
    cut_at n p j h w.under ∙ ap (partner_below n) (P.back i j w.is) ∙ below_less n i li

pub cut : (R : ℕ → ℕ → Bool) (m n : ℕ) (p : List (Option ℕ)) → IsMatching R m p → n ≤ m → IsMatching R n (pairs_below n p)
cut R m n p P le = let h : n ≤ length p = omega (arith, P.total) in record {
  total = cut_length n p h;
  back = cut_back R m n p P h;
  apart = λ i e. P.apart i (cut_some n p i i h e).is;
  compatible = λ i j lt e. P.compatible i j lt (cut_some n p i j h e).is;
  stable = λ i j lt bound b.
      let fi = cut_free n p i j h (omega arith) bound b.earlier in
      let fj = cut_free n p j i h bound (omega arith) b.later in
      P.stable i j lt (omega arith) (record { compatible = b.compatible; outside = free_outside p i j fi; earlier = fi; later = fj });
}
