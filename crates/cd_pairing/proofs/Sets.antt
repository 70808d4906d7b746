-- The pairs of a matching are the one set without a blocking pair.
use Rattle.std.proofs.Common.{◌≡◌, ℕ, zero, suc, ◌<◌, ◌≤◌, Bool, true, false, ◌||◌, ltb, cond, List, length, map, Option, Some, None, refl, ap, sym, ◌∙◌, subst, arith, inl, inr}
use Rattle.std.specs.List.{range_with_len}
use Rattle.std.proofs.lemmas.Bool.{cases_lt, cases_eq, cases_Bool, or_cases, true≢false, eq-eqb, ne_eqb, eqb-true, lt-ltb, le-ltb, ltb-true, and_parts, and_from}
use Rattle.std.proofs.lemmas.Option.{same_Some, none-some}
use Rattle.std.proofs.lemmas.List.FromFn.{length-map-range_with_len, get_or-map-range_with_len}
use Rattle.cd_pairing.specs.Matching.{partner, IsFreeAfter, IsMatching}
use Rattle.cd_pairing.specs.PairSet.{stand_together, IsPairSet, is_partner, pairs_of, MatchingsAreSets}
use Rattle.cd_pairing.proofs.Unique.{partner_within, unique}

abbrev find : (ℕ → Bool) → ℕ → Option ℕ
find f zero = None
find f (suc n) = cond (f n) (Some n) (find f n)

find_some_at : (f : ℕ → Bool) (n k : ℕ) → (find f n ≡ Some k → f k ≡ true) → (b : Bool) → f n ≡ b → cond b (Some n) (find f n) ≡ Some k → f k ≡ true
find_some_at f n k before true h e = subst (λ (x : ℕ). f x ≡ true) (same_Some n k e) h
find_some_at f n k before false h e = before e

find_some : (f : ℕ → Bool) (n k : ℕ) → find f n ≡ Some k → f k ≡ true
find_some f zero k e = absurd (none-some k e)
find_some f (suc n) k e = find_some_at f n k (find_some f n k) (f n) refl e

find_none_at : (f : ℕ → Bool) (n k : ℕ) → k ≤ n → f k ≡ true → (k < n → find f n ≡ None → ⊥) → (b : Bool) → f n ≡ b → cond b (Some n) (find f n) ≡ None → ⊥
find_none_at f n k le t before true h e = none-some n (sym e)
find_none_at f n k le t before false h e = elim (cases_lt k n) [
  | inl lt ↦ before lt e
  | inr ge ↦ let same : k ≡ n = omega arith in true≢false (sym t ∙ ap f same ∙ h)
]

find_none : (f : ℕ → Bool) (n k : ℕ) → k < n → f k ≡ true → find f n ≡ None → ⊥
find_none f zero k lt t e = absurd (omega arith)
find_none f (suc n) k lt t e = find_none_at f n k (omega arith) t (λ h x. find_none f n k h t x) (f n) refl e

listing : (ℕ → ℕ → Bool) → ℕ → List (Option ℕ)
listing P n = map (λ i. find (stand_together P i) n) (range_with_len 0 n)

listing_length : (P : ℕ → ℕ → Bool) (n : ℕ) → length (listing P n) ≡ n
unfolding listing
listing_length P n = length-map-range_with_len (λ i. find (stand_together P i) n) 0 n

listing_at : (P : ℕ → ℕ → Bool) (n i : ℕ) → i < n → partner (listing P n) i ≡ find (stand_together P i) n
unfolding listing
listing_at P n i lt = get_or-map-range_with_len (λ k. find (stand_together P k) n) 0 n i i None lt (omega arith)

turned : (a b : Bool) → (a || b) ≡ true → (b || a) ≡ true
turned true true h = refl
turned true false h = refl
turned false true h = refl
turned false false h = h

turn : (P : ℕ → ℕ → Bool) (i j : ℕ) → stand_together P i j ≡ true → stand_together P j i ≡ true
turn P i j h = turned (P i j) (P j i) h

left : (a b : Bool) → a ≡ true → (a || b) ≡ true
left a b h = rw h refl

-- the one that a position stands with is found
found_at : (t : ℕ → ℕ → Bool) (n : ℕ) (P : ℕ → ℕ → Bool) → IsPairSet t n P → (i j : ℕ) → j < n → stand_together P i j ≡ true → (o : Option ℕ) → find (stand_together P i) n ≡ o → find (stand_together P i) n ≡ Some j
found_at t n P S i j lt h None e = absurd (find_none (stand_together P i) n j lt h e)
found_at t n P S i j lt h (Some k) e = e ∙ ap Some (S.once i k j (find_some (stand_together P i) n k e) h)

both_in : (t : ℕ → ℕ → Bool) (n : ℕ) (P : ℕ → ℕ → Bool) → IsPairSet t n P → (i j : ℕ) → stand_together P i j ≡ true → (i < n) × (j < n)
both_in t n P S i j h = elim (or_cases (P i j) (P j i) h) [
  | inl x ↦ let w = S.inside i j x in let a = w.0 in let b = w.1 in (omega arith, omega arith)
  | inr x ↦ let w = S.inside j i x in let a = w.0 in let b = w.1 in (omega arith, omega arith)
]

listed_some : (t : ℕ → ℕ → Bool) (n : ℕ) (P : ℕ → ℕ → Bool) → IsPairSet t n P → (i j : ℕ) → stand_together P i j ≡ true → partner (listing P n) i ≡ Some j
listed_some t n P S i j h = let w = both_in t n P S i j h in
    listing_at P n i w.0 ∙ found_at t n P S i j w.1 h (find (stand_together P i) n) refl

some_listed : (P : ℕ → ℕ → Bool) (n i j : ℕ) → partner (listing P n) i ≡ Some j → stand_together P i j ≡ true
some_listed P n i j e =
    let w = partner_within (listing P n) i j e in
    let lt : i < n = omega (arith, listing_length P n) in
    find_some (stand_together P i) n j (sym (listing_at P n i lt) ∙ e)

first_of_two : (t : ℕ → ℕ → Bool) (n : ℕ) (P : ℕ → ℕ → Bool) → IsPairSet t n P → (i j : ℕ) → i < j → stand_together P i j ≡ true → P i j ≡ true
first_of_two t n P S i j lt h = elim (or_cases (P i j) (P j i) h) [ inl x ↦ x | inr x ↦ absurd (let w = (S.inside j i x).0 in omega arith) ]

after : (m : ℕ) (o : Option ℕ) (k : ℕ) → IsFreeAfter m o → o ≡ Some k → m < k
after m o k f e = subst (λ (x : Option ℕ). IsFreeAfter m x) e f

listing_matches : (t : ℕ → ℕ → Bool) (n : ℕ) (P : ℕ → ℕ → Bool) → IsPairSet t n P → IsMatching t n (listing P n)
listing_matches t n P S = record {
  total = listing_length P n;
  back = λ i j e. listed_some t n P S j i (turn P i j (some_listed P n i j e));
  apart = λ i e. elim (or_cases (P i i) (P i i) (some_listed P n i i e)) [ inl x ↦ (let w = (S.inside i i x).0 in omega arith) | inr x ↦ (let w = (S.inside i i x).0 in omega arith) ];
  compatible = λ i j lt e. S.compatible i j (first_of_two t n P S i j lt (some_listed P n i j e));
  stable = λ i j lt below b.
      elim (cases_Bool (P i j)) [
        | inl x ↦ b.outside (listed_some t n P S i j (left (P i j) (P j i) x))
        | inr x ↦ S.stable i j lt below b.compatible x
            (λ k h. after j (partner (listing P n) i) k b.earlier (listed_some t n P S i k h))
            (λ k h. after i (partner (listing P n) j) k b.later (listed_some t n P S j k h))
      ];
}

named : (o : Option ℕ) (j : ℕ) (b : Bool) → (b ≡ true → o ≡ Some j) → (o ≡ Some j → b ≡ true) → b ≡ is_partner o j
named None j true f g = absurd (none-some j (f refl))
named None j false f g = refl
named (Some k) j true f g = sym (eq-eqb k j (same_Some k j (f refl)))
named (Some k) j false f g = elim (cases_eq k j) [ inl e ↦ absurd (true≢false (sym (g (ap Some e)))) | inr ne ↦ sym (ne_eqb k j ne) ]

-- of positions in order a set tells the partners
same_ordered : (t : ℕ → ℕ → Bool) (n : ℕ) (p : List (Option ℕ)) (P : ℕ → ℕ → Bool) → IsMatching t n p → IsPairSet t n P → (i j : ℕ) → i < j → P i j ≡ is_partner (partner p i) j
same_ordered t n p P M S i j lt =
    let same : listing P n ≡ p = unique t n (listing P n) p (listing_matches t n P S) M in
    let at : partner (listing P n) i ≡ partner p i = ap (λ (l : List (Option ℕ)). partner l i) same in
    named (partner p i) j (P i j)
    (λ x. sym at ∙ listed_some t n P S i j (left (P i j) (P j i) x))
    (λ e. first_of_two t n P S i j lt (some_listed P n i j (at ∙ e)))

disordered : (t : ℕ → ℕ → Bool) (n : ℕ) (P : ℕ → ℕ → Bool) → IsPairSet t n P → (i j : ℕ) → j ≤ i → (b : Bool) → P i j ≡ b → b ≡ false
disordered t n P S i j le true e = absurd (let w = (S.inside i j e).0 in omega arith)
disordered t n P S i j le false e = refl

same_set : (t : ℕ → ℕ → Bool) (n : ℕ) (p : List (Option ℕ)) (P : ℕ → ℕ → Bool) → IsMatching t n p → IsPairSet t n P → (i j : ℕ) → P i j ≡ pairs_of p i j
same_set t n p P M S i j = elim (cases_lt i j) [
  | inl lt ↦ same_ordered t n p P M S i j lt ∙ (let h : ltb i j ≡ true = lt-ltb i j lt in rw h refl)
  | inr ge ↦ disordered t n P S i j ge (P i j) refl ∙ (let h : ltb i j ≡ false = le-ltb i j ge in rw h refl)
]

partner_named : (o : Option ℕ) (j : ℕ) → is_partner o j ≡ true → o ≡ Some j
partner_named None j e = absurd (true≢false (sym e))
partner_named (Some k) j e = ap Some (eqb-true k j e)

named_partner : (o : Option ℕ) (j : ℕ) → o ≡ Some j → is_partner o j ≡ true
named_partner o j e = ap (λ (x : Option ℕ). is_partner x j) e ∙ eq-eqb j j refl

-- a pair of the set is two partners in order
pub record Ordered (p : List (Option ℕ)) (i j : ℕ) : Type 0 where
  pub before : i < j
  pub is : partner p i ≡ Some j

ordered : (p : List (Option ℕ)) (i j : ℕ) → pairs_of p i j ≡ true → Ordered p i j
ordered p i j e = let w = and_parts _ _ e in record { before = ltb-true i j w.0; is = partner_named (partner p i) j w.1 }

in_set : (p : List (Option ℕ)) (i j : ℕ) → i < j → partner p i ≡ Some j → pairs_of p i j ≡ true
in_set p i j lt e = and_from _ _ (lt-ltb i j lt) (named_partner (partner p i) j e)

together_some : (t : ℕ → ℕ → Bool) (n : ℕ) (p : List (Option ℕ)) → IsMatching t n p → (i j : ℕ) → stand_together (pairs_of p) i j ≡ true → partner p i ≡ Some j
together_some t n p M i j e = elim (or_cases (pairs_of p i j) (pairs_of p j i) e) [
  | inl x ↦ (ordered p i j x).is
  | inr x ↦ M.back j i (ordered p j i x).is
]

right : (a b : Bool) → b ≡ true → (a || b) ≡ true
right true b h = refl
right false b h = h

some_together : (t : ℕ → ℕ → Bool) (n : ℕ) (p : List (Option ℕ)) → IsMatching t n p → (i j : ℕ) → partner p i ≡ Some j → stand_together (pairs_of p) i j ≡ true
some_together t n p M i j e = elim (cases_lt i j) [
  | inl lt ↦ left (pairs_of p i j) (pairs_of p j i) (in_set p i j lt e)
  | inr ge ↦ elim (cases_eq i j) [
    | inl same ↦ absurd (M.apart i (e ∙ ap Some (sym same)))
    | inr ne ↦ right (pairs_of p i j) (pairs_of p j i) (in_set p j i (omega arith) (M.back i j e))
  ]
]

free_by : (m : ℕ) (o : Option ℕ) → ((k : ℕ) → o ≡ Some k → m < k) → IsFreeAfter m o
free_by m None f = tt
free_by m (Some k) f = f k refl

set_holds : (t : ℕ → ℕ → Bool) (n : ℕ) (p : List (Option ℕ)) → IsMatching t n p → IsPairSet t n (pairs_of p)
set_holds t n p M = record {
  inside = λ i j e.
      let w = ordered p i j e in
      let below = partner_within p j i (M.back i j w.is) in
      (w.before, omega (arith, M.total));
  compatible = λ i j e. let w = ordered p i j e in M.compatible i j w.before w.is;
  once = λ i j k x y. same_Some j k (sym (together_some t n p M i j x) ∙ together_some t n p M i k y);
  stable = λ i j lt below c out fi fj.
      M.stable i j lt below (record {
        compatible = c;
        outside = λ e. true≢false (sym (in_set p i j lt e) ∙ out);
        earlier = free_by j (partner p i) (λ k e. fi k (some_together t n p M i k e));
        later = free_by i (partner p j) (λ k e. fj k (some_together t n p M j k e));
      });
}

pub matchings_are_sets : MatchingsAreSets
matchings_are_sets t n p M = record { holds = set_holds t n p M; same = λ P S i j. same_set t n p P M S i j }
