-- Lists of slots without one of them, and the part of a list that passes a test.
use Rattle.std.proofs.Common.{◌≡◌, ℕ, ◌+◌, Bool, true, false, ◌||◌, eqb, List, [], ◌∷◌, ◌++◌, length, cond, filter, Some, None, refl, ap, sym, ◌∙◌, subst, arith, inl, inr}
use Rattle.std.specs.Prelude.{slice_get}
use Rattle.std.proofs.lemmas.Bool.{cases_Bool, eqb-true, eq-eqb, or_cases, true≢false}
use Rattle.std.proofs.lemmas.Option.{none-some}
use Rattle.std.proofs.lemmas.List.Elements.{filter-append}
use Rattle.cd_chain.specs.Cells.{is_in, AreDistinct}
use Rattle.cd_chain.specs.Chains.{without}
use Rattle.cd_chain.proofs.Linking.{head_in, tail_in, without_none}

-- tests that agree on a list leave the same of it
pub filter_same : (p q : ℕ → Bool) (xs : List ℕ) → ((s : ℕ) → is_in s xs ≡ true → p s ≡ q s) → filter p xs ≡ filter q xs
filter_same p q [] h = refl
filter_same p q (x ∷ xs) h =
    let e : p x ≡ q x = h x (head_in x xs) in
    let r : filter p xs ≡ filter q xs = filter_same p q xs (λ s i. h s (tail_in s x xs i)) in
    ap (λ (b : Bool). cond b (x ∷ filter p xs) (filter p xs)) e ∙ ap (λ (ys : List ℕ). cond (q x) (x ∷ ys) ys) r

-- a test that fails on a list leaves nothing of it
pub filter_none : (p : ℕ → Bool) (xs : List ℕ) → ((s : ℕ) → is_in s xs ≡ true → p s ≡ false) → filter p xs ≡ []
filter_none p [] h = refl
filter_none p (x ∷ xs) h = rw (h x (head_in x xs)) (filter_none p xs (λ s i. h s (tail_in s x xs i)))

-- what passes stays
pub in_filter : (p : ℕ → Bool) (xs : List ℕ) (s : ℕ) → is_in s xs ≡ true → p s ≡ true → is_in s (filter p xs) ≡ true
in_filter p [] s i h = absurd (true≢false (sym i))
in_filter p (x ∷ xs) s i h = elim (cases_Bool (eqb s x)) [
  | inl e ↦
      let same : s ≡ x = eqb-true s x e in
      let px : p x ≡ true = ap p (sym same) ∙ h in
      rw px (rw e refl)
  | inr ne ↦
      let later : is_in s xs ≡ true = rw ne at i in
      let r = in_filter p xs s later h in
      elim (cases_Bool (p x)) [
        | inl px ↦ rw px (tail_in s x (filter p xs) r)
        | inr px ↦ rw px r
      ]
]

-- what stays was there and passes
pub was_in : (p : ℕ → Bool) (xs : List ℕ) (s : ℕ) → is_in s (filter p xs) ≡ true → (is_in s xs ≡ true) × (p s ≡ true)
was_in p [] s i = absurd (true≢false (sym i))
was_in p (x ∷ xs) s i = elim (cases_Bool (p x)) [
  | inl px ↦
      let j : (eqb s x || is_in s (filter p xs)) ≡ true = rw px at i in
      elim (cases_Bool (eqb s x)) [
        | inl e ↦
            let same : s ≡ x = eqb-true s x e in
            (rw e refl, ap p same ∙ px)
        | inr ne ↦
            let k : is_in s (filter p xs) ≡ true = rw ne at j in
            let r = was_in p xs s k in
            (tail_in s x xs r.0, r.1)
      ]
  | inr px ↦
      let k : is_in s (filter p xs) ≡ true = rw px at i in
      let r = was_in p xs s k in
      (tail_in s x xs r.0, r.1)
]

-- the first that passes is one of the list and passes
pub first_is : (p : ℕ → Bool) (xs : List ℕ) (s : ℕ) → slice_get (filter p xs) 0 ≡ Some s → (is_in s xs ≡ true) × (p s ≡ true)
first_is p [] s e = absurd (none-some s e)
first_is p (x ∷ xs) s e = elim (cases_Bool (p x)) [
  | inl px ↦
      let f : Some x ≡ Some s = rw px at e in
      let same : x ≡ s = cc in
      (rw (eq-eqb s x (sym same)) refl, sym (ap p same) ∙ px)
  | inr px ↦
      let f : slice_get (filter p xs) 0 ≡ Some s = rw px at e in
      let r = first_is p xs s f in
      (tail_in s x xs r.0, r.1)
]

-- a slot goes from a part as from the list
pub filter_without : (p q : ℕ → Bool) (s : ℕ) (xs : List ℕ) → ((t : ℕ) → eqb s t ≡ false → q t ≡ p t) → filter q (without s xs) ≡ without s (filter p xs)
filter_without p q s [] h = refl
filter_without p q s (x ∷ xs) h =
    let r = filter_without p q s xs h in
    elim (cases_Bool (eqb s x)) [
      | inl e ↦ elim (cases_Bool (p x)) [
        | inl px ↦ rw (e, px, e) r
        | inr px ↦ rw (e, px) r
      ]
      | inr ne ↦
          let qx : q x ≡ p x = h x ne in
          elim (cases_Bool (p x)) [
            | inl px ↦ rw (ne, qx, px, ne) (ap (λ (ys : List ℕ). x ∷ ys) r)
            | inr px ↦ rw (ne, qx, px) r
          ]
    ]

-- a slot that is gone is not there
pub not_in_without : (s t : ℕ) (xs : List ℕ) → is_in t (without s xs) ≡ true → eqb s t ≡ false
not_in_without s t [] i = absurd (true≢false (sym i))
not_in_without s t (x ∷ xs) i = elim (cases_Bool (eqb s x)) [
  | inl e ↦ not_in_without s t xs (rw e at i)
  | inr ne ↦
      let j : (eqb t x || is_in t (without s xs)) ≡ true = rw ne at i in
      elim (or_cases (eqb t x) (is_in t (without s xs)) j) [
        | inl q ↦ let same : t ≡ x = eqb-true t x q in subst (λ (y : ℕ). eqb s y ≡ false) (sym same) ne
        | inr q ↦ not_in_without s t xs q
      ]
]

-- a list of distinct slots is one shorter without one of them
pub length_without : (s : ℕ) (xs : List ℕ) → AreDistinct xs → is_in s xs ≡ true → length (without s xs) + 1 ≡ length xs
length_without s [] d i = absurd (true≢false (sym i))
length_without s (x ∷ xs) d i = elim (cases_Bool (eqb s x)) [
  | inl e ↦
      let same : s ≡ x = eqb-true s x e in
      let out : is_in s xs ≡ false = subst (λ (y : ℕ). is_in y xs ≡ false) (sym same) d.0 in
      rw e (let a : length (without s xs) ≡ length xs = ap length (without_none s xs out) in omega arith)
  | inr ne ↦
      let j : is_in s xs ≡ true = rw ne at i in
      rw ne (let a = length_without s xs d.1 j in omega arith)
]

-- one slot more at the end
pub filter_push : (p q : ℕ → Bool) (s : ℕ) (xs : List ℕ) → ((t : ℕ) → is_in t xs ≡ true → q t ≡ p t) → filter q (xs ++ s ∷ []) ≡ filter p xs ++ cond (q s) (s ∷ []) []
filter_push p q s xs h = filter-append q xs (s ∷ []) ∙ ap (λ (ys : List ℕ). ys ++ cond (q s) (s ∷ []) []) (filter_same q p xs h)
