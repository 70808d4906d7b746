-- A list from one of its slots on, and how slots that fail a test are passed.
use Rattle.std.proofs.Common.{◌≡◌, ℕ, suc, ◌<◌, Bool, true, false, eqb, List, [], ◌∷◌, length, cond, filter, Option, Some, None, refl, ap, sym, ◌∙◌, arith, inl, inr}
use Rattle.std.specs.Prelude.{slice_get}
use Rattle.std.proofs.lemmas.Bool.{cases_Bool, eqb-true, eq-eqb, true≢false, false_from_ne_true}
use Rattle.std.proofs.lemmas.Option.{none-some}
use Rattle.cd_chain.specs.Cells.{is_in, AreDistinct}
use Rattle.cd_chain.specs.Contents.{slots_of, after_in}
use Rattle.cd_chain.specs.Lists.{InList}
use Rattle.cd_chain.proofs.Linking.{tail_in}
use Rattle.cd_window.proofs.Listing.{first_in}
use Rattle.cd_window.proofs.Sublists.{was_in}

-- the list from a slot on
abbrev pub from_slot : Option ℕ → List ℕ → List ℕ
from_slot None xs = []
from_slot (Some s) [] = []
from_slot (Some s) (x ∷ xs) = cond (eqb s x) (x ∷ xs) (from_slot (Some s) xs)

-- from a slot behind the first one
behind : (o : Option ℕ) (x : ℕ) (xs : List ℕ) → ((s : ℕ) → o ≡ Some s → is_in s xs ≡ true) → is_in x xs ≡ false → from_slot o (x ∷ xs) ≡ from_slot o xs
behind None x xs h out = refl
behind (Some s) x xs h out =
    let ne : eqb s x ≡ false = false_from_ne_true (eqb s x) (λ q. true≢false (sym (h s refl) ∙ ap (λ (t : ℕ). is_in t xs) (eqb-true s x q) ∙ out)) in
    rw ne refl

-- from the first slot
pub from_first : (xs : List ℕ) → from_slot (slice_get xs 0) xs ≡ xs
from_first [] = refl
from_first (x ∷ xs) = rw (eq-eqb x x refl) refl

after_among : (s : ℕ) (xs : List ℕ) (t : ℕ) → after_in s xs ≡ Some t → is_in t xs ≡ true
after_among s [] t e = absurd (none-some t e)
after_among s (x ∷ xs) t e = elim (cases_Bool (eqb s x)) [
  | inl q ↦ let f : slice_get xs 0 ≡ Some t = rw q at e in tail_in t x xs (first_in xs t f)
  | inr q ↦ let f : after_in s xs ≡ Some t = rw q at e in tail_in t x xs (after_among s xs t f)
]

-- a slot, and then the list from the next one on
from_next : (s : ℕ) (xs : List ℕ) → AreDistinct xs → is_in s xs ≡ true → from_slot (Some s) xs ≡ s ∷ from_slot (after_in s xs) xs
from_next s [] d i = absurd (true≢false (sym i))
from_next s (x ∷ xs) d i = elim (cases_Bool (eqb s x)) [
  | inl e ↦
      let same : x ≡ s = sym (eqb-true s x e) in
      let rest : from_slot (slice_get xs 0) (x ∷ xs) ≡ xs = behind (slice_get xs 0) x xs (λ t q. first_in xs t q) d.0 ∙ from_first xs in
      rw e (ap (λ (y : ℕ). y ∷ xs) same ∙ ap (λ (ys : List ℕ). s ∷ ys) (sym rest))
  | inr e ↦
      let j : is_in s xs ≡ true = rw e at i in
      let rest : from_slot (after_in s xs) (x ∷ xs) ≡ from_slot (after_in s xs) xs = behind (after_in s xs) x xs (λ t q. after_among s xs t q) d.0 in
      rw e (from_next s xs d.1 j ∙ ap (λ (ys : List ℕ). s ∷ ys) (sym rest))
]

-- a slot that fails the test is passed
pub record Passes (p : ℕ → Bool) (o o' : Option ℕ) (xs : List ℕ) : Type 0 where
  pub among : (s : ℕ) → o' ≡ Some s → is_in s xs ≡ true
  pub same : filter p (from_slot o' xs) ≡ filter p (from_slot o xs)
  pub shorter : length (from_slot o' xs) < length (from_slot o xs)

pub passes : (p : ℕ → Bool) (o o' : Option ℕ) (s : ℕ) (xs : List ℕ) → AreDistinct xs → is_in s xs ≡ true → p s ≡ false → o ≡ Some s → o' ≡ after_in s xs → Passes p o o' xs
passes p o o' s xs d i fails e e' =
    let rest : List ℕ = from_slot (after_in s xs) xs in
    let next : from_slot o xs ≡ s ∷ rest = ap (λ (u : Option ℕ). from_slot u xs) e ∙ from_next s xs d i in
    let now : from_slot o' xs ≡ rest = ap (λ (u : Option ℕ). from_slot u xs) e' in
    let skip : filter p (s ∷ rest) ≡ filter p rest = rw fails refl in
    record {
      among = λ t q. after_among s xs t (sym e' ∙ q);
      same = ap (filter p) now ∙ sym (ap (filter p) next ∙ skip);
      shorter =
          let a : length (from_slot o xs) ≡ suc (length rest) = ap length next in
          let b : length (from_slot o' xs) ≡ length rest = ap length now in
          omega arith;
    }

-- where no slot is left, or one that passes the test, it is the first that does
pub stops : (p : ℕ → Bool) (o : Option ℕ) (xs : List ℕ) → AreDistinct xs → ((s : ℕ) → o ≡ Some s → is_in s xs ≡ true) → ((s : ℕ) → o ≡ Some s → p s ≡ true) → filter p (from_slot o xs) ≡ filter p xs → o ≡ slice_get (filter p xs) 0
stops p None xs d i h e = ap (λ (ys : List ℕ). slice_get ys 0) e
stops p (Some s) xs d i h e =
    let rest : List ℕ = from_slot (after_in s xs) xs in
    let next : slice_get (filter p (from_slot (Some s) xs)) 0 ≡ slice_get (filter p (s ∷ rest)) 0 = ap (λ (ys : List ℕ). slice_get (filter p ys) 0) (from_next s xs d (i s refl)) in
    let here : slice_get (filter p (s ∷ rest)) 0 ≡ Some s = rw (h s refl) refl in
    sym (next ∙ here) ∙ ap (λ (ys : List ℕ). slice_get ys 0) e

pub in_list : (o : Option (List ℕ)) (s : ℕ) → is_in s (slots_of o) ≡ true → InList o s
in_list None s i = absurd (true≢false (sym i))
in_list (Some xs) s i = i

-- the part of distinct slots that passes a test
pub distinct_filter : (p : ℕ → Bool) (xs : List ℕ) → AreDistinct xs → AreDistinct (filter p xs)
distinct_filter p [] d = d
distinct_filter p (x ∷ xs) d = elim (cases_Bool (p x)) [
  | inl e ↦ rw e (false_from_ne_true (is_in x (filter p xs)) (λ i. true≢false (sym (was_in p xs x i).0 ∙ d.0)), distinct_filter p xs d.1)
  | inr e ↦ rw e (distinct_filter p xs d.1)
]

-- two tests, one after the other
pub filter_swap : (p q : ℕ → Bool) (xs : List ℕ) → filter p (filter q xs) ≡ filter q (filter p xs)
filter_swap p q [] = refl
filter_swap p q (x ∷ xs) =
    let r = filter_swap p q xs in
    elim (cases_Bool (p x)) [
      | inl e ↦ elim (cases_Bool (q x)) [
        | inl f ↦ rw (e, f, e) (ap (λ (ys : List ℕ). x ∷ ys) r)
        | inr f ↦ rw (e, f) r
      ]
      | inr e ↦ elim (cases_Bool (q x)) [
        | inl f ↦ rw (e, f, e) r
        | inr f ↦ rw (e, f) r
      ]
    ]
