-- What is shown of lists of a store, slot by slot.
use Rattle.std.proofs.Common.{◌≡◌, ℕ, zero, suc, arith, Bool, true, false, eqb, List, [], ◌∷◌, ◌++◌, cond, Option, Some, None, refl, ap, sym, ◌∙◌, subst, inl, inr}
use Rattle.std.specs.Prelude.{IsSome, IfSome, slice_get, slice_index_or, ◌<◌}
use Rattle.std.proofs.lemmas.Bool.{cases_Bool, eq-eqb, eqb-true, false_from_ne_true, both_ways, cond-true}
use Rattle.std.proofs.lemmas.Option.{none-some}
use Rattle.cd_chain.specs.Cells.{is_in}
use Rattle.cd_chain.specs.Contents.{Contents, value_at, list_at, slots_of, after_in}
use Rattle.cd_chain.specs.Lists.{InList, gone_from, put_in}
use Rattle.cd_chain.specs.Calls.{PutsValue, AddsList}
use Rattle.cd_chain.proofs.Linking.{head_in, tail_in, still_in}

first_in : (xs : List ℕ) (s : ℕ) → slice_get xs 0 ≡ Some s → is_in s xs ≡ true
first_in [] s e = absurd (none-some s e)
first_in (x ∷ xs) s e = let same : s ≡ x = cc in rw (eq-eqb s x same) refl

listed : (o : Option (List ℕ)) (s : ℕ) → is_in s (slots_of o) ≡ true → InList o s
listed None s h = absurd (both_ways _ refl h)
listed (Some xs) s h = h

after_listed : (xs : List ℕ) (s t : ℕ) → after_in s xs ≡ Some t → is_in t xs ≡ true
after_listed [] s t e = absurd (none-some t e)
after_listed (x ∷ xs) s t e = elim (cases_Bool (eqb s x)) [
  | inl q ↦ tail_in t x xs (first_in xs t (rw q at e))
  | inr q ↦ tail_in t x xs (after_listed xs s t (rw q at e))
]

-- the first slot of a list stands in it
pub begins_row : (it : Contents ℕ) (lane list : ℕ) (o : Option ℕ) → o ≡ slice_get (slots_of (list_at it lane list)) 0 → IfSome o (λ s. IsSome (value_at it s)) → IfSome o (λ s. InList (list_at it lane list) s × IsSome (value_at it s))
begins_row it lane list None e u = tt
begins_row it lane list (Some s) e u = (listed (list_at it lane list) s (first_in (slots_of (list_at it lane list)) s (sym e)), u)

-- so does the one after a slot
pub goes_on : (it : Contents ℕ) (lane list s : ℕ) (o : Option ℕ) → o ≡ after_in s (slots_of (list_at it lane list)) → IfSome o (λ t. IsSome (value_at it t)) → IfSome o (λ t. InList (list_at it lane list) t × IsSome (value_at it t))
goes_on it lane list s None e u = tt
goes_on it lane list s (Some t) e u = (listed (list_at it lane list) t (after_listed (slots_of (list_at it lane list)) s t (sym e)), u)

-- a slot comes last
pub put_last : (k s : ℕ) (o : Option (List ℕ)) (xs : List ℕ) → o ≡ Some xs → put_in k s k o ≡ Some (xs ++ s ∷ [])
put_last k s o xs e = ap (put_in k s k) e ∙ rw (eq-eqb k k refl) refl

pub is_there : (o : Option (List ℕ)) (xs : List ℕ) → o ≡ Some xs → IsSome o
is_there o xs e = subst (λ (u : Option (List ℕ)). IsSome u) (sym e) refl

pub used_here : (old new : Contents ℕ) (slot value : ℕ) → PutsValue old new slot value → IsSome (value_at new slot)
used_here old new slot value V =
    let here : value_at new slot ≡ Some value = V.values slot ∙ cond-true (eqb slot slot) (Some value) (value_at old slot) (eq-eqb slot slot refl) in
    subst (λ (o : Option ℕ). IsSome o) (sym here) refl

pub used_still : (old new : Contents ℕ) (slot value s : ℕ) → PutsValue old new slot value → IsSome (value_at old s) → IsSome (value_at new s)
used_still old new slot value s V h = subst (λ (o : Option ℕ). IsSome o) (sym (V.values s)) (by (eqb s slot))
  where
    by : (b : Bool) → IsSome (cond b (Some value) (value_at old s))
    by true = refl
    by false = h

pub fresh_apart : (old new : Contents ℕ) (slot value s : ℕ) → PutsValue old new slot value → IsSome (value_at old s) → s ≡ slot → ⊥
fresh_apart old new slot value s V h e = both_ways _ refl (subst (λ (o : Option ℕ). IsSome o) (ap (value_at old) e ∙ V.fresh) h)

-- the second and the third of three slots stand in their list
pub second_in : (o : Option (List ℕ)) (x y z : ℕ) → o ≡ Some (x ∷ y ∷ z ∷ []) → InList o y
second_in o x y z e = subst (λ (u : Option (List ℕ)). InList u y) (sym e) (tail_in y x (y ∷ z ∷ []) (head_in y (z ∷ [])))

-- and the third one still once the second is gone
pub third_in : (o : Option (List ℕ)) (x y z : ℕ) → o ≡ gone_from y (Some (x ∷ y ∷ z ∷ [])) → (y ≡ z → ⊥) → InList o z
third_in o x y z e ne = subst (λ (u : Option (List ℕ)). InList u z) (sym e)
    (still_in y z (x ∷ y ∷ z ∷ []) (false_from_ne_true (eqb y z) (λ t. ne (eqb-true y z t))) (tail_in z x (y ∷ z ∷ []) (tail_in z y (z ∷ []) (head_in z []))))

-- a list that was added is there, and empty
pub added_here : (old new : Contents ℕ) (lane list : ℕ) → AddsList old new lane list → list_at new lane list ≡ Some []
added_here old new lane list A = A.lists lane list ∙ rw (eq-eqb lane lane refl, eq-eqb list list refl) refl

-- the lists of all lanes that a slot comes last in are there
pub row_there : (it : Contents ℕ) (first second third : ℕ) (a b d : List ℕ) → list_at it 0 first ≡ Some a → list_at it 1 second ≡ Some b → list_at it 2 third ≡ Some d →
    (l : ℕ) → l < 3 → IfSome (slice_index_or (Some first ∷ Some second ∷ Some third ∷ []) l None) (λ k. IsSome (list_at it l k))
row_there it first second third a b d ea eb ed zero lt = is_there (list_at it 0 first) a ea
row_there it first second third a b d ea eb ed (suc zero) lt = is_there (list_at it 1 second) b eb
row_there it first second third a b d ea eb ed (suc (suc zero)) lt = is_there (list_at it 2 third) d ed
row_there it first second third a b d ea eb ed (suc (suc (suc l))) lt = absurd (omega arith)
