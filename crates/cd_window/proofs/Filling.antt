-- Which lists of keys may be empty, as a list or a slot comes or goes, and how many lists there are at most.
use Rattle.std.proofs.Common.{◌≡◌, ℕ, suc, ◌≤◌, ◌+◌, Bool, true, false, eqb, List, [], ◌∷◌, ◌++◌, length, get_or, cond, filter, Option, Some, None, refl, ap, sym, ◌∙◌, subst, arith, inl, inr}
use Rattle.std.specs.Prelude.{IsSome, is_some}
use Rattle.std.specs.List.{count_by}
use Rattle.std.proofs.lemmas.Bool.{cases_Bool, eqb-true, eq-eqb, true≢false, false_from_ne_true, cond-true, cond-false}
use Rattle.std.proofs.lemmas.Option.{none-some}
use Rattle.std.proofs.lemmas.List.{length_push}
use Rattle.std.proofs.lemmas.List.Sums.{sum_by-cons}
use Rattle.cd_chain.specs.Cells.{is_in, AreDistinct}
use Rattle.cd_chain.specs.Chains.{without}
use Rattle.cd_chain.specs.Lists.{gone_from, put_in, InList}
use Rattle.cd_chain.proofs.Linking.{head_in, without_none, still_in, distinct_without}
use Rattle.cd_window.specs.ByKey.{AreByKey, AreFilled}
use Rattle.cd_window.proofs.Sublists.{was_in, length_without}
use Rattle.cd_window.proofs.Indexing.{AreKeys}

nil_push : (xs : List ℕ) (s : ℕ) → xs ++ s ∷ [] ≡ [] → ⊥
nil_push xs s e =
    let l : length (xs ++ s ∷ []) ≡ 0 = ap length e in
    let m = length_push xs s in
    omega arith

module _ {K : Type 0} (number : K → Option ℕ) (list : ℕ → Option (List ℕ)) where
  -- the same under other names
  pub same_filled : (but : K → Bool) (number' : K → Option ℕ) (list' : ℕ → Option (List ℕ)) → ((k : K) → number' k ≡ number k) → ((j : ℕ) → list' j ≡ list j) → AreFilled number list but → AreFilled number' list' but
  same_filled but number' list' en el F = record { each = λ k j e b empty. F.each k j (sym (en k) ∙ e) b (sym (el j) ∙ empty) }

  -- fewer keys are asked for
  pub fewer_filled : (but but' : K → Bool) → ((k : K) → but' k ≡ false → but k ≡ false) → AreFilled number list but → AreFilled number list but'
  fewer_filled but but' h F = record { each = λ k j e b. F.each k j e (h k b) }

module _ {K : Type 0} (number : K → Option ℕ) (list : ℕ → Option (List ℕ)) (has : K → ℕ → Bool) (eq : K → K → Bool) (Q : AreKeys number has eq) where
  -- when a slot goes, the list of its key alone may be empty
  pub filled_without : (slots : List ℕ) (s : ℕ) (key : K) (list' : ℕ → Option (List ℕ)) → AreByKey number list has eq slots → has key s ≡ true → ((j : ℕ) → list' j ≡ gone_from s (list j)) → AreFilled number list (λ k. false) → AreFilled number list' (λ k. eq key k)
  filled_without slots s key list' A hs el F = record {
    each = λ k j e ne empty.
        let xs : List ℕ = filter (has k) slots in
        let was : list j ≡ Some xs = A.lists k j e in
        let out : is_in s xs ≡ false = false_from_ne_true (is_in s xs) (λ i. true≢false (sym (Q.one key k s hs (was_in (has k) slots s i).1) ∙ ne)) in
        let now : list' j ≡ Some xs = el j ∙ ap (gone_from s) was ∙ ap (λ (ys : List ℕ). Some ys) (without_none s xs out) in
        F.each k j e refl (was ∙ sym now ∙ empty);
  }

  -- when a slot comes, the list of its key is not empty
  pub filled_with : (slots : List ℕ) (s n : ℕ) (key : K) (list' : ℕ → Option (List ℕ)) → AreByKey number list has eq slots → number key ≡ Some n → ((j : ℕ) → list' j ≡ put_in n s j (list j)) → AreFilled number list (λ k. eq key k) → AreFilled number list' (λ k. false)
  filled_with slots s n key list' A e0 el F = record {
    each = λ k j e b empty.
        let xs : List ℕ = filter (has k) slots in
        let was : list j ≡ Some xs = A.lists k j e in
        let now : list' j ≡ Some (cond (eqb j n) (xs ++ s ∷ []) xs) = el j ∙ ap (put_in n s j) was in
        let both : Some (cond (eqb j n) (xs ++ s ∷ []) xs) ≡ Some [] = sym now ∙ empty in
        let nil : cond (eqb j n) (xs ++ s ∷ []) xs ≡ [] = cc in
        elim (cases_Bool (eqb j n)) [
          | inl q ↦ nil_push xs s (rw q at nil)
          | inr q ↦
              let ne : eq key k ≡ false = false_from_ne_true (eq key k) (λ t.
              let same : Some n ≡ Some j = sym e0 ∙ Q.numbers key k t ∙ e in
              let nj : n ≡ j = cc in
              true≢false (sym (eq-eqb j n (sym nj)) ∙ q)) in
              let none : xs ≡ [] = rw q at nil in
              F.each k j e ne (was ∙ ap (λ (ys : List ℕ). Some ys) none)
        ];
  }

  -- when the list of a key is taken away, no list is empty
  pub filled_less : (n : ℕ) (key : K) (number' : K → Option ℕ) (list' : ℕ → Option (List ℕ)) → ((k : K) → number' k ≡ cond (eq key k) None (number k)) → ((j : ℕ) → list' j ≡ cond (eqb j n) None (list j)) → AreFilled number list (λ k. eq key k) → AreFilled number' list' (λ k. false)
  filled_less n key number' list' en el F = record {
    each = λ k j e b empty.
        let ne : eq key k ≡ false = false_from_ne_true (eq key k) (λ t. none-some j (sym (en k ∙ cond-true (eq key k) None (number k) t) ∙ e)) in
        let a : number k ≡ Some j = sym (en k ∙ cond-false (eq key k) None (number k) ne) ∙ e in
        elim (cases_Bool (eqb j n)) [
          | inl q ↦ none-some _ (sym (el j ∙ cond-true (eqb j n) None (list j) q) ∙ empty)
          | inr q ↦ F.each k j a ne (sym (el j ∙ cond-false (eqb j n) None (list j) q) ∙ empty)
        ];
  }

  -- where a key has no list, none is empty
  pub filled_absent : (key : K) → number key ≡ None → AreFilled number list (λ k. eq key k) → AreFilled number list (λ k. false)
  filled_absent key e0 F = record {
    each = λ k j e b empty. elim (cases_Bool (eq key k)) [
      | inl q ↦ none-some j (sym e0 ∙ Q.numbers key k q ∙ e)
      | inr q ↦ F.each k j e q empty
    ];
  }

  -- when a key gets a list, that one alone may be empty
  pub filled_more : (slots : List ℕ) (n : ℕ) (key : K) (number' : K → Option ℕ) (list' : ℕ → Option (List ℕ)) → AreByKey number list has eq slots → list n ≡ None → ((k : K) → number' k ≡ cond (eq key k) (Some n) (number k)) → ((j : ℕ) → list' j ≡ cond (eqb j n) (Some []) (list j)) → AreFilled number list (λ k. false) → AreFilled number' list' (λ k. eq key k)
  filled_more slots n key number' list' A l0 en el F = record {
    each = λ k j e ne empty.
        let a : number k ≡ Some j = sym (en k ∙ cond-false (eq key k) (Some n) (number k) ne) ∙ e in
        elim (cases_Bool (eqb j n)) [
          | inl q ↦ none-some _ (sym l0 ∙ ap list (sym (eqb-true j n q)) ∙ A.lists k j a)
          | inr q ↦ F.each k j a refl (sym (el j ∙ cond-false (eqb j n) (Some []) (list j) q) ∙ empty)
        ];
  }

-- lists that have a slot each, and none in common, are no more than these slots
pub count_lists : (lists : List (Option (List ℕ))) (slots : List ℕ) → AreDistinct slots → ((j : ℕ) → IsSome (get_or lists j None) → (s : ℕ) × (is_in s slots ≡ true) × InList (get_or lists j None) s) →
    ((i j s : ℕ) → InList (get_or lists i None) s → InList (get_or lists j None) s → i ≡ j) → count_by (λ (o : Option (List ℕ)). is_some o) lists ≤ length slots
count_lists [] slots d some apart = let z : count_by (λ (o : Option (List ℕ)). is_some o) [] ≡ 0 = refl in omega arith
count_lists (None ∷ ls) slots d some apart =
    let a = count_lists ls slots d (λ j h. some (suc j) h) (λ i j s x y. let e = apart (suc i) (suc j) s x y in omega arith) in
    let q : count_by (λ (o : Option (List ℕ)). is_some o) (None ∷ ls) ≡ 0 + count_by (λ (o : Option (List ℕ)). is_some o) ls = sum_by-cons (λ (o : Option (List ℕ)). cond (is_some o) 1 0) None ls in
    omega arith
count_lists (Some xs ∷ ls) slots d some apart =
    let f = some 0 refl in
    let s0 : ℕ = f.0 in
    let rest : List ℕ = without s0 slots in
    let long = length_without s0 slots d f.1 in
    let a = count_lists ls rest (distinct_without s0 slots d)
    (λ j h.
    let g = some (suc j) h in
    let ne : eqb s0 g.0 ≡ false = false_from_ne_true (eqb s0 g.0) (λ t.
    let same : s0 ≡ g.0 = eqb-true s0 g.0 t in
    let e : 0 ≡ suc j = apart 0 (suc j) s0 f.2 (subst (InList (get_or ls j None)) (sym same) g.2) in
    omega arith) in
    (g.0, still_in s0 g.0 slots ne g.1, g.2))
    (λ i j s x y. let e = apart (suc i) (suc j) s x y in omega arith) in
    let q : count_by (λ (o : Option (List ℕ)). is_some o) (Some xs ∷ ls) ≡ 1 + count_by (λ (o : Option (List ℕ)). is_some o) ls = sum_by-cons (λ (o : Option (List ℕ)). cond (is_some o) 1 0) (Some xs) ls in
    omega arith

first_of_some : (xs : List ℕ) → (xs ≡ [] → ⊥) → (s : ℕ) × (is_in s xs ≡ true)
first_of_some [] h = absurd (h refl)
first_of_some (x ∷ xs) h = (x, head_in x xs)

-- lists by key, none of them empty, are no more than their slots
pub few_lists : {K : Type 0} (number : K → Option ℕ) (lists : List (Option (List ℕ))) (has : K → ℕ → Bool) (eq : K → K → Bool) (slots : List ℕ) → AreKeys number has eq → AreDistinct slots → AreByKey number (λ j. get_or lists j None) has eq slots → AreFilled number (λ j. get_or lists j None) (λ k. false) →
    count_by (λ (o : Option (List ℕ)). is_some o) lists ≤ length slots
few_lists {K} number lists has eq slots Q d A F = count_lists lists slots d
    (λ j h.
    let n = A.named j h in
    let was = A.lists n.0 j n.1 in
    let s = first_of_some (filter (has n.0) slots) (λ e. F.each n.0 j n.1 refl (was ∙ ap (λ (ys : List ℕ). Some ys) e)) in
    (s.0, (was_in (has n.0) slots s.0 s.1).0, subst (λ (o : Option (List ℕ)). InList o s.0) (sym was) s.1))
    (λ i j s x y.
    let n = A.named i (is_there (get_or lists i None) s x) in
    let m = A.named j (is_there (get_or lists j None) s y) in
    let u : is_in s (filter (has n.0) slots) ≡ true = subst (λ (o : Option (List ℕ)). InList o s) (A.lists n.0 i n.1) x in
    let v : is_in s (filter (has m.0) slots) ≡ true = subst (λ (o : Option (List ℕ)). InList o s) (A.lists m.0 j m.1) y in
    let same = Q.one n.0 m.0 s (was_in (has n.0) slots s u).1 (was_in (has m.0) slots s v).1 in
    let both : Some i ≡ Some j = sym n.1 ∙ Q.numbers n.0 m.0 same ∙ m.1 in
    cc)
  where
    is_there : (o : Option (List ℕ)) (s : ℕ) → InList o s → IsSome o
    is_there None s h = absurd h
    is_there (Some xs) s h = refl
