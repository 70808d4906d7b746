-- Lists by key, as a list or a slot comes or goes.
use Rattle.std.proofs.Common.{◌≡◌, ℕ, Bool, true, false, eqb, List, [], ◌∷◌, ◌++◌, cond, filter, Option, Some, None, refl, ap, sym, ◌∙◌, subst, inl, inr}
use Rattle.std.specs.Prelude.{IsSome}
use Rattle.std.specs.Cmp.{IsEquivalence}
use Rattle.std.proofs.lemmas.Bool.{cases_Bool, eqb-true, eq-eqb, both_ways, true≢false, false_from_ne_true, cond-true, cond-false}
use Rattle.std.proofs.lemmas.Option.{none-some}
use Rattle.std.proofs.lemmas.List.{append-nil}
use Rattle.cd_chain.specs.Cells.{is_in}
use Rattle.cd_chain.specs.Chains.{without}
use Rattle.cd_chain.specs.Lists.{gone_from, put_in}
use Rattle.cd_chain.proofs.Linking.{in_without, in_push}
use Rattle.cd_window.specs.ByKey.{AreByKey}
use Rattle.cd_window.proofs.Sublists.{filter_same, filter_none, in_filter, filter_without, not_in_without, filter_push}

-- what a slot has is one key, and equal keys have one number
pub record AreKeys {K : Type 0} (number : K → Option ℕ) (has : K → ℕ → Bool) (eq : K → K → Bool) : Type 0 where
  pub laws : IsEquivalence eq
  pub numbers : (k l : K) → eq k l ≡ true → number k ≡ number l
  pub alike : (k l : K) (s : ℕ) → eq k l ≡ true → has k s ≡ has l s
  pub one : (k l : K) (s : ℕ) → has k s ≡ true → has l s ≡ true → eq k l ≡ true

pub not_none : {A : Type 0} (o : Option A) → o ≡ None → IsSome o → ⊥
not_none None e h = both_ways _ refl h
not_none (Some x) e h = none-some x (sym e)

pub some_is : {A : Type 0} (o : Option A) → IsSome o → (x : A) × (o ≡ Some x)
some_is None h = absurd (both_ways _ refl h)
some_is (Some x) h = (x, refl)

is_number : (o : Option ℕ) (x : ℕ) → o ≡ Some x → IsSome o
is_number o x e = subst (λ (u : Option ℕ). IsSome u) (sym e) refl

module _ {K : Type 0} (number : K → Option ℕ) (list : ℕ → Option (List ℕ)) (has : K → ℕ → Bool) (eq : K → K → Bool) (slots : List ℕ) where
  -- the same under other names
  pub same_index : (number' : K → Option ℕ) (list' : ℕ → Option (List ℕ)) (has' : K → ℕ → Bool) → ((k : K) → number' k ≡ number k) → ((j : ℕ) → list' j ≡ list j) → ((k : K) (s : ℕ) → has' k s ≡ has k s) → AreByKey number list has eq slots → AreByKey number' list' has' eq slots
  same_index number' list' has' en el eh A = record {
    lists = λ k j e. el j ∙ A.lists k j (sym (en k) ∙ e) ∙ ap (λ (xs : List ℕ). Some xs) (filter_same (has k) (has' k) slots (λ s i. sym (eh k s)));
    known = λ k s i h. subst (λ (o : Option ℕ). IsSome o) (sym (en k)) (A.known k s i (sym (eh k s) ∙ h));
    apart = λ k l j e f. A.apart k l j (sym (en k) ∙ e) (sym (en l) ∙ f);
    named = λ j h.
        let n = A.named j (subst (λ (o : Option (List ℕ)). IsSome o) (el j) h) in
        (n.0, en n.0 ∙ n.1);
  }

  -- no slot has a key without a number
  pub none_has : (k : K) → number k ≡ None → AreByKey number list has eq slots → filter (has k) slots ≡ []
  none_has k e A = filter_none (has k) slots (λ s i. false_from_ne_true (has k s) (λ h. not_none (number k) e (A.known k s i h)))

  -- a key that had no number has one, under which an empty list is there
  pub index_more : (key : K) (n : ℕ) (number' : K → Option ℕ) (list' : ℕ → Option (List ℕ)) → AreKeys number has eq → number key ≡ None → list n ≡ None → ((k : K) → number' k ≡ cond (eq key k) (Some n) (number k)) → ((j : ℕ) → list' j ≡ cond (eqb j n) (Some []) (list j)) →
      AreByKey number list has eq slots → AreByKey number' list' has eq slots
  index_more key n number' list' Q e0 l0 en el A = record {
    lists = λ k j e. elim (cases_Bool (eq key k)) [
      | inl q ↦
          let a : Some n ≡ Some j = sym (yes k q) ∙ e in
          let same : n ≡ j = cc in
          let none : filter (has k) slots ≡ [] = none_has k (sym (Q.numbers key k q) ∙ e0) A in
          here j (eq-eqb j n (sym same)) ∙ ap (λ (xs : List ℕ). Some xs) (sym none)
      | inr q ↦
          let a : number k ≡ Some j = sym (other k q) ∙ e in
          let b = A.lists k j a in
          let ne : eqb j n ≡ false = false_from_ne_true (eqb j n) (λ t. none-some _ (sym l0 ∙ ap list (sym (eqb-true j n t)) ∙ b)) in
          there j ne ∙ b
    ];
    known = λ k s i h. elim (cases_Bool (eq key k)) [
      | inl q ↦ is_number (number' k) n (yes k q)
      | inr q ↦ subst (λ (o : Option ℕ). IsSome o) (sym (other k q)) (A.known k s i h)
    ];
    apart = λ k l j e f. elim (cases_Bool (eq key k)) [
      | inl q ↦ elim (cases_Bool (eq key l)) [
        | inl r ↦ sym (Q.laws.congr key k l q) ∙ r
        | inr r ↦
            let a : Some n ≡ Some j = sym (yes k q) ∙ e in
            let same : n ≡ j = cc in
            let b : number l ≡ Some j = sym (other l r) ∙ f in
            absurd (none-some _ (sym l0 ∙ ap list same ∙ A.lists l j b))
      ]
      | inr q ↦ elim (cases_Bool (eq key l)) [
        | inl r ↦
            let a : Some n ≡ Some j = sym (yes l r) ∙ f in
            let same : n ≡ j = cc in
            let b : number k ≡ Some j = sym (other k q) ∙ e in
            absurd (none-some _ (sym l0 ∙ ap list same ∙ A.lists k j b))
        | inr r ↦ A.apart k l j (sym (other k q) ∙ e) (sym (other l r) ∙ f)
      ]
    ];
    named = λ j h. elim (cases_Bool (eqb j n)) [
      | inl q ↦ (key, yes key (Q.laws.refl key) ∙ ap (λ (x : ℕ). Some x) (sym (eqb-true j n q)))
      | inr q ↦
          let old = A.named j (subst (λ (o : Option (List ℕ)). IsSome o) (there j q) h) in
          let ne : eq key old.0 ≡ false = false_from_ne_true (eq key old.0) (λ t. none-some j (sym e0 ∙ Q.numbers key old.0 t ∙ old.1)) in
          (old.0, other old.0 ne ∙ old.1)
    ];
  }
    where
      yes : (k : K) → eq key k ≡ true → number' k ≡ Some n
      yes k q = en k ∙ cond-true (eq key k) (Some n) (number k) q

      other : (k : K) → eq key k ≡ false → number' k ≡ number k
      other k q = en k ∙ cond-false (eq key k) (Some n) (number k) q

      here : (j : ℕ) → eqb j n ≡ true → list' j ≡ Some []
      here j q = el j ∙ cond-true (eqb j n) (Some []) (list j) q

      there : (j : ℕ) → eqb j n ≡ false → list' j ≡ list j
      there j q = el j ∙ cond-false (eqb j n) (Some []) (list j) q

  -- a key whose list is empty has no number any more
  pub index_less : (key : K) (n : ℕ) (number' : K → Option ℕ) (list' : ℕ → Option (List ℕ)) → AreKeys number has eq → number key ≡ Some n → list n ≡ Some [] → ((k : K) → number' k ≡ cond (eq key k) None (number k)) → ((j : ℕ) → list' j ≡ cond (eqb j n) None (list j)) →
      AreByKey number list has eq slots → AreByKey number' list' has eq slots
  index_less key n number' list' Q e0 l0 en el A = record {
    lists = λ k j e.
        let ne = apart k j e in
        let a : number k ≡ Some j = sym (other k ne) ∙ e in
        let far : eqb j n ≡ false = false_from_ne_true (eqb j n) (λ t. true≢false (sym (A.apart key k j (e0 ∙ ap (λ (x : ℕ). Some x) (sym (eqb-true j n t))) a) ∙ ne)) in
        there j far ∙ A.lists k j a;
    known = λ k s i h. elim (cases_Bool (eq key k)) [
      | inl q ↦
          let f : has key s ≡ true = Q.alike key k s q ∙ h in
          let in_list : is_in s (filter (has key) slots) ≡ true = in_filter (has key) slots s i f in
          let both : Some [] ≡ Some (filter (has key) slots) = sym l0 ∙ A.lists key n e0 in
          let none : [] ≡ filter (has key) slots = cc in
          absurd (true≢false (sym in_list ∙ ap (is_in s) (sym none)))
      | inr q ↦ subst (λ (o : Option ℕ). IsSome o) (sym (other k q)) (A.known k s i h)
    ];
    apart = λ k l j e f. A.apart k l j (sym (other k (apart k j e)) ∙ e) (sym (other l (apart l j f)) ∙ f);
    named = λ j h. elim (cases_Bool (eqb j n)) [
      | inl q ↦ absurd (not_none (list' j) (el j ∙ cond-true (eqb j n) None (list j) q) h)
      | inr q ↦
          let old = A.named j (subst (λ (o : Option (List ℕ)). IsSome o) (there j q) h) in
          let ne : eq key old.0 ≡ false = false_from_ne_true (eq key old.0) (λ t.
          let both : Some n ≡ Some j = sym e0 ∙ Q.numbers key old.0 t ∙ old.1 in
          let same : n ≡ j = cc in
          true≢false (sym (eq-eqb j n (sym same)) ∙ q)) in
          (old.0, other old.0 ne ∙ old.1)
    ];
  }
    where
      other : (k : K) → eq key k ≡ false → number' k ≡ number k
      other k q = en k ∙ cond-false (eq key k) None (number k) q

      there : (j : ℕ) → eqb j n ≡ false → list' j ≡ list j
      there j q = el j ∙ cond-false (eqb j n) None (list j) q

      apart : (k : K) (j : ℕ) → number' k ≡ Some j → eq key k ≡ false
      apart k j e = false_from_ne_true (eq key k) (λ t. none-some j (sym (en k ∙ cond-true (eq key k) None (number k) t) ∙ e))

  -- a slot is gone
  pub index_without : (s : ℕ) (list' : ℕ → Option (List ℕ)) (has' : K → ℕ → Bool) → ((j : ℕ) → list' j ≡ gone_from s (list j)) → ((k : K) (t : ℕ) → eqb s t ≡ false → has' k t ≡ has k t) →
      AreByKey number list has eq slots → AreByKey number list' has' eq (without s slots)
  index_without s list' has' el eh A = record {
    lists = λ k j e. el j ∙ ap (gone_from s) (A.lists k j e) ∙ ap (λ (xs : List ℕ). Some xs) (sym (filter_without (has k) (has' k) s slots (eh k)));
    known = λ k t i h. A.known k t (in_without s t slots i) (sym (eh k t (not_in_without s t slots i)) ∙ h);
    apart = A.apart;
    named = λ j h. A.named j (there (list j) (subst (λ (o : Option (List ℕ)). IsSome o) (el j) h));
  }
    where
      there : (o : Option (List ℕ)) → IsSome (gone_from s o) → IsSome o
      there None h = h
      there (Some xs) h = refl

  -- a slot comes last, under a key that has a number
  pub index_with : (s n : ℕ) (key : K) (list' : ℕ → Option (List ℕ)) (has' : K → ℕ → Bool) → AreKeys number has eq → is_in s slots ≡ false → number key ≡ Some n → ((j : ℕ) → list' j ≡ put_in n s j (list j)) →
      ((k : K) (t : ℕ) → eqb t s ≡ false → has' k t ≡ has k t) → ((k : K) → has' k s ≡ eq k key) →
      AreByKey number list has eq slots → AreByKey number list' has' eq (slots ++ s ∷ [])
  index_with s n key list' has' Q out e0 el eh es A = record {
    lists = λ k j e. el j ∙ ap (put_in n s j) (A.lists k j e) ∙ ap (λ (xs : List ℕ). Some xs) (placed k j e ∙ sym (filter_push (has k) (has' k) s slots (λ t i. eh k t (far t i))));
    known = λ k t i h. elim (in_push s t slots i) [
      | inl j ↦ A.known k t j (sym (eh k t (far t j)) ∙ h)
      | inr q ↦
          let g : eq k key ≡ true = sym (es k) ∙ ap (has' k) (sym q) ∙ h in
          is_number (number k) n (Q.numbers k key g ∙ e0)
    ];
    apart = A.apart;
    named = λ j h. A.named j (there j (list j) (subst (λ (o : Option (List ℕ)). IsSome o) (el j) h));
  }
    where
      there : (j : ℕ) (o : Option (List ℕ)) → IsSome (put_in n s j o) → IsSome o
      there j None h = h
      there j (Some xs) h = refl

      far : (t : ℕ) → is_in t slots ≡ true → eqb t s ≡ false
      far t i = false_from_ne_true (eqb t s) (λ q. true≢false (sym i ∙ ap (λ (x : ℕ). is_in x slots) (eqb-true t s q) ∙ out))

      placed : (k : K) (j : ℕ) → number k ≡ Some j → cond (eqb j n) (filter (has k) slots ++ s ∷ []) (filter (has k) slots) ≡ filter (has k) slots ++ cond (has' k s) (s ∷ []) []
      placed k j e = elim (cases_Bool (eq k key)) [
        | inl q ↦
            let both : Some j ≡ Some n = sym e ∙ Q.numbers k key q ∙ e0 in
            let same : j ≡ n = cc in
            rw (eq-eqb j n same, es k, q) refl
        | inr q ↦
            let ne : eqb j n ≡ false = false_from_ne_true (eqb j n) (λ t. true≢false (sym (A.apart k key j e (e0 ∙ ap (λ (x : ℕ). Some x) (sym (eqb-true j n t)))) ∙ q)) in
            rw (ne, es k, q) (sym (append-nil (filter (has k) slots)))
      ]
