-- How a chain changes when one of its slots goes, or one more comes last.
use Rattle.std.proofs.Common.{◌≡◌, ℕ, zero, suc, ◌<◌, ◌≤◌, true, false, eqb, List, [], ◌∷◌, ◌++◌, length, Option, Some, None, refl, ap, sym, ◌∙◌, subst, arith, ◌⊎◌, inl, inr}
use Rattle.std.proofs.lemmas.Bool.{cases_Bool, eqb-true, eq-eqb, or_parts, both_ways, true≢false, or_cases, or_left, false_from_ne_true}
use Rattle.std.proofs.lemmas.Map.Steps.{length-le_from_distinct_below}
use Rattle.std.specs.List.{IsDistinct, AllByRecursion}
use Rattle.std.proofs.lemmas.Option.{none-some}
use Rattle.cd_chain.specs.declared.link.Link.{Link}
use Rattle.cd_chain.specs.Cells.{is_in, AreDistinct, walk}
use Rattle.cd_chain.specs.Chains.{without, IsChain, walked_on, past, or_else}

pub past_other : (next : Option ℕ) (s t : ℕ) → eqb s t ≡ false → past next s (Some t) ≡ Some t
past_other next s t e = rw e refl

pub past_same : (next : Option ℕ) (s : ℕ) → past next s (Some s) ≡ next
past_same next s = rw (eq-eqb s s refl) refl

-- each of these slots is linked past s, and else as before
pub record LinkedPast (at at' : ℕ → Link) (s : ℕ) (slots : List ℕ) : Type 0 where
  pub list : (t : ℕ) → is_in t slots ≡ true → eqb s t ≡ false → (at' t).list ≡ (at t).list
  pub before : (t : ℕ) → is_in t slots ≡ true → eqb s t ≡ false → (at' t).before ≡ past (at s).before s (at t).before
  pub after : (t : ℕ) → is_in t slots ≡ true → eqb s t ≡ false → (at' t).after ≡ past (at s).after s (at t).after

pub head_in : (t : ℕ) (ss : List ℕ) → is_in t (t ∷ ss) ≡ true
head_in t ss = rw (eq-eqb t t refl) refl

pub tail_in : (u t : ℕ) (ss : List ℕ) → is_in u ss ≡ true → is_in u (t ∷ ss) ≡ true
tail_in u t ss h = elim (cases_Bool (eqb u t)) [
  | inl e ↦ rw e refl
  | inr e ↦ rw e h
]

tail_past : (at at' : ℕ → Link) (s t : ℕ) (ss : List ℕ) → LinkedPast at at' s (t ∷ ss) → LinkedPast at at' s ss
tail_past at at' s t ss P = record {
  list = λ u i e. P.list u (tail_in u t ss i) e;
  before = λ u i e. P.before u (tail_in u t ss i) e;
  after = λ u i e. P.after u (tail_in u t ss i) e;
}

-- slots that s is not among
pub rest : (at at' : ℕ → Link) (n k s : ℕ) (b : Option ℕ) (slots : List ℕ) (f l : Option ℕ) (b' f' l' : Option ℕ) → is_in s slots ≡ false → LinkedPast at at' s slots →
    b' ≡ past (at s).before s b → f' ≡ past (at s).after s f → l' ≡ past (at s).before s l → IsChain at n k b slots f l → IsChain at' n k b' slots f' l'
rest at at' n k s b [] f l b' f' l' out P eb ef el c = (ef ∙ ap (past (at s).after s) c.0, el ∙ ap (past (at s).before s) c.1 ∙ sym eb)
rest at at' n k s b (t ∷ ss) f l b' f' l' out P eb ef el c =
    let q = or_parts _ _ out in
    let h : is_in t (t ∷ ss) ≡ true = head_in t ss in (
      ef ∙ ap (past (at s).after s) c.0 ∙ past_other (at s).after s t q.0,
      c.1,
      P.list t h q.0 ∙ c.2,
      P.before t h q.0 ∙ ap (past (at s).before s) c.3 ∙ sym eb,
      rest at at' n k s (Some t) ss (at t).after l (Some t) (at' t).after l' q.1 (tail_past at at' s t ss P)
          (sym (past_other (at s).before s t q.0)) (P.after t h q.0) el c.4,
    )

-- what begins a chain that s is not in is not s
first_other : (at : ℕ → Link) (n k s : ℕ) (b : Option ℕ) (slots : List ℕ) (f l next : Option ℕ) → is_in s slots ≡ false → IsChain at n k b slots f l → past next s f ≡ f
first_other at n k s b [] f l next out c = ap (past next s) c.0 ∙ sym c.0
first_other at n k s b (t ∷ ss) f l next out c = ap (past next s) c.0 ∙ past_other next s t (or_parts _ _ out).0 ∙ sym c.0

pub without_none : (s : ℕ) (slots : List ℕ) → is_in s slots ≡ false → without s slots ≡ slots
without_none s [] out = refl
without_none s (t ∷ ss) out = let q = or_parts (eqb s t) (is_in s ss) out in rw q.0 (ap (λ (xs : List ℕ). t ∷ xs) (without_none s ss q.1))

gone_here : (at at' : ℕ → Link) (n k s : ℕ) (b : Option ℕ) (ss : List ℕ) (f l : Option ℕ) (b' f' l' : Option ℕ) → is_in s ss ≡ false → LinkedPast at at' s ss →
    b' ≡ b → f' ≡ past (at s).after s f → l' ≡ past (at s).before s l → IsChain at n k b (s ∷ ss) f l → IsChain at' n k b' ss f' l'
gone_here at at' n k s b ss f l b' f' l' out P eb ef el c = rest at at' n k s (Some s) ss (at s).after l b' f' l' out P
    (eb ∙ sym c.3 ∙ sym (past_same (at s).before s))
    (ef ∙ ap (past (at s).after s) c.0 ∙ past_same (at s).after s ∙ sym (first_other at n k s (Some s) ss (at s).after l (at s).after out c.4))
    el c.4

-- slots that s may be among
pub gone : (at at' : ℕ → Link) (n k s : ℕ) (b : Option ℕ) (slots : List ℕ) (f l : Option ℕ) (b' f' l' : Option ℕ) → AreDistinct slots → LinkedPast at at' s slots →
    past (at s).before s b ≡ b → b' ≡ b → f' ≡ past (at s).after s f → l' ≡ past (at s).before s l → IsChain at n k b slots f l → IsChain at' n k b' (without s slots) f' l'
gone at at' n k s b [] f l b' f' l' d P far eb ef el c = (ef ∙ ap (past (at s).after s) c.0, el ∙ ap (past (at s).before s) c.1 ∙ far ∙ sym eb)
gone at at' n k s b (t ∷ ss) f l b' f' l' d P far eb ef el c = elim (cases_Bool (eqb s t)) [
  | inl e ↦
      let same : t ≡ s = sym (eqb-true s t e) in
      let out : is_in s ss ≡ false = subst (λ (x : ℕ). is_in x ss ≡ false) same d.0 in
      rw e (subst (λ (xs : List ℕ). IsChain at' n k b' xs f' l') (sym (without_none s ss out))
      (gone_here at at' n k s b ss f l b' f' l' out (tail_past at at' s t ss P) eb ef el (subst (λ (x : ℕ). IsChain at n k b (x ∷ ss) f l) same c)))
  | inr e ↦ let h : is_in t (t ∷ ss) ≡ true = head_in t ss in rw e (
    ef ∙ ap (past (at s).after s) c.0 ∙ past_other (at s).after s t e,
    c.1,
    P.list t h e ∙ c.2,
    P.before t h e ∙ ap (past (at s).before s) c.3 ∙ far ∙ sym eb,
    gone at at' n k s (Some t) ss (at t).after l (Some t) (at' t).after l' d.1 (tail_past at at' s t ss P)
        (past_other (at s).before s t e) refl (P.after t h e) el c.4,
  )
]

-- each of these slots is linked as before, but that s comes after the last
pub record LinkedOn (at at' : ℕ → Link) (s : ℕ) (slots : List ℕ) : Type 0 where
  pub list : (t : ℕ) → is_in t slots ≡ true → (at' t).list ≡ (at t).list
  pub before : (t : ℕ) → is_in t slots ≡ true → (at' t).before ≡ (at t).before
  pub after : (t : ℕ) → is_in t slots ≡ true → (at' t).after ≡ or_else s (at t).after

tail_on : (at at' : ℕ → Link) (s t : ℕ) (ss : List ℕ) → LinkedOn at at' s (t ∷ ss) → LinkedOn at at' s ss
tail_on at at' s t ss P = record {
  list = λ u i. P.list u (tail_in u t ss i);
  before = λ u i. P.before u (tail_in u t ss i);
  after = λ u i. P.after u (tail_in u t ss i);
}

pub appended : (at at' : ℕ → Link) (n k s : ℕ) (b : Option ℕ) (slots : List ℕ) (f l f' : Option ℕ) → s < n → LinkedOn at at' s slots →
    (at' s).list ≡ Some k → (at' s).before ≡ l → (at' s).after ≡ None → f' ≡ or_else s f → IsChain at n k b slots f l → IsChain at' n k b (slots ++ s ∷ []) f' (Some s)
appended at at' n k s b [] f l f' lt P el eb ea ef c = (ef ∙ ap (or_else s) c.0, lt, el, eb ∙ c.1, (ea, refl))
appended at at' n k s b (t ∷ ss) f l f' lt P el eb ea ef c =
    let h : is_in t (t ∷ ss) ≡ true = head_in t ss in (
      ef ∙ ap (or_else s) c.0,
      c.1,
      P.list t h ∙ c.2,
      P.before t h ∙ c.3,
      appended at at' n k s (Some t) ss (at t).after l (at' t).after lt (tail_on at at' s t ss P) el eb ea (P.after t h) c.4,
    )

-- nothing that the chain reads has changed
pub stays : (at at' : ℕ → Link) (n n' k : ℕ) (b : Option ℕ) (slots : List ℕ) (f f' l : Option ℕ) → n ≤ n' → ((t : ℕ) → is_in t slots ≡ true → at' t ≡ at t) → f' ≡ f →
    IsChain at n k b slots f l → IsChain at' n' k b slots f' l
stays at at' n n' k b [] f f' l le h ef c = (ef ∙ c.0, c.1)
stays at at' n n' k b (t ∷ ss) f f' l le h ef c =
    let e : at' t ≡ at t = h t (head_in t ss) in (
      ef ∙ c.0,
      let lt : t < n = c.1 in omega arith,
      ap (λ (x : Link). x.list) e ∙ c.2,
      ap (λ (x : Link). x.before) e ∙ c.3,
      stays at at' n n' k (Some t) ss (at t).after (at' t).after l le (λ u i. h u (tail_in u t ss i)) (ap (λ (x : Link). x.after) e) c.4,
    )

pub walked : (at : ℕ → Link) (n k : ℕ) (b : Option ℕ) (slots : List ℕ) (f l : Option ℕ) (fuel : ℕ) → length slots ≤ fuel → IsChain at n k b slots f l → walked_on at fuel f ≡ slots
walked at n k b [] f l zero le c = refl
walked at n k b [] f l (suc fuel) le c = ap (walk (λ s. (at s).after) (suc fuel)) c.0
walked at n k b (t ∷ ss) f l zero le c = absurd (omega arith)
walked at n k b (t ∷ ss) f l (suc fuel) le c = ap (walk (λ s. (at s).after) (suc fuel)) c.0 ∙ ap (λ (xs : List ℕ). t ∷ xs) (walked at n k (Some t) ss (at t).after l fuel (omega arith) c.4)

-- what holds of each slot of a chain
pub record IsMember (at : ℕ → Link) (n k t : ℕ) : Type 0 where
  pub within : t < n
  pub list : (at t).list ≡ Some k

pub member : (at : ℕ → Link) (n k : ℕ) (b : Option ℕ) (slots : List ℕ) (f l : Option ℕ) (t : ℕ) → is_in t slots ≡ true → IsChain at n k b slots f l → IsMember at n k t
member at n k b [] f l t h c = absurd (both_ways _ refl h)
member at n k b (u ∷ ss) f l t h c = elim (cases_Bool (eqb t u)) [
  | inl e ↦ subst (λ (x : ℕ). IsMember at n k x) (sym (eqb-true t u e)) (record { within = c.1; list = c.2 })
  | inr e ↦ member at n k (Some u) ss (at u).after l t (rw e at h) c.4
]

-- what a slot is followed by is led by it
pub led : (at : ℕ → Link) (n k : ℕ) (b : Option ℕ) (slots : List ℕ) (f l : Option ℕ) (t u : ℕ) → is_in t slots ≡ true → (at t).after ≡ Some u → IsChain at n k b slots f l → (at u).before ≡ Some t
led at n k b [] f l t u h a c = absurd (both_ways _ refl h)
led at n k b (v ∷ []) f l t u h a c = elim (cases_Bool (eqb t v)) [
  | inl e ↦ absurd (none-some u (sym c.4.0 ∙ ap (λ (x : ℕ). (at x).after) (sym (eqb-true t v e)) ∙ a))
  | inr e ↦ absurd (both_ways _ refl (rw e at h))
]
led at n k b (v ∷ w ∷ ss) f l t u h a c = elim (cases_Bool (eqb t v)) [
  | inl e ↦
      let same : t ≡ v = eqb-true t v e in
      let next : Some w ≡ Some u = sym c.4.0 ∙ ap (λ (x : ℕ). (at x).after) (sym same) ∙ a in
      let w_u : w ≡ u = cc in
      subst (λ (x : ℕ). (at x).before ≡ Some t) w_u (c.4.3 ∙ ap (λ (x : ℕ). Some x) (sym same))
  | inr e ↦ led at n k (Some v) (w ∷ ss) (at v).after l t u (rw e at h) a c.4
]

pub led_in : (at : ℕ → Link) (n k : ℕ) (b : Option ℕ) (slots : List ℕ) (f l : Option ℕ) (t u : ℕ) → is_in t slots ≡ true → (at t).after ≡ Some u → IsChain at n k b slots f l → is_in u slots ≡ true
led_in at n k b [] f l t u h a c = absurd (both_ways _ refl h)
led_in at n k b (v ∷ []) f l t u h a c = elim (cases_Bool (eqb t v)) [
  | inl e ↦ absurd (none-some u (sym c.4.0 ∙ ap (λ (x : ℕ). (at x).after) (sym (eqb-true t v e)) ∙ a))
  | inr e ↦ absurd (both_ways _ refl (rw e at h))
]
led_in at n k b (v ∷ w ∷ ss) f l t u h a c = elim (cases_Bool (eqb t v)) [
  | inl e ↦
      let next : Some w ≡ Some u = sym c.4.0 ∙ ap (λ (x : ℕ). (at x).after) (sym (eqb-true t v e)) ∙ a in
      let w_u : w ≡ u = cc in
      subst (λ (x : ℕ). is_in x (v ∷ w ∷ ss) ≡ true) w_u (tail_in w v (w ∷ ss) (head_in w ss))
  | inr e ↦ tail_in u v (w ∷ ss) (led_in at n k (Some v) (w ∷ ss) (at v).after l t u (rw e at h) a c.4)
]

-- what a slot is led by is followed by it, or stands before the chain
pub followed : (at : ℕ → Link) (n k : ℕ) (b : Option ℕ) (slots : List ℕ) (f l : Option ℕ) (t u : ℕ) → is_in u slots ≡ true → (at u).before ≡ Some t → IsChain at n k b slots f l →
    ((b ≡ Some t) × (f ≡ Some u)) ⊎ (((at t).after ≡ Some u) × (is_in t slots ≡ true))
followed at n k b [] f l t u h a c = absurd (both_ways _ refl h)
followed at n k b (v ∷ ss) f l t u h a c = elim (cases_Bool (eqb u v)) [
  | inl e ↦ let same : u ≡ v = eqb-true u v e in inl (sym c.3 ∙ ap (λ (x : ℕ). (at x).before) (sym same) ∙ a, c.0 ∙ ap (λ (x : ℕ). Some x) (sym same))
  | inr e ↦ elim (followed at n k (Some v) ss (at v).after l t u (rw e at h) a c.4) [
    | inl p ↦ let q : Some v ≡ Some t = p.0 in let same : v ≡ t = cc in inr (subst (λ (x : ℕ). (at x).after ≡ Some u) same p.1, subst (λ (x : ℕ). is_in x (v ∷ ss) ≡ true) same (head_in v ss))
    | inr p ↦ inr (p.0, tail_in t v ss p.1)
  ]
]

not_led : (at : ℕ → Link) (n k v : ℕ) (slots : List ℕ) (f l : Option ℕ) (u : ℕ) → is_in u slots ≡ true → (at u).before ≡ None → IsChain at n k (Some v) slots f l → ⊥
not_led at n k v [] f l u h a c = both_ways _ refl h
not_led at n k v (w ∷ ss) f l u h a c = elim (cases_Bool (eqb u w)) [
  | inl e ↦ none-some v (sym a ∙ ap (λ (x : ℕ). (at x).before) (eqb-true u w e) ∙ c.3)
  | inr e ↦ not_led at n k w ss (at w).after l u (rw e at h) a c.4
]

-- what nothing leads is the first
pub is_first : (at : ℕ → Link) (n k : ℕ) (b : Option ℕ) (slots : List ℕ) (f l : Option ℕ) (u : ℕ) → is_in u slots ≡ true → (at u).before ≡ None → IsChain at n k b slots f l → f ≡ Some u
is_first at n k b [] f l u h a c = absurd (both_ways _ refl h)
is_first at n k b (v ∷ ss) f l u h a c = elim (cases_Bool (eqb u v)) [
  | inl e ↦ c.0 ∙ ap (λ (x : ℕ). Some x) (sym (eqb-true u v e))
  | inr e ↦ absurd (not_led at n k v ss (at v).after l u (rw e at h) a c.4)
]

-- the first is led by what stands before the chain
pub first_led : (at : ℕ → Link) (n k : ℕ) (b : Option ℕ) (slots : List ℕ) (f l : Option ℕ) (u : ℕ) → f ≡ Some u → IsChain at n k b slots f l → (at u).before ≡ b
first_led at n k b [] f l u e c = absurd (none-some u (sym c.0 ∙ e))
first_led at n k b (v ∷ ss) f l u e c = let q : Some v ≡ Some u = sym c.0 ∙ e in let same : v ≡ u = cc in subst (λ (x : ℕ). (at x).before ≡ b) same c.3

-- what nothing follows is the last
pub is_last : (at : ℕ → Link) (n k : ℕ) (b : Option ℕ) (slots : List ℕ) (f l : Option ℕ) (u : ℕ) → is_in u slots ≡ true → (at u).after ≡ None → IsChain at n k b slots f l → l ≡ Some u
is_last at n k b [] f l u h a c = absurd (both_ways _ refl h)
is_last at n k b (v ∷ []) f l u h a c = elim (cases_Bool (eqb u v)) [
  | inl e ↦ c.4.1 ∙ ap (λ (x : ℕ). Some x) (sym (eqb-true u v e))
  | inr e ↦ absurd (both_ways _ refl (rw e at h))
]
is_last at n k b (v ∷ w ∷ ss) f l u h a c = elim (cases_Bool (eqb u v)) [
  | inl e ↦ absurd (none-some w (sym a ∙ ap (λ (x : ℕ). (at x).after) (eqb-true u v e) ∙ c.4.0))
  | inr e ↦ is_last at n k (Some v) (w ∷ ss) (at v).after l u (rw e at h) a c.4
]

-- the last of a chain is in it, or nothing is and it stands before
pub last_in : (at : ℕ → Link) (n k : ℕ) (b : Option ℕ) (slots : List ℕ) (f l : Option ℕ) (u : ℕ) → l ≡ Some u → IsChain at n k b slots f l → (b ≡ Some u) ⊎ (is_in u slots ≡ true)
last_in at n k b [] f l u e c = inl (sym c.1 ∙ e)
last_in at n k b (v ∷ ss) f l u e c = elim (last_in at n k (Some v) ss (at v).after l u e c.4) [
  | inl p ↦ let same : v ≡ u = cc in inr (subst (λ (x : ℕ). is_in x (v ∷ ss) ≡ true) same (head_in v ss))
  | inr p ↦ inr (tail_in u v ss p)
]

-- nothing follows the last
pub last_ends : (at : ℕ → Link) (n k : ℕ) (b : Option ℕ) (slots : List ℕ) (f l : Option ℕ) (u : ℕ) → AreDistinct slots → is_in u slots ≡ true → l ≡ Some u → IsChain at n k b slots f l → (at u).after ≡ None
last_ends at n k b [] f l u d h e c = absurd (both_ways _ refl h)
last_ends at n k b (v ∷ []) f l u d h e c = elim (cases_Bool (eqb u v)) [
  | inl q ↦ ap (λ (x : ℕ). (at x).after) (eqb-true u v q) ∙ c.4.0
  | inr q ↦ absurd (both_ways _ refl (rw q at h))
]
last_ends at n k b (v ∷ w ∷ ss) f l u d h e c = elim (cases_Bool (eqb u v)) [
  | inl q ↦
      let same : u ≡ v = eqb-true u v q in
      absurd (both_ways _ d.0 (elim (last_in at n k (Some w) ss (at w).after l v (e ∙ ap (λ (x : ℕ). Some x) same) c.4.4) [
        | inl p ↦ let w_v : w ≡ v = cc in subst (λ (x : ℕ). is_in x (w ∷ ss) ≡ true) w_v (head_in w ss)
        | inr p ↦ tail_in v w ss p
      ]))
  | inr q ↦ last_ends at n k (Some v) (w ∷ ss) (at v).after l u d.1 (rw q at h) e c.4
]

-- a chain of distinct slots below n is no longer than n
none_equal : (s : ℕ) (ss : List ℕ) → is_in s ss ≡ false → AllByRecursion (λ (y : ℕ). eqb s y ≡ false) ss
none_equal s [] e = tt
none_equal s (t ∷ ss) e = let q = or_parts (eqb s t) (is_in s ss) e in (q.0, none_equal s ss q.1)

pub distinct : (slots : List ℕ) → AreDistinct slots → IsDistinct eqb slots
unfolding IsDistinct
distinct [] d = tt
distinct (s ∷ ss) d = (none_equal s ss d.0, distinct ss d.1)

pub short : (at : ℕ → Link) (n k : ℕ) (b : Option ℕ) (slots : List ℕ) (f l : Option ℕ) → AreDistinct slots → IsChain at n k b slots f l → length slots ≤ n
short at n k b slots f l d c = length-le_from_distinct_below slots n (distinct slots d) (λ q h. (member at n k b slots f l q h c).within)

-- what is in a list without s
pub in_without : (s t : ℕ) (slots : List ℕ) → is_in t (without s slots) ≡ true → is_in t slots ≡ true
in_without s t [] h = h
in_without s t (u ∷ ss) h = elim (cases_Bool (eqb s u)) [
  | inl e ↦ tail_in t u ss (in_without s t ss (rw e at h))
  | inr e ↦ elim (or_cases (eqb t u) (is_in t (without s ss)) (rw e at h)) [
    | inl q ↦ or_left (eqb t u) (is_in t ss) q
    | inr q ↦ tail_in t u ss (in_without s t ss q)
  ]
]

pub still_in : (s t : ℕ) (slots : List ℕ) → eqb s t ≡ false → is_in t slots ≡ true → is_in t (without s slots) ≡ true
still_in s t [] ne h = h
still_in s t (u ∷ ss) ne h = elim (cases_Bool (eqb s u)) [
  | inl e ↦ rw e (elim (or_cases (eqb t u) (is_in t ss) h) [
    | inl q ↦ absurd (both_ways _ ne (eq-eqb s t (eqb-true s u e ∙ sym (eqb-true t u q))))
    | inr q ↦ still_in s t ss ne q
  ])
  | inr e ↦ rw e (elim (or_cases (eqb t u) (is_in t ss) h) [
    | inl q ↦ or_left (eqb t u) (is_in t (without s ss)) q
    | inr q ↦ tail_in t u (without s ss) (still_in s t ss ne q)
  ])
]

pub distinct_without : (s : ℕ) (slots : List ℕ) → AreDistinct slots → AreDistinct (without s slots)
distinct_without s [] d = tt
distinct_without s (t ∷ ss) d = elim (cases_Bool (eqb s t)) [
  | inl e ↦ rw e (distinct_without s ss d.1)
  | inr e ↦ rw e (false_from_ne_true _ (λ h. both_ways _ d.0 (in_without s t ss h)), distinct_without s ss d.1)
]

pub in_push : (s t : ℕ) (slots : List ℕ) → is_in t (slots ++ s ∷ []) ≡ true → (is_in t slots ≡ true) ⊎ (t ≡ s)
in_push s t [] h = elim (or_cases (eqb t s) false h) [
  | inl q ↦ inr (eqb-true t s q)
  | inr q ↦ absurd (true≢false (sym q))
]
in_push s t (u ∷ ss) h = elim (or_cases (eqb t u) (is_in t (ss ++ s ∷ [])) h) [
  | inl q ↦ inl (or_left (eqb t u) (is_in t ss) q)
  | inr q ↦ elim (in_push s t ss q) [
    | inl p ↦ inl (tail_in t u ss p)
    | inr p ↦ inr p
  ]
]

pub distinct_push : (s : ℕ) (slots : List ℕ) → AreDistinct slots → is_in s slots ≡ false → AreDistinct (slots ++ s ∷ [])
distinct_push s [] d out = (refl, tt)
distinct_push s (t ∷ ss) d out =
    let q = or_parts (eqb s t) (is_in s ss) out in (
      false_from_ne_true _ (λ h. elim (in_push s t ss h) [
        | inl p ↦ both_ways _ d.0 p
        | inr p ↦ both_ways _ q.0 (eq-eqb s t (sym p))
      ]),
      distinct_push s ss d.1 q.1,
    )
