-- What is picked of the events that are held, as events come and go.
use Rattle.std.proofs.Common.{◌≡◌, ℕ, zero, suc, ◌+◌, ◌<◌, ◌≤◌, Bool, true, false, not, ◌&&◌, eqb, List, [], ◌∷◌, ◌++◌, length, drop, set, get_or, cond, filter, Option, Some, None, refl, ap, sym, ◌∙◌, arith, inl, inr}
use Rattle.std.specs.Prelude.{is_some, slice_get}
use Rattle.std.specs.List.{count_by}
use Rattle.std.proofs.lemmas.Bool.{cases_Bool, eq-eqb, ne_eqb}
use Rattle.std.proofs.lemmas.Option.{none-some}
use Rattle.std.proofs.lemmas.List.Sums.{sum_by-cons}
use Rattle.cd_pairing.specs.Events.{EventView}
use Rattle.cd_window.specs.declared.held.Held.{Held}
use Rattle.cd_window.specs.Keeping.{StampsRise}
use Rattle.cd_window.specs.Waiting.{Waits, waits_at, waits_from, RisesTo, AreRising, AllBefore, NoneBefore}
use Rattle.cd_window.proofs.Closing.{top}
use Rattle.cd_window.proofs.Conjunctions.{and_other, and_same}

same_some : {E : Type 0} (x y : Held E) → Some x ≡ Some y → x ≡ y
same_some x y e = cc

module _ {E : Type 0} (view : E → EventView) where
  -- two tests that agree on what is held pick the same
  pub waits_same : (test test' : ℕ → Held E → Bool) (i : ℕ) (hs : List (Option (Held E))) → ((k j : ℕ) (h : Held E) → j ≡ i + k → get_or hs k None ≡ Some h → test j h ≡ test' j h) → waits_from view test i hs ≡ waits_from view test' i hs
  waits_same test test' i [] h = refl
  waits_same test test' i (None ∷ hs) h = waits_same test test' (suc i) hs (λ k j x e at. h (suc k) j x (omega arith) at)
  waits_same test test' i (Some y ∷ hs) h =
      let r = waits_same test test' (suc i) hs (λ k j x e at. h (suc k) j x (omega arith) at) in
      let z : i ≡ i + 0 = omega arith in
      ap (λ (b : Bool). cond b (waits_at view i y ∷ waits_from view test (suc i) hs) (waits_from view test (suc i) hs)) (h 0 i y z refl)
      ∙ ap (λ (ws : List Waits). cond (test' i y) (waits_at view i y ∷ ws) ws) r

  -- what is left of what was picked
  pub waits_filter : (p : Waits → Bool) (test : ℕ → Held E → Bool) (i : ℕ) (hs : List (Option (Held E))) → filter p (waits_from view test i hs) ≡ waits_from view (λ j h. test j h && p (waits_at view j h)) i hs
  waits_filter p test i [] = refl
  waits_filter p test i (None ∷ hs) = waits_filter p test (suc i) hs
  waits_filter p test i (Some y ∷ hs) =
      let r = waits_filter p test (suc i) hs in
      elim (cases_Bool (test i y)) [
        | inl e ↦ rw e (ap (λ (ws : List Waits). cond (p (waits_at view i y)) (waits_at view i y ∷ ws) ws) r)
        | inr e ↦ rw e r
      ]

  -- one event more
  pub waits_push : (test : ℕ → Held E → Bool) (i n : ℕ) (hs : List (Option (Held E))) (x : Held E) → n ≡ i + length hs → waits_from view test i (hs ++ Some x ∷ []) ≡ waits_from view test i hs ++ cond (test n x) (waits_at view n x ∷ []) []
  waits_push test i n [] x e = let z : i ≡ n = omega arith in ap (λ (j : ℕ). cond (test j x) (waits_at view j x ∷ []) []) z
  waits_push test i n (None ∷ hs) x e = waits_push test (suc i) n hs x (omega arith)
  waits_push test i n (Some y ∷ hs) x e =
      let r = waits_push test (suc i) n hs x (omega arith) in
      elim (cases_Bool (test i y)) [
        | inl t ↦ rw t (ap (λ (ws : List Waits). waits_at view i y ∷ ws) r)
        | inr t ↦ rw t r
      ]

  -- another thing at a place, which does not pass
  pub waits_set : (test : ℕ → Held E → Bool) (i k n : ℕ) (hs : List (Option (Held E))) (o : Option (Held E)) → n ≡ i + k → ((h : Held E) → o ≡ Some h → test n h ≡ false) → waits_from view test i (set hs k o) ≡ waits_from view (λ j h. test j h && not (eqb j n)) i hs
  waits_set test i zero n [] o e fails = refl
  waits_set test i (suc k) n [] o e fails = refl
  waits_set test i zero n (y ∷ hs) o e fails =
      let z : i ≡ n = omega arith in
      gone o fails
      ∙ waits_same test (λ j h. test j h && not (eqb j n)) (suc i) hs (λ k j h q at. and_other (test j h) j n (λ s. omega arith))
      ∙ sym (dropped y)
    where
      gone : (u : Option (Held E)) → ((h : Held E) → u ≡ Some h → test n h ≡ false) → waits_from view test i (u ∷ hs) ≡ waits_from view test (suc i) hs
      gone None f = refl
      gone (Some h) f = let t : test i h ≡ false = ap (λ (j : ℕ). test j h) (let z : i ≡ n = omega arith in z) ∙ f h refl in rw t refl

      dropped : (u : Option (Held E)) → waits_from view (λ j h. test j h && not (eqb j n)) i (u ∷ hs) ≡ waits_from view (λ j h. test j h && not (eqb j n)) (suc i) hs
      dropped None = refl
      dropped (Some h) = rw (and_same (test i h) i n (omega arith)) refl
  waits_set test i (suc k) n (None ∷ hs) o e fails = waits_set test (suc i) k n hs o (omega arith) fails
  waits_set test i (suc k) n (Some h ∷ hs) o e fails =
      let r = waits_set test (suc i) k n hs o (omega arith) fails in
      let same : test i h ≡ (test i h && not (eqb i n)) = and_other (test i h) i n (λ s. omega arith) in
      ap (λ (ws : List Waits). cond (test i h) (waits_at view i h ∷ ws) ws) r
      ∙ ap (λ (b : Bool). cond b (waits_at view i h ∷ waits_from view (λ j x. test j x && not (eqb j n)) (suc i) hs) (waits_from view (λ j x. test j x && not (eqb j n)) (suc i) hs)) same

  -- without empty places in front
  pub waits_drop : (test : ℕ → Held E → Bool) (n i m : ℕ) (hs : List (Option (Held E))) → m ≡ i + n → ((k : ℕ) → k < n → get_or hs k None ≡ None) → n ≤ length hs → waits_from view test m (drop n hs) ≡ waits_from view test i hs
  waits_drop test zero i m hs e empty le = let z : m ≡ i = omega arith in ap (λ (j : ℕ). waits_from view test j hs) z
  waits_drop test (suc n) i m [] e empty le = absurd (omega arith)
  waits_drop test (suc n) i m (None ∷ hs) e empty le = waits_drop test n (suc i) m hs (omega arith) (λ k lt. empty (suc k) (omega arith)) (omega arith)
  waits_drop test (suc n) i m (Some h ∷ hs) e empty le = absurd (none-some h (sym (empty 0 (omega arith))))

  -- the first that is picked
  pub record FirstOf (test : ℕ → Held E → Bool) (i : ℕ) (hs : List (Option (Held E))) (x : Waits) : Type 0 where
    pub place : ℕ
    pub event : Held E
    pub there : get_or hs place None ≡ Some event
    pub is : x ≡ waits_at view (i + place) event
    pub passes : test (i + place) event ≡ true
    pub earlier : (k : ℕ) (h : Held E) → k < place → get_or hs k None ≡ Some h → test (i + k) h ≡ false

  later_first : (test : ℕ → Held E → Bool) (i : ℕ) (o : Option (Held E)) (hs : List (Option (Held E))) (x : Waits) → ((h : Held E) → o ≡ Some h → test i h ≡ false) → FirstOf test (suc i) hs x → FirstOf test i (o ∷ hs) x
  later_first test i o hs x fails F =
      let e : suc i + F.place ≡ i + suc F.place = omega arith in
      record {
        place = suc F.place;
        event = F.event;
        there = F.there;
        is = F.is ∙ ap (λ (j : ℕ). waits_at view j F.event) e;
        passes = ap (λ (j : ℕ). test j F.event) (sym e) ∙ F.passes;
        earlier = λ k h lt at. before k h lt at;
      }
    where
      before : (k : ℕ) (h : Held E) → k < suc F.place → get_or (o ∷ hs) k None ≡ Some h → test (i + k) h ≡ false
      before zero h lt at = let z : i + 0 ≡ i = omega arith in ap (λ (j : ℕ). test j h) z ∙ fails h at
      before (suc k) h lt at = let z : i + suc k ≡ suc i + k = omega arith in ap (λ (j : ℕ). test j h) z ∙ F.earlier k h (omega arith) at

  pub waits_first : (test : ℕ → Held E → Bool) (i : ℕ) (hs : List (Option (Held E))) (x : Waits) → slice_get (waits_from view test i hs) 0 ≡ Some x → FirstOf test i hs x
  waits_first test i [] x e = absurd (none-some x e)
  waits_first test i (None ∷ hs) x e = later_first test i None hs x (λ h q. absurd (none-some h q)) (waits_first test (suc i) hs x e)
  waits_first test i (Some y ∷ hs) x e = elim (cases_Bool (test i y)) [
    | inl t ↦
        let f : Some (waits_at view i y) ≡ Some x = rw t at e in
        let same : waits_at view i y ≡ x = cc in
        let z : i ≡ i + 0 = omega arith in
        record {
          place = 0;
          event = y;
          there = refl;
          is = sym same ∙ ap (λ (j : ℕ). waits_at view j y) z;
          passes = ap (λ (j : ℕ). test j y) (sym z) ∙ t;
          earlier = λ k h lt at. absurd (omega arith);
        }
    | inr t ↦
        let f : slice_get (waits_from view test (suc i) hs) 0 ≡ Some x = rw t at e in
        later_first test i (Some y) hs x (λ h q. ap (test i) (sym (same_some y h q)) ∙ t) (waits_first test (suc i) hs x f)
  ]

  -- where nothing is picked, nothing passes
  pub waits_none : (test : ℕ → Held E → Bool) (i : ℕ) (hs : List (Option (Held E))) → slice_get (waits_from view test i hs) 0 ≡ None → (k : ℕ) (h : Held E) → get_or hs k None ≡ Some h → test (i + k) h ≡ false
  waits_none test i [] e zero h at = absurd (none-some h at)
  waits_none test i [] e (suc k) h at = absurd (none-some h at)
  waits_none test i (None ∷ hs) e zero h at = absurd (none-some h at)
  waits_none test i (None ∷ hs) e (suc k) h at = let z : i + suc k ≡ suc i + k = omega arith in ap (λ (j : ℕ). test j h) z ∙ waits_none test (suc i) hs e k h at
  waits_none test i (Some y ∷ hs) e zero h at = elim (cases_Bool (test i y)) [
    | inl t ↦
        let f : Some (waits_at view i y) ≡ None = rw t at e in
        absurd (none-some (waits_at view i y) (sym f))
    | inr t ↦ let z : i + 0 ≡ i = omega arith in ap (λ (j : ℕ). test j h) z ∙ ap (test i) (sym (same_some y h at)) ∙ t
  ]
  waits_none test i (Some y ∷ hs) e (suc k) h at = elim (cases_Bool (test i y)) [
    | inl t ↦
        let f : Some (waits_at view i y) ≡ None = rw t at e in
        absurd (none-some (waits_at view i y) (sym f))
    | inr t ↦
        let f : slice_get (waits_from view test (suc i) hs) 0 ≡ None = rw t at e in
        let z : i + suc k ≡ suc i + k = omega arith in
        ap (λ (j : ℕ). test j h) z ∙ waits_none test (suc i) hs f k h at
  ]

  -- what is picked stands in the order of what is held
  rises_after : (test : ℕ → Held E → Bool) (x : Waits) (i c s : ℕ) (hs : List (Option (Held E))) (lc ls : ℕ) → x.index < i → x.clock ≤ c → x.weight_sum ≤ s → StampsRise view c s hs lc ls → RisesTo x (waits_from view test i hs)
  rises_after test x i c s [] lc ls hi hc hs' h = tt
  rises_after test x i c s (None ∷ hs) lc ls hi hc hs' h = rises_after test x (suc i) c s hs lc ls (omega arith) hc hs' h
  rises_after test x i c s (Some y ∷ hs) lc ls hi hc hs' h =
      let a = h.0 in
      let b = h.1 in
      let r = rises_after test x (suc i) y.clock y.weight_sum hs lc ls (omega arith) (omega arith) (omega arith) h.2 in
      elim (cases_Bool (test i y)) [
        | inl t ↦ rw t (record { position = hi; time = omega arith; sum = omega arith }, r)
        | inr t ↦ rw t r
      ]

  pub waits_rising : (test : ℕ → Held E → Bool) (i c s : ℕ) (hs : List (Option (Held E))) (lc ls : ℕ) → StampsRise view c s hs lc ls → AreRising (waits_from view test i hs)
  waits_rising test i c s [] lc ls h = tt
  waits_rising test i c s (None ∷ hs) lc ls h = waits_rising test (suc i) c s hs lc ls h
  waits_rising test i c s (Some y ∷ hs) lc ls h =
      let r = waits_rising test (suc i) y.clock y.weight_sum hs lc ls h.2 in
      elim (cases_Bool (test i y)) [
        | inl t ↦ rw t (rises_after test (waits_at view i y) (suc i) y.clock y.weight_sum hs lc ls (omega arith) (omega arith) (omega arith) h.2, r)
        | inr t ↦ rw t r
      ]

  pub waits_before : (test : ℕ → Held E → Bool) (i n c s : ℕ) (hs : List (Option (Held E))) (lc ls : ℕ) → n ≡ i + length hs → StampsRise view c s hs lc ls → AllBefore n lc ls (waits_from view test i hs)
  waits_before test i n c s [] lc ls e h = tt
  waits_before test i n c s (None ∷ hs) lc ls e h = waits_before test (suc i) n c s hs lc ls (omega arith) h
  waits_before test i n c s (Some y ∷ hs) lc ls e h =
      let r = waits_before test (suc i) n y.clock y.weight_sum hs lc ls (omega arith) h.2 in
      let t = top view y.clock y.weight_sum hs lc ls h.2 in
      elim (cases_Bool (test i y)) [
        | inl q ↦ rw q (record { position = omega arith; time = t.0; sum = t.1 }, r)
        | inr q ↦ rw q r
      ]

  pub waits_from_here : (test : ℕ → Held E → Bool) (i n : ℕ) (hs : List (Option (Held E))) → i ≤ n → NoneBefore i (waits_from view test n hs)
  waits_from_here test i n [] le = tt
  waits_from_here test i n (None ∷ hs) le = waits_from_here test i (suc n) hs (omega arith)
  waits_from_here test i n (Some y ∷ hs) le =
      let r = waits_from_here test i (suc n) hs (omega arith) in
      elim (cases_Bool (test n y)) [
        | inl q ↦ rw q (le, r)
        | inr q ↦ rw q r
      ]

  -- no more is picked than is held
  pub waits_few : (test : ℕ → Held E → Bool) (i : ℕ) (hs : List (Option (Held E))) → length (waits_from view test i hs) ≤ count_by is_some hs
  waits_few test i [] = let z : count_by (λ (o : Option (Held E)). is_some o) [] ≡ 0 = refl in omega arith
  waits_few test i (None ∷ hs) =
      let a = waits_few test (suc i) hs in
      let q : count_by is_some (None ∷ hs) ≡ 0 + count_by is_some hs = sum_by-cons (λ (o : Option (Held E)). cond (is_some o) 1 0) None hs in
      omega arith
  waits_few test i (Some y ∷ hs) =
      let a = waits_few test (suc i) hs in
      let q : count_by is_some (Some y ∷ hs) ≡ 1 + count_by is_some hs = sum_by-cons (λ (o : Option (Held E)). cond (is_some o) 1 0) (Some y) hs in
      elim (cases_Bool (test i y)) [
        | inl t ↦ rw t (omega arith)
        | inr t ↦ rw t (omega arith)
      ]
