-- What a window stands for after each step of a pop.
use Rattle.std.proofs.Common.{◌≡◌, ℕ, ◌+◌, ◌<◌, ◌≤◌, inl, inr, Bool, true, false, ◌||◌, cond, List, [], ◌∷◌, ◌++◌, length, take, drop, map, set, get_or, Option, Some, None, refl, ap, sym, ◌∙◌, subst, arith, length-set, length-drop}
use Rattle.std.specs.Prelude.{is_some, slice_get}
use Rattle.std.specs.List.{sum_by}
use Rattle.std.proofs.lemmas.Bool.{cases_lt, cases_eq, lt-ltb, le-ltb}
use Rattle.std.proofs.lemmas.Option.{none-some}
use Rattle.std.proofs.lemmas.List.{length-map, length-take-le, take_more, get_or-drop, get_or-set_same, get_or-set_other, append-nil}
use Rattle.cd_pairing.specs.Events.{EventView}
use Rattle.cd_pairing.specs.Matching.{partner}
use Rattle.cd_pairing.specs.Settling.{is_settled}
use Rattle.cd_pairing.specs.Records.{Record, pair, single, records, records_from}
use Rattle.cd_pairing.proofs.Records.{records-append}
use Rattle.cd_window.specs.declared.released.Released.{Released}
use Rattle.cd_window.specs.declared.released.Released.TheVariants.{One}
use Rattle.cd_window.specs.declared.held.Held.{Held}
use Rattle.cd_window.specs.Seen.{Seen, held_at, weight_held}
use Rattle.cd_window.specs.History.{IsRecord, AreRecords, IsHeld, HoldsAt, StandsFor, HeldIsUnpopped, events_in, weight_in}
use Rattle.cd_window.proofs.Counting.{nothing_gone, one_gone, pair_gone}

pub told_more : {E : Type 0} (view : E → EventView) (pushed : List E) (rs : List Record) (xs : List (Released E)) (r : Record) (x : Released E) → AreRecords view pushed rs xs → IsRecord view pushed r x → AreRecords view pushed (rs ++ r ∷ []) (xs ++ x ∷ [])
told_more view pushed [] [] r x h t = (t, tt)
told_more view pushed (s ∷ rs) (y ∷ xs) r x h t = (h.0, told_more view pushed rs xs r x h.1 t)
told_more view pushed [] (y ∷ xs) r x h t = absurd h
told_more view pushed (s ∷ rs) [] r x h t = absurd h

-- the records of one more position
pub records_more : (p : List (Option ℕ)) (i : ℕ) → i < length p → records (take (i + 1) p) ≡ records (take i p) ++ records_from i (partner p i ∷ [])
records_more p i lt =
    let n : 0 + length (take i p) ≡ i = let l = length-take-le i p (omega arith) in omega arith in
    ap records (take_more p i None lt) ∙ records-append 0 (take i p) (partner p i ∷ []) ∙ ap (λ (m : ℕ). records (take i p) ++ records_from m (partner p i ∷ [])) n

no_record : (i j : ℕ) → j < i → records_from i (Some j ∷ []) ≡ []
no_record i j lt = rw (le-ltb i j (omega arith)) refl

pub one_pair : (i j : ℕ) → i < j → records_from i (Some j ∷ []) ≡ pair i j ∷ []
one_pair i j lt = rw (lt-ltb i j lt) refl

-- what is held at a later position, when the front is told
pub holds_on : {E : Type 0} (view : E → EventView) (pushed : List E) (p : List (Option ℕ)) (first i : ℕ) (o : Option (Held E)) → ((a b : ℕ) → partner p a ≡ Some b → partner p b ≡ Some a) → (partner p first ≡ Some i → ⊥) → HoldsAt view pushed p first i o → HoldsAt view pushed p (first + 1) i o
holds_on view pushed p first i None back far h = (h.0, let l : h.0 < first = h.1 in omega arith, h.2)
holds_on view pushed p first i (Some x) back far h = record {
  event = h.event;
  clock = h.clock;
  weight_sum = h.weight_sum;
  partner = h.partner;
  unpopped = λ j e. let l : first ≤ j = h.unpopped j e in elim (cases_eq j first) [
    | inl q ↦ absurd (far (back i first (sym h.partner ∙ e ∙ ap (λ (y : ℕ). Some y) q)))
    | inr q ↦ omega arith
  ];
}

-- the front is gone
abbrev pub moved : {E : Type 0} → Seen E → List (Option (Held E)) → Seen E
moved w rest = record w { first = w.first + 1; held = drop 1 rest }

pub moves : {E : Type 0} (view : E → EventView) (w : Seen E) (rest : List (Option (Held E))) (pushed : List E) (popped popped' : List (Released E)) (S : StandsFor view w pushed popped) → 0 < length w.held → length rest ≡ length w.held →
    ((k : ℕ) → 0 < k → k < length w.held → HoldsAt view pushed S.partners (w.first + 1) (w.first + k) (get_or rest k None)) → AreRecords view pushed (records (take (w.first + 1) S.partners)) popped' →
    (w.finished ≡ false → is_settled w.windows (map view pushed) S.partners w.first ≡ true) → HeldIsUnpopped view (moved w rest) pushed popped' → StandsFor view (moved w rest) pushed popped'
moves {E} view w rest pushed popped popped' S some long later told here unpopped =
    let ld = length-drop 1 rest in
    record {
      partners = S.partners;
      pairing = S.pairing;
      heavy = S.heavy;
      count = let c = S.count in omega arith;
      clock = S.clock;
      weight_sum = S.weight_sum;
      held = λ k lt. subst (HoldsAt view pushed S.partners (w.first + 1) (w.first + 1 + k)) (sym (get_or-drop 1 rest k None))
          (subst (λ (i : ℕ). HoldsAt view pushed S.partners (w.first + 1) i (get_or rest (1 + k) None)) (let e : w.first + (1 + k) ≡ w.first + 1 + k = omega arith in e) (later (1 + k) (omega arith) (omega arith)));
      popped_are = told;
      unpopped = unpopped;
      settled = λ going i lt. elim (cases_lt i w.first) [
        | inl h ↦ S.settled going i h
        | inr h ↦ let e : w.first ≡ i = omega arith in subst (λ (x : ℕ). is_settled w.windows (map view pushed) S.partners x ≡ true) e (here going)
      ];
    }

settled_paired : (a : Bool) (o : Option ℕ) (c : Bool) (j : ℕ) → o ≡ Some j → (a || is_some o || c) ≡ true
settled_paired true o c j e = refl
settled_paired false o c j e = ap (λ (x : Option ℕ). is_some x || c) e

-- a front that was told before
pub skips : {E : Type 0} (view : E → EventView) (w : Seen E) (pushed : List E) (popped : List (Released E)) (S : StandsFor view w pushed popped) → 0 < length w.held → held_at w 0 ≡ None → StandsFor view (moved w w.held) pushed popped
skips {E} view w pushed popped S some none =
    let p : List (Option ℕ) = S.partners in
    let c = S.count in
    let was = subst (HoldsAt view pushed p w.first (w.first + 0)) none (S.held 0 some) in
    let at : partner p w.first ≡ Some was.0 = ap (partner p) (let e : w.first ≡ w.first + 0 = omega arith in e) ∙ was.2 in
    let before : was.0 < w.first = was.1 in
    let t = S.pairing.total in
    moves view w w.held pushed popped popped S some refl
    (λ k a b. holds_on view pushed p w.first (w.first + k) (held_at w k) S.pairing.back (λ e. let both : Some was.0 ≡ Some (w.first + k) = sym at ∙ e in let same : was.0 ≡ w.first + k = cc in omega arith) (S.held k b))
    (subst (λ (rs : List Record). AreRecords view pushed rs popped) (sym (records_more p w.first (omega (arith, length-map pushed view)) ∙ ap (λ (o : Option ℕ). records (take w.first p) ++ records_from w.first (o ∷ [])) at
    ∙ ap (λ (rs : List Record). records (take w.first p) ++ rs) (no_record w.first was.0 before) ∙ append-nil (records (take w.first p)))) S.popped_are)
    (λ going. settled_paired _ (partner p w.first) _ was.0 at)
    (record {
      count = ap (λ (n : ℕ). n + sum_by events_in popped) (nothing_gone (λ (x : Option (Held E)). cond (is_some x) 1 0) w.held some none refl) ∙ S.unpopped.count;
      weight = ap (λ (n : ℕ). n + sum_by (weight_in view) popped) (nothing_gone (weight_held view) w.held some none refl) ∙ S.unpopped.weight;
    })

-- a front that stands alone
pub tells_one : {E : Type 0} (view : E → EventView) (w : Seen E) (h : Held E) (pushed : List E) (popped : List (Released E)) (S : StandsFor view w pushed popped) → 0 < length w.held → held_at w 0 ≡ Some h → h.partner ≡ None →
    (w.finished ≡ false → is_settled w.windows (map view pushed) S.partners w.first ≡ true) → StandsFor view (moved w w.held) pushed (popped ++ One w.first h.event ∷ [])
tells_one {E} view w h pushed popped S some here free settled =
    let p : List (Option ℕ) = S.partners in
    let c = S.count in
    let t = S.pairing.total in
    let z : w.first + 0 ≡ w.first = omega arith in
    let H : IsHeld view pushed p w.first (w.first + 0) h = subst (HoldsAt view pushed p w.first (w.first + 0)) here (S.held 0 some) in
    let at : partner p w.first ≡ None = ap (partner p) (sym z) ∙ sym H.partner ∙ free in
    moves view w w.held pushed popped (popped ++ One w.first h.event ∷ []) S some refl
    (λ k a b. holds_on view pushed p w.first (w.first + k) (held_at w k) S.pairing.back (λ e. none-some (w.first + k) (sym at ∙ e)) (S.held k b))
    (subst (λ (rs : List Record). AreRecords view pushed rs (popped ++ One w.first h.event ∷ [])) (sym (records_more p w.first (omega (arith, length-map pushed view)) ∙ ap (λ (o : Option ℕ). records (take w.first p) ++ records_from w.first (o ∷ [])) at))
    (told_more view pushed (records (take w.first p)) popped (single w.first) (One w.first h.event) S.popped_are (refl, subst (λ (i : ℕ). slice_get pushed i ≡ Some h.event) z H.event)))
    settled
    (record {
      count = one_gone (λ (x : Option (Held E)). cond (is_some x) 1 0) events_in w.held h popped (One w.first h.event) (length pushed) some here refl S.unpopped.count;
      weight = one_gone (weight_held view) (weight_in view) w.held h popped (One w.first h.event) (sum_by (λ x. x.weight) (map view pushed)) some here refl S.unpopped.weight;
    })

-- a front that stands with a later event, which is not held from then on
pub tells_pair : {E : Type 0} (view : E → EventView) (w : Seen E) (h other : Held E) (place : ℕ) (told : Released E) (pushed : List E) (popped : List (Released E)) (S : StandsFor view w pushed popped) → 0 < length w.held → place < length w.held → held_at w 0 ≡ Some h →
    held_at w place ≡ Some other → h.partner ≡ Some (w.first + place) → IsRecord view pushed (pair w.first (w.first + place)) told →
    events_in told ≡ 2 → weight_in view told ≡ (view h.event).weight + (view other.event).weight → StandsFor view (moved w (set w.held place None)) pushed (popped ++ told ∷ [])
tells_pair {E} view w h other place told pushed popped S some inside here there paired is_told two heavy =
    let p : List (Option ℕ) = S.partners in
    let c = S.count in
    let t = S.pairing.total in
    let j : ℕ = w.first + place in
    let z : w.first + 0 ≡ w.first = omega arith in
    let H : IsHeld view pushed p w.first (w.first + 0) h = subst (HoldsAt view pushed p w.first (w.first + 0)) here (S.held 0 some) in
    let at : partner p w.first ≡ Some j = ap (partner p) (sym z) ∙ sym H.partner ∙ paired in
    let later : w.first < j = elim (cases_lt w.first j) [
      | inl x ↦ x
      | inr x ↦ let e : j ≡ w.first = omega arith in absurd (S.pairing.apart w.first (at ∙ ap (λ (y : ℕ). Some y) e))
    ] in
    moves view w (set w.held place None) pushed popped (popped ++ told ∷ []) S some (length-set w.held place None)
    (λ k a b. elim (cases_eq k place) [
      | inl q ↦ subst (λ (m : ℕ). HoldsAt view pushed p (w.first + 1) (w.first + m) (get_or (set w.held place None) m None)) (sym q)
          (subst (HoldsAt view pushed p (w.first + 1) j) (sym (get_or-set_same w.held place None None inside)) (w.first, let l : w.first < w.first + 1 = omega arith in l, S.pairing.back w.first j at))
      | inr q ↦ subst (HoldsAt view pushed p (w.first + 1) (w.first + k)) (sym (get_or-set_other w.held place k None None q))
          (holds_on view pushed p w.first (w.first + k) (held_at w k) S.pairing.back (λ e. let both : Some j ≡ Some (w.first + k) = sym at ∙ e in let same : j ≡ w.first + k = cc in q (omega arith)) (S.held k b))
    ])
    (subst (λ (rs : List Record). AreRecords view pushed rs (popped ++ told ∷ [])) (sym (records_more p w.first (omega (arith, length-map pushed view)) ∙ ap (λ (o : Option ℕ). records (take w.first p) ++ records_from w.first (o ∷ [])) at ∙ ap (λ (rs : List Record). records (take w.first p) ++ rs) (one_pair w.first j later)))
    (told_more view pushed (records (take w.first p)) popped (pair w.first j) told S.popped_are is_told))
    (λ going. settled_paired _ (partner p w.first) _ j at)
    (record {
      count = pair_gone (λ (x : Option (Held E)). cond (is_some x) 1 0) events_in w.held h other place popped told (length pushed) some inside (λ z. omega arith) here there refl (sym two) S.unpopped.count;
      weight = pair_gone (weight_held view) (weight_in view) w.held h other place popped told (sum_by (λ x. x.weight) (map view pushed)) some inside (λ z. omega arith) here there refl (sym heavy) S.unpopped.weight;
    })
