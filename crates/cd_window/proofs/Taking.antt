-- What the code of a pop does is what a pop does, and keeps what a window keeps.
use Rattle.std.proofs.Common.{◌≡◌, ℕ, zero, suc, ◌+◌, ◌-◌, ◌<◌, ◌≤◌, ◌≢◌, inl, inr, true, List, [], ◌∷◌, length, drop, set, get_or, cond, Option, Some, None, refl, ap, sym, ◌∙◌, subst, arith, length-set, length-drop}
use Rattle.std.specs.Prelude.{is_some}
use Rattle.std.specs.List.{sum_by}
use Rattle.std.proofs.lemmas.Bool.{cases_lt, cases_eq}
use Rattle.std.proofs.lemmas.Option.{none-some}
use Rattle.std.proofs.lemmas.List.{get_or-drop, get_or-set_same, get_or-set_other, drop-set-lt}
use Rattle.std.proofs.lemmas.List.Sums.{sum_by-set, sum_by-cons}
use Rattle.cd_pairing.specs.Events.{EventView}
use Rattle.cd_window.specs.declared.released.Released.{Released}
use Rattle.cd_window.specs.declared.held.Held.{Held}
use Rattle.cd_window.specs.Seen.{Seen, is_ready, held_count, held_weight, weight_held}
use Rattle.cd_window.specs.Pops.{IsLeft, IsPopped}
use Rattle.cd_window.specs.History.{events_in, weight_in}
use Rattle.cd_window.specs.Keeping.{StampsRise, IsMated, Keeps}
use Rattle.cd_window.specs.Places.{TakesOne, TakesPair, Takes, Trims, place_at}
use Rattle.cd_window.proofs.Rising.{rises_drop, rises_none}
use Rattle.cd_window.proofs.Popped.{place_within, in_order_two, in_order_weight}

-- what a pop leaves of a window
abbrev pub after : {E : Type 0} → Seen E → ℕ → List (Option (Held E)) → Seen E
after w gone new = record w { first = w.first + gone; held = new }

-- the front, which was taken, goes with the empty places
some_gone : {E : Type 0} (mid new : List (Option (Held E))) (gone : ℕ) → Trims mid new gone → 0 < length mid → place_at mid 0 ≡ None → 0 < gone
some_gone {E} mid new gone T lt none = elim (cases_lt 0 gone) [
  | inl h ↦ h
  | inr h ↦
      let z : gone ≡ 0 = omega arith in
      let same : new ≡ mid = T.left ∙ ap (λ (n : ℕ). drop n mid) z in
      let nil : new ≡ [] = T.trimmed (ap (λ (xs : List (Option (Held E))). place_at xs 0) same ∙ none) in
      let l : length mid ≡ 0 = ap length (sym same ∙ nil) in
      absurd (omega arith)
]

-- what is left when the front of this list is taken and empty places are gone
pub left : {E : Type 0} (w : Seen E) (rest mid new : List (Option (Held E))) (gone : ℕ) → 0 < length rest → mid ≡ set rest 0 None → Trims mid new gone → IsLeft w rest (after w gone new)
left {E} w rest mid new gone lt em T =
    let lm : length mid ≡ length rest = ap length em ∙ length-set rest 0 None in
    let some : 0 < gone = some_gone mid new gone T (omega arith) (ap (λ (xs : List (Option (Held E))). place_at xs 0) em ∙ get_or-set_same rest 0 None None lt) in
    let e : gone ≡ 1 + (gone - 1) = omega arith in
    let top : gone ≤ length mid = T.within in
    let is : new ≡ drop (1 + (gone - 1)) rest = T.left ∙ ap (drop gone) em ∙ drop-set-lt gone rest 0 None some ∙ ap (λ (n : ℕ). drop n rest) e in
    record {
      skipped = gone - 1;
      within = omega arith;
      empty = λ k low high. sym (get_or-set_other rest 0 k None None (λ z. omega arith)) ∙ ap (λ (xs : List (Option (Held E))). place_at xs k) (sym em) ∙ T.empty k (omega arith);
      new_is = ap (λ (n : ℕ). let x : Seen E = record w { first = w.first + n; held = new } in x) e
          ∙ ap (λ (xs : List (Option (Held E))). let x : Seen E = record w { first = w.first + (1 + (gone - 1)); held = xs } in x) is;
      trimmed = T.trimmed;
    }

-- empty places are nothing in a sum
sum_skips : {E : Type 0} (g : Option (Held E) → ℕ) (n : ℕ) (xs : List (Option (Held E))) → g None ≡ 0 → ((k : ℕ) → k < n → place_at xs k ≡ None) → sum_by g (drop n xs) ≡ sum_by g xs
sum_skips g zero xs z empty = refl
sum_skips g (suc n) [] z empty = refl
sum_skips g (suc n) (x ∷ xs) z empty =
    let a = sum_skips g n xs z (λ k lt. empty (suc k) (omega arith)) in
    let b = sum_by-cons g x xs in
    let here : x ≡ None = empty 0 (omega arith) in
    let c : g x ≡ g None = ap g here in
    a ∙ (let s : sum_by g xs ≡ sum_by g (x ∷ xs) = omega arith in s)

-- the sum that is left
sum_left : {E : Type 0} (g : Option (Held E) → ℕ) (rest mid new : List (Option (Held E))) (gone : ℕ) (x : Held E) → g None ≡ 0 → 0 < length rest → mid ≡ set rest 0 None → place_at rest 0 ≡ Some x → Trims mid new gone →
    sum_by g new + g (Some x) ≡ sum_by g rest
sum_left {E} g rest mid new gone x z lt em here T =
    let a : sum_by g new ≡ sum_by g mid = ap (sum_by g) T.left ∙ sum_skips g gone mid z T.empty in
    let b : sum_by g mid ≡ sum_by g (set rest 0 None) = ap (sum_by g) em in
    let c = sum_by-set g rest 0 None None lt in
    let d : g (get_or rest 0 None) ≡ g (Some x) = ap g here in
    omega arith

-- in what is left, what is paired is paired back
mated_left : {E : Type 0} (first : ℕ) (held rest mid new : List (Option (Held E))) (gone : ℕ) → ((k j : ℕ) (h : Held E) → place_at held k ≡ Some h → h.partner ≡ Some j → IsMated first held k j) →
    ((i : ℕ) (x : Held E) → place_at rest i ≡ Some x → place_at held i ≡ Some x) →
    ((m i : ℕ) (x h : Held E) → 0 < i → place_at rest i ≡ Some h → place_at held m ≡ Some x → x.partner ≡ Some (first + i) → (place_at rest m ≡ Some x) × (m ≢ 0)) →
    mid ≡ set rest 0 None → 0 < gone → Trims mid new gone → (k j : ℕ) (h : Held E) → place_at new k ≡ Some h → h.partner ≡ Some j → IsMated (first + gone) new k j
mated_left {E} first held rest mid new gone M inside back em some T k j h at p =
    let shown : (i : ℕ) → place_at new i ≡ place_at rest (gone + i) = λ i. ap (λ (xs : List (Option (Held E))). place_at xs i) (T.left ∙ ap (drop gone) em ∙ drop-set-lt gone rest 0 None some) ∙ get_or-drop gone rest i None in
    let here : place_at rest (gone + k) ≡ Some h = sym (shown k) ∙ at in
    let m = M (gone + k) j h (inside (gone + k) h here) p in
    let both = back m.place (gone + k) m.other h (omega arith) here m.there m.back in
    let is : j ≡ first + m.place = m.is in
    let apart : m.place ≢ gone + k = m.apart in
    let high : gone ≤ m.place = elim (cases_lt m.place gone) [
      | inr x ↦ x
      | inl x ↦ absurd (none-some m.other (sym (T.empty m.place x) ∙ ap (λ (xs : List (Option (Held E))). place_at xs m.place) em ∙ get_or-set_other rest 0 m.place None None both.1 ∙ both.0))
    ] in
    let e : gone + (m.place - gone) ≡ m.place = omega arith in
    let n : first + (gone + k) ≡ first + gone + k = omega arith in
    record {
      place = m.place - gone;
      is = omega arith;
      other = m.other;
      there = shown (m.place - gone) ∙ ap (place_at rest) e ∙ both.0;
      back = m.back ∙ ap (λ (x : ℕ). Some x) n;
      apart = λ z. apart (omega arith);
    }

-- what is shown of the code of a pop
pub record PopFacts {E : Type 0} (view : E → EventView) (w : Seen E) (count weight : ℕ) (r : Released E) (new : List (Option (Held E))) (gone : ℕ) : Type 0 where
  pub popped : IsPopped view w (Some r) (after w gone new)
  pub keeps : Keeps view (after w gone new) (count - events_in r) (weight - weight_in view r)
  pub events : events_in r ≤ count
  pub weighs : weight_in view r ≤ weight
  pub room : w.first + gone ≤ w.weight_sum

-- where the front stood alone
takes_one : {E : Type 0} (view : E → EventView) (w : Seen E) (count weight : ℕ) (r : Released E) (mid new : List (Option (Held E))) (gone : ℕ) → Keeps view w count weight → is_ready view w ≡ true → TakesOne w.first w.held r mid → Trims mid new gone →
    PopFacts view w count weight r new gone
takes_one {E} view w count weight r mid new gone K ready P T =
    let lt : 0 < length w.held = place_within w.held 0 P.was P.held in
    let L = left w w.held mid new gone lt P.left T in
    let lm : length mid ≡ length w.held = ap length P.left ∙ length-set w.held 0 None in
    let some : 0 < gone = some_gone mid new gone T (omega arith) (ap (λ (xs : List (Option (Held E))). place_at xs 0) P.left ∙ get_or-set_same w.held 0 None None lt) in
    let top = T.within in
    let ln : length new ≡ length mid - gone = ap length T.left ∙ length-drop gone mid in
    let room = K.room in
    let sc : sum_by (λ (x : Option (Held E)). cond (is_some x) 1 0) new + 1 ≡ held_count w = sum_left (λ (x : Option (Held E)). cond (is_some x) 1 0) w.held mid new gone P.was refl lt P.left P.held T in
    let sw : sum_by (weight_held view) new + (view P.was.event).weight ≡ held_weight view w = sum_left (weight_held view) w.held mid new gone P.was refl lt P.left P.held T in
    let ke = K.counted in
    let kw = K.weighed in
    let two : events_in r ≡ 1 = ap events_in P.result_is in
    let heavy : weight_in view r ≡ (view P.was.event).weight = ap (weight_in view) P.result_is in
    let nc : held_count (after w gone new) ≡ sum_by (λ (x : Option (Held E)). cond (is_some x) 1 0) new = refl in
    let nw : held_weight view (after w gone new) ≡ sum_by (weight_held view) new = refl in
    record {
      popped = (ready, inl (record { was = P.was; held = P.held; free = P.free; result_is = P.result_is; left = L }));
      events = omega arith;
      weighs = omega arith;
      room = omega arith;
      keeps = record {
        some = K.some;
        few = K.few;
        trimmed = T.trimmed;
        rises = subst (λ (xs : List (Option (Held E))). StampsRise view 0 0 xs w.clock w.weight_sum) (sym T.left)
            (rises_drop view gone 0 0 mid w.clock w.weight_sum (subst (λ (xs : List (Option (Held E))). StampsRise view 0 0 xs w.clock w.weight_sum) (sym P.left) (rises_none view 0 0 0 w.held w.clock w.weight_sum K.rises)));
        mated = mated_left w.first w.held w.held mid new gone K.mated (λ i x e. e)
            (λ m i x h low here there p. (
              there,
              λ z.
                  let front : Some P.was ≡ Some x = sym P.held ∙ ap (place_at w.held) (sym z) ∙ there in
                  let same : P.was ≡ x = cc in
                  none-some (w.first + i) (sym P.free ∙ ap (λ (y : Held E). y.partner) same ∙ p),
            ))
            P.left some T;
        room = omega arith;
        light = K.light;
        counted = omega arith;
        weighed = omega arith;
      };
    }

-- where the front stood with a later event
takes_pair : {E : Type 0} (view : E → EventView) (w : Seen E) (count weight : ℕ) (r : Released E) (mid new : List (Option (Held E))) (gone : ℕ) → Keeps view w count weight → is_ready view w ≡ true → TakesPair view w.first w.held r mid → Trims mid new gone →
    PopFacts view w count weight r new gone
takes_pair {E} view w count weight r mid new gone K ready P T =
    let rest : List (Option (Held E)) = set w.held P.place None in
    let lt : 0 < length w.held = place_within w.held 0 P.was P.held in
    let inside : P.place < length w.held = place_within w.held P.place P.other P.there in
    let lr : length rest ≡ length w.held = length-set w.held P.place None in
    let apart : 0 ≢ P.place = λ z. P.apart (sym z) in
    let front : place_at rest 0 ≡ Some P.was = get_or-set_other w.held P.place 0 None None apart ∙ P.held in
    let ltr : 0 < length rest = omega arith in
    let L = left w rest mid new gone ltr P.left T in
    let lm : length mid ≡ length rest = ap length P.left ∙ length-set rest 0 None in
    let some : 0 < gone = some_gone mid new gone T (omega arith) (ap (λ (xs : List (Option (Held E))). place_at xs 0) P.left ∙ get_or-set_same rest 0 None None ltr) in
    let top = T.within in
    let ln : length new ≡ length mid - gone = ap length T.left ∙ length-drop gone mid in
    let room = K.room in
    let mate = K.mated 0 (w.first + P.place) P.was P.held P.paired in
    let sc : sum_by (λ (x : Option (Held E)). cond (is_some x) 1 0) new + 1 ≡ sum_by (λ (x : Option (Held E)). cond (is_some x) 1 0) rest = sum_left (λ (x : Option (Held E)). cond (is_some x) 1 0) rest mid new gone P.was refl ltr P.left front T in
    let sw : sum_by (weight_held view) new + (view P.was.event).weight ≡ sum_by (weight_held view) rest = sum_left (weight_held view) rest mid new gone P.was refl ltr P.left front T in
    let ones : Option (Held E) → ℕ = λ x. cond (is_some x) 1 0 in
    let gc : ones (get_or w.held P.place None) ≡ 1 = ap ones P.there in
    let gw : weight_held view (get_or w.held P.place None) ≡ (view P.other.event).weight = ap (weight_held view) P.there in
    let rc : sum_by ones rest + ones (get_or w.held P.place None) ≡ held_count w + 0 = sum_by-set ones w.held P.place None None inside in
    let rw' : sum_by (weight_held view) rest + weight_held view (get_or w.held P.place None) ≡ held_weight view w + 0 = sum_by-set (weight_held view) w.held P.place None None inside in
    let sc' : sum_by ones new + 1 ≡ sum_by ones rest = sc in
    let ke = K.counted in
    let kw = K.weighed in
    let two : events_in r ≡ 2 = ap events_in P.result_is ∙ in_order_two (view P.was.event).side w.first P.was.event P.other.event in
    let heavy : weight_in view r ≡ (view P.was.event).weight + (view P.other.event).weight = ap (weight_in view) P.result_is ∙ in_order_weight view (view P.was.event).side w.first P.was.event P.other.event in
    let nc : held_count (after w gone new) ≡ sum_by ones new = refl in
    let nw : held_weight view (after w gone new) ≡ sum_by (weight_held view) new = refl in
    record {
      popped = (ready, inr (record { was = P.was; place = P.place; other = P.other; held = P.held; paired = P.paired; other_held = P.there; result_is = P.result_is; left = L }));
      events = omega arith;
      weighs = omega arith;
      room = omega arith;
      keeps = record {
        some = K.some;
        few = K.few;
        trimmed = T.trimmed;
        rises = subst (λ (xs : List (Option (Held E))). StampsRise view 0 0 xs w.clock w.weight_sum) (sym T.left)
            (rises_drop view gone 0 0 mid w.clock w.weight_sum (subst (λ (xs : List (Option (Held E))). StampsRise view 0 0 xs w.clock w.weight_sum) (sym P.left)
            (rises_none view 0 0 0 rest w.clock w.weight_sum (rises_none view P.place 0 0 w.held w.clock w.weight_sum K.rises))));
        mated = mated_left w.first w.held rest mid new gone K.mated
            (λ i x e. elim (cases_eq i P.place) [
              | inl z ↦ absurd (none-some x (sym (get_or-set_same w.held P.place None None inside) ∙ ap (place_at rest) (sym z) ∙ e))
              | inr z ↦ sym (get_or-set_other w.held P.place i None None z) ∙ e
            ])
            (λ m i x h low here there p. (
              elim (cases_eq m P.place) [
                | inl z ↦
                    let n : w.first + P.place ≡ w.first + mate.place = mate.is in
                    let n' : mate.place ≡ P.place = omega arith in
                    let q : Some mate.other ≡ Some x = sym mate.there ∙ ap (place_at w.held) n' ∙ ap (place_at w.held) (sym z) ∙ there in
                    let same : mate.other ≡ x = cc in
                    let r : Some (w.first + 0) ≡ Some (w.first + i) = sym mate.back ∙ ap (λ (y : Held E). y.partner) same ∙ p in
                    let s : w.first + 0 ≡ w.first + i = cc in
                    absurd (omega arith)
                | inr z ↦ get_or-set_other w.held P.place m None None z ∙ there
              ],
              λ z.
                  let q : Some P.was ≡ Some x = sym P.held ∙ ap (place_at w.held) (sym z) ∙ there in
                  let same : P.was ≡ x = cc in
                  let r : Some (w.first + P.place) ≡ Some (w.first + i) = sym P.paired ∙ ap (λ (y : Held E). y.partner) same ∙ p in
                  let s : w.first + P.place ≡ w.first + i = cc in
                  let t : P.place ≡ i = omega arith in
                  none-some h (sym (get_or-set_same w.held P.place None None inside) ∙ ap (place_at rest) t ∙ here),
            ))
            P.left some T;
        room = omega arith;
        light = K.light;
        counted = omega arith;
        weighed = omega arith;
      };
    }

pub pop_facts : {E : Type 0} (view : E → EventView) (w : Seen E) (count weight : ℕ) (r : Released E) (mid new : List (Option (Held E))) (gone : ℕ) → Keeps view w count weight → is_ready view w ≡ true → Takes view w.first w.held r mid → Trims mid new gone →
    PopFacts view w count weight r new gone
pop_facts view w count weight r mid new gone K ready P T = elim P [
  | inl Q ↦ takes_one view w count weight r mid new gone K ready Q T
  | inr Q ↦ takes_pair view w count weight r mid new gone K ready Q T
]
