-- What a window stands for after a pop.
use Rattle.std.proofs.Common.{◌≡◌, ℕ, zero, suc, ◌+◌, ◌<◌, ◌≤◌, inl, inr, true, false, List, [], ◌∷◌, ◌++◌, length, drop, map, set, get_or, Option, Some, None, refl, ap, sym, ◌∙◌, subst, arith, length-drop}
use Rattle.std.specs.Prelude.{slice_get}
use Rattle.std.proofs.lemmas.Bool.{cases_lt, true≢false}
use Rattle.std.proofs.lemmas.Option.{none-some}
use Rattle.std.proofs.lemmas.List.{get_or-drop, get_or_past, drop-drop, append-nil}
use Rattle.cd_pairing.specs.declared.keyed.Side.{Side}
use Rattle.cd_pairing.specs.declared.keyed.Side.TheVariants.{Query, Response, Neither}
use Rattle.cd_pairing.specs.Events.{EventView, event_at, are_opposite}
use Rattle.cd_pairing.specs.Pairing.{StampedEvent}
use Rattle.cd_pairing.specs.Matching.{partner}
use Rattle.cd_pairing.specs.Settling.{is_settled}
use Rattle.cd_pairing.specs.Records.{pair}
use Rattle.cd_pairing.proofs.OpenWindows.{compatible_parts}
use Rattle.cd_window.specs.declared.released.Released.{Released}
use Rattle.cd_window.specs.declared.released.Released.TheVariants.{One}
use Rattle.cd_window.specs.declared.held.Held.{Held}
use Rattle.cd_window.specs.Seen.{Seen, held_at, is_ready, is_front_ready}
use Rattle.cd_window.specs.Pops.{IsLeft, in_order, PopsOne, PopsPair}
use Rattle.cd_window.specs.History.{IsRecord, StandsFor, events_in, weight_in}
use Rattle.cd_window.specs.Laws.{PopsStand}
use Rattle.cd_window.proofs.Pushing.{held_is, held_stamp}
use Rattle.cd_window.proofs.Ready.{front_settled}
use Rattle.cd_window.proofs.Telling.{moved, skips, tells_one, tells_pair}

-- what is held at a place is within
pub place_within : {X : Type 0} (xs : List (Option X)) (k : ℕ) (x : X) → get_or xs k None ≡ Some x → k < length xs
place_within xs k x e = elim (cases_lt k (length xs)) [
  | inl h ↦ h
  | inr h ↦ absurd (none-some x (sym (get_or_past xs k None h) ∙ e))
]

-- without empty places in front
pub skips_all : {E : Type 0} (view : E → EventView) (n : ℕ) (w : Seen E) (f : ℕ) (hs : List (Option (Held E))) (pushed : List E) (popped : List (Released E)) → StandsFor view w pushed popped → n ≤ length w.held →
    ((k : ℕ) → k < n → held_at w k ≡ None) → f ≡ w.first + n → hs ≡ drop n w.held → StandsFor view (record w { first = f; held = hs }) pushed popped
skips_all {E} view zero w f hs pushed popped S le empty ef eh =
    let e : w.first ≡ f = omega arith in
    subst (λ (x : ℕ). StandsFor view (record w { first = x; held = hs }) pushed popped) e
    (subst (λ (xs : List (Option (Held E))). StandsFor view (record w { first = w.first; held = xs }) pushed popped) (sym eh) S)
skips_all {E} view (suc n) w f hs pushed popped S le empty ef eh =
    let one : suc n ≡ 1 + n = omega arith in
    let ld = length-drop 1 w.held in
    skips_all view n (moved w w.held) f hs pushed popped (skips view w pushed popped S (omega arith) (empty 0 (omega arith))) (omega arith)
    (λ k lt. get_or-drop 1 w.held k None ∙ empty (1 + k) (omega arith)) (omega arith)
    (eh ∙ ap (λ (m : ℕ). drop m w.held) one ∙ sym (drop-drop n 1 w.held))

-- what is left when the front has gone
pub leaves : {E : Type 0} (view : E → EventView) (w : Seen E) (rest : List (Option (Held E))) (new : Seen E) (pushed : List E) (popped : List (Released E)) → StandsFor view (moved w rest) pushed popped → IsLeft w rest new → StandsFor view new pushed popped
leaves {E} view w rest new pushed popped T L =
    let s : ℕ = L.skipped in
    let inside : s < length rest = L.within in
    let ld = length-drop 1 rest in
    subst (λ (x : Seen E). StandsFor view x pushed popped) (sym L.new_is)
    (skips_all view s (moved w rest) (w.first + (1 + s)) (drop (1 + s) rest) pushed popped T (omega arith)
    (λ k lt. get_or-drop 1 rest k None ∙ L.empty (1 + k) (omega arith) (omega arith)) (omega arith) (sym (drop-drop s 1 rest)))

-- what is ready is settled
ready_settled : {E : Type 0} (view : E → EventView) (w : Seen E) (pushed : List E) (popped : List (Released E)) (S : StandsFor view w pushed popped) (h : Held E) → 0 < length w.held → held_at w 0 ≡ Some h → is_ready view w ≡ true →
    w.finished ≡ false → is_settled w.windows (map view pushed) S.partners w.first ≡ true
ready_settled {E} view w pushed popped S h lt e ready going =
    let z : w.first + 0 ≡ w.first = omega arith in
    subst (λ (i : ℕ). is_settled w.windows (map view pushed) S.partners i ≡ true) z
    (sym (front_settled view w pushed popped S going h lt e) ∙ sym (ap (is_front_ready view w) e) ∙ ready)

-- what a query or a response is paired with
opposes_neither : (x : Side) → are_opposite Neither x ≡ true → ⊥
opposes_neither Query h = true≢false (sym h)
opposes_neither Response h = true≢false (sym h)
opposes_neither Neither h = true≢false (sym h)

opposes_response : (x : Side) → are_opposite Response x ≡ true → x ≡ Query
opposes_response Query h = refl
opposes_response Response h = absurd (true≢false (sym h))
opposes_response Neither h = absurd (true≢false (sym h))

-- a pair is told in the order of its sides
pair_told : {E : Type 0} (view : E → EventView) (pushed : List E) (side : Side) (lead j : ℕ) (one other : E) → (view one).side ≡ side → are_opposite side (view other).side ≡ true →
    slice_get pushed lead ≡ Some one → slice_get pushed j ≡ Some other → IsRecord view pushed (pair lead j) (in_order side lead one other)
pair_told view pushed Query lead j one other s o a b = (refl, inl (record { is_query = s; query_at = a; response_at = b }))
pair_told view pushed Response lead j one other s o a b = (refl, inr (record { is_query = opposes_response (view other).side o; query_at = b; response_at = a }))
pair_told view pushed Neither lead j one other s o a b = absurd (opposes_neither (view other).side o)

pub in_order_two : {E : Type 0} (side : Side) (lead : ℕ) (one other : E) → events_in (in_order side lead one other) ≡ 2
in_order_two Query lead one other = refl
in_order_two Response lead one other = refl
in_order_two Neither lead one other = refl

pub in_order_weight : {E : Type 0} (view : E → EventView) (side : Side) (lead : ℕ) (one other : E) → weight_in view (in_order side lead one other) ≡ (view one).weight + (view other).weight
in_order_weight view Query lead one other = refl
in_order_weight view Response lead one other = omega arith
in_order_weight view Neither lead one other = refl

popped_one : {E : Type 0} (view : E → EventView) (w : Seen E) (r : Released E) (new : Seen E) (pushed : List E) (popped : List (Released E)) → StandsFor view w pushed popped → is_ready view w ≡ true → PopsOne w r new → StandsFor view new pushed (popped ++ r ∷ [])
popped_one {E} view w r new pushed popped S ready P =
    let some : 0 < length w.held = place_within w.held 0 P.was P.held in
    subst (λ (y : Released E). StandsFor view new pushed (popped ++ y ∷ [])) (sym P.result_is)
    (leaves view w w.held new pushed (popped ++ One w.first P.was.event ∷ [])
    (tells_one view w P.was pushed popped S some P.held P.free (ready_settled view w pushed popped S P.was some P.held ready)) P.left)

popped_pair : {E : Type 0} (view : E → EventView) (w : Seen E) (r : Released E) (new : Seen E) (pushed : List E) (popped : List (Released E)) → StandsFor view w pushed popped → PopsPair view w r new → StandsFor view new pushed (popped ++ r ∷ [])
popped_pair {E} view w r new pushed popped S P =
    let events : List EventView = map view pushed in
    let p : List (Option ℕ) = S.partners in
    let j : ℕ = w.first + P.place in
    let z : w.first + 0 ≡ w.first = omega arith in
    let some : 0 < length w.held = place_within w.held 0 P.was P.held in
    let inside : P.place < length w.held = place_within w.held P.place P.other P.other_held in
    let H = held_is view w pushed popped S 0 P.was some P.held in
    let G = held_is view w pushed popped S P.place P.other inside P.other_held in
    let at : partner p w.first ≡ Some j = ap (partner p) (sym z) ∙ sym H.partner ∙ P.paired in
    let later : w.first < j = elim (cases_lt w.first j) [
      | inl x ↦ x
      | inr x ↦ let e : j ≡ w.first = omega arith in absurd (S.pairing.apart w.first (at ∙ ap (λ (y : ℕ). Some y) e))
    ] in
    let opp = (compatible_parts w.windows events w.first j (S.pairing.compatible w.first j later at)).sides in
    let v : (view P.was.event).side ≡ (event_at events w.first).side = ap (λ (s : StampedEvent). s.view.side) (held_stamp view pushed p w.first (w.first + 0) P.was H) ∙ ap (λ (i : ℕ). (event_at events i).side) z in
    let u : (view P.other.event).side ≡ (event_at events j).side = ap (λ (s : StampedEvent). s.view.side) (held_stamp view pushed p w.first j P.other G) in
    let sides : are_opposite (view P.was.event).side (view P.other.event).side ≡ true = ap (λ (s : Side). are_opposite s (view P.other.event).side) v ∙ ap (are_opposite (event_at events w.first).side) u ∙ opp in
    let told : Released E = in_order (view P.was.event).side w.first P.was.event P.other.event in
    let is : IsRecord view pushed (pair w.first j) told = pair_told view pushed (view P.was.event).side w.first j P.was.event P.other.event refl sides (subst (λ (i : ℕ). slice_get pushed i ≡ Some P.was.event) z H.event) G.event in
    subst (λ (y : Released E). StandsFor view new pushed (popped ++ y ∷ [])) (sym P.result_is)
    (leaves view w (set w.held P.place None) new pushed (popped ++ told ∷ [])
    (tells_pair view w P.was P.other P.place told pushed popped S some inside P.held P.other_held P.paired is (in_order_two (view P.was.event).side w.first P.was.event P.other.event)
    (in_order_weight view (view P.was.event).side w.first P.was.event P.other.event)) P.left)

pub popped_stands : {E : Type 0} (view : E → EventView) → PopsStand view
popped_stands {E} view w None new pushed popped S P = subst (λ (xs : List (Released E)). StandsFor view new pushed xs) (sym (append-nil popped)) (subst (λ (x : Seen E). StandsFor view x pushed popped) (sym P.1) S)
popped_stands {E} view w (Some r) new pushed popped S P = elim P.1 [
  | inl Q ↦ popped_one view w r new pushed popped S P.0 Q
  | inr Q ↦ popped_pair view w r new pushed popped S Q
]
