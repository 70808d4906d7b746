-- What the code of a push does is what a push does, and keeps what a window keeps.
use Rattle.std.proofs.Common.{◌≡◌, ℕ, ◌+◌, ◌<◌, ◌≤◌, ◌≢◌, ◌^◌, inl, inr, Bool, true, false, ◌&&◌, max, List, [], ◌∷◌, ◌++◌, length, set, cond, Option, Some, None, refl, ap, sym, ◌∙◌, subst, arith, length-set}
use Rattle.std.specs.Prelude.{is_some, is_none}
use Rattle.std.specs.List.{sum_by}
use Rattle.std.proofs.lemmas.Bool.{cases_lt, cases_eq, and_parts, true≢false}
use Rattle.std.proofs.lemmas.Option.{none-some}
use Rattle.std.proofs.lemmas.List.{length_push, get_or_append_left, get_or_push, get_or-set_same, get_or-set_other}
use Rattle.std.proofs.lemmas.List.Sums.{sum_by_push}
use Rattle.cd_pairing.specs.declared.keyed.TheConstants.{LEAST_WEIGHT}
use Rattle.cd_pairing.specs.Events.{EventView}
use Rattle.cd_pairing.specs.Pairing.{StampedEvent, may_pair}
use Rattle.cd_window.specs.declared.held.Held.{Held}
use Rattle.cd_window.specs.declared.stamps.Stamp.{Stamp}
use Rattle.cd_window.specs.Seen.{Seen, count_of, held_at, stamped, weight_held}
use Rattle.cd_window.specs.Pushes.{next_held, with_partner, NoneFitsBefore, IsPushed}
use Rattle.cd_window.specs.Keeping.{StampsRise, IsMated, Keeps}
use Rattle.cd_window.specs.Places.{with_stamp, place_at, place_fits, NothingFits, PutsPaired, PutsAlone, Puts}
use Rattle.cd_window.proofs.Counting.{same_sum}
use Rattle.cd_window.proofs.Popped.{place_within}
use Rattle.cd_window.proofs.Rising.{rises_push, rises_same}

-- what a push leaves of a window
abbrev pub grown : {E : Type 0} → Seen E → Stamp → List (Option (Held E)) → Seen E
grown w next new = record w { clock = next.clock; weight_sum = next.weight_sum; held = new }

-- the stamp of the next event
pub record IsNext {E : Type 0} (view : E → EventView) (w : Seen E) (e : E) (next : Stamp) : Type 0 where
  pub index : next.index ≡ count_of w
  pub clock : next.clock ≡ max w.clock (view e).time
  pub weight_sum : next.weight_sum ≡ w.weight_sum + (view e).weight

-- the next event with its stamp
next_is : {E : Type 0} (view : E → EventView) (w : Seen E) (e : E) (next : Stamp) → IsNext view w e next → with_stamp (view e) next ≡ stamped view (count_of w) (next_held view w e None)
next_is view w e next N =
    ap (λ (x : ℕ). let r : StampedEvent = record { view = view e; index = x; clock = next.clock; weight_sum = next.weight_sum } in r) N.index
    ∙ ap (λ (x : ℕ). let r : StampedEvent = record { view = view e; index = count_of w; clock = x; weight_sum = next.weight_sum } in r) N.clock
    ∙ ap (λ (x : ℕ). let r : StampedEvent = record { view = view e; index = count_of w; clock = max w.clock (view e).time; weight_sum = x } in r) N.weight_sum

-- the next event as it is held
held_is_next : {E : Type 0} (view : E → EventView) (w : Seen E) (e : E) (next : Stamp) (o : Option ℕ) → IsNext view w e next →
    ◌≡◌ {A = Held E} (record { event = e; clock = next.clock; weight_sum = next.weight_sum; partner = o }) (next_held view w e o)
held_is_next {E} view w e next o N =
    ap (λ (x : ℕ). let r : Held E = record { event = e; clock = x; weight_sum = next.weight_sum; partner = o } in r) N.clock
    ∙ ap (λ (x : ℕ). let r : Held E = record { event = e; clock = max w.clock (view e).time; weight_sum = x; partner = o } in r) N.weight_sum

pub none_is : {A : Type 0} (o : Option A) → is_none o ≡ true → o ≡ None
none_is None h = refl
none_is (Some x) h = absurd (true≢false (sym h))

fails_at : (o : Option ℕ) (b : Bool) → o ≡ None → (is_none o && b) ≡ false → b ≡ false
fails_at None b e h = h
fails_at (Some x) b e h = absurd (none-some x (sym e))

none_before : {E : Type 0} (view : E → EventView) (w : Seen E) (e : E) (next : Stamp) (limit : ℕ) → IsNext view w e next → NothingFits view w.windows w.first w.held (with_stamp (view e) next) limit → NoneFitsBefore view w e limit
none_before {E} view w e next limit N F = record {
  none = λ k h lt at free opens.
      let s : place_fits view w.windows (w.first + k) (Some h) (stamped view (count_of w) (next_held view w e None)) ≡ false =
      sym (ap (λ (o : Option (Held E)). place_fits view w.windows (w.first + k) o (stamped view (count_of w) (next_held view w e None))) at)
      ∙ sym (ap (place_fits view w.windows (w.first + k) (held_at w k)) (next_is view w e next N)) ∙ F.none k lt in
      fails_at h.partner (may_pair w.windows (stamped view (w.first + k) h) (stamped view (count_of w) (next_held view w e None))) free s;
}

-- what is shown of the code of a push
pub record PushFacts {E : Type 0} (view : E → EventView) (w : Seen E) (count weight : ℕ) (e : E) (next : Stamp) (new : List (Option (Held E))) : Type 0 where
  pub pushed : IsPushed view w e (grown w next new)
  pub keeps : Keeps view (grown w next new) (count + 1) (weight + (view e).weight)

push_trimmed : {E : Type 0} (hs : List (Option (Held E))) (x : Held E) → (place_at hs 0 ≡ None → hs ≡ []) → place_at (hs ++ Some x ∷ []) 0 ≡ None → hs ++ Some x ∷ [] ≡ []
push_trimmed [] x t h = absurd (none-some x (sym h))
push_trimmed (o ∷ hs) x t h = absurd (let l : length (o ∷ hs) ≡ 0 = ap length (t h) in omega arith)

set_trimmed : {E : Type 0} (hs : List (Option (Held E))) (k : ℕ) (x : Held E) → k < length hs → (place_at hs 0 ≡ None → hs ≡ []) → place_at (set hs k (Some x)) 0 ≡ None → set hs k (Some x) ≡ []
set_trimmed {E} hs k x lt t h = elim (cases_eq 0 k) [
  | inl z ↦ absurd (none-some x (sym h ∙ ap (place_at (set hs k (Some x))) z ∙ get_or-set_same hs k (Some x) None lt))
  | inr z ↦ absurd (let l : length hs ≡ 0 = ap length (t (sym (get_or-set_other hs k 0 (Some x) None z) ∙ h)) in omega arith)
]

mated_alone : {E : Type 0} (first : ℕ) (hs : List (Option (Held E))) (x : Held E) → ((k j : ℕ) (h : Held E) → place_at hs k ≡ Some h → h.partner ≡ Some j → IsMated first hs k j) → x.partner ≡ None →
    (k j : ℕ) (h : Held E) → place_at (hs ++ Some x ∷ []) k ≡ Some h → h.partner ≡ Some j → IsMated first (hs ++ Some x ∷ []) k j
mated_alone {E} first hs x M free k j h at p =
    let more : List (Option (Held E)) = hs ++ Some x ∷ [] in
    let inside : k < length more = place_within more k h at in
    let long : length more ≡ length hs + 1 = length_push hs (Some x) in
    elim (cases_lt k (length hs)) [
      | inl lt ↦
          let m = M k j h (sym (get_or_append_left hs (Some x ∷ []) None k lt) ∙ at) p in
          record { place = m.place; is = m.is; other = m.other; back = m.back; apart = m.apart; there = get_or_append_left hs (Some x ∷ []) None m.place (place_within hs m.place m.other m.there) ∙ m.there }
      | inr le ↦
          let last : length hs ≡ k = omega arith in
          let q : Some x ≡ Some h = sym (get_or_push hs (Some x) None k last) ∙ at in
          let same : x ≡ h = cc in
          absurd (none-some j (sym free ∙ ap (λ (y : Held E). y.partner) same ∙ p))
    ]

put_alone : {E : Type 0} (view : E → EventView) (w : Seen E) (count weight : ℕ) (e : E) (next : Stamp) (new : List (Option (Held E))) → Keeps view w count weight → IsNext view w e next → LEAST_WEIGHT ≤ (view e).weight →
    w.weight_sum + (view e).weight < 2 ^ 63 → PutsAlone view w.windows w.first w.held e next new → PushFacts view w count weight e next new
put_alone {E} view w count weight e next new K N heavy light P =
    let x : Held E = record { event = e; clock = next.clock; weight_sum = next.weight_sum; partner = None } in
    let back : w.held ++ Some x ∷ [] ≡ new = sym P.left in
    let nc = N.clock in
    let ns = N.weight_sum in
    let long : length new ≡ length w.held + 1 = ap length P.left ∙ length_push w.held (Some x) in
    let some : 1 ≤ LEAST_WEIGHT = omega arith in
    let room = K.room in
    let ones : Option (Held E) → ℕ = λ y. cond (is_some y) 1 0 in
    let sc : sum_by ones new ≡ sum_by ones w.held + 1 = ap (sum_by ones) P.left ∙ sum_by_push ones w.held (Some x) in
    let sw : sum_by (weight_held view) new ≡ sum_by (weight_held view) w.held + (view e).weight = ap (sum_by (weight_held view)) P.left ∙ sum_by_push (weight_held view) w.held (Some x) in
    record {
      pushed = record {
        windows = refl;
        finished = refl;
        first = refl;
        clock = N.clock;
        weight_sum = N.weight_sum;
        held = inr (record {
          none = none_before view w e next (length w.held) N P.none;
          new_is = P.left ∙ ap (λ (y : Held E). w.held ++ Some y ∷ []) (held_is_next view w e next None N);
        });
      };
      keeps = record {
        some = K.some;
        few = K.few;
        trimmed = subst (λ (xs : List (Option (Held E))). place_at xs 0 ≡ None → xs ≡ []) back (push_trimmed w.held x K.trimmed);
        rises = subst (λ (xs : List (Option (Held E))). StampsRise view 0 0 xs next.clock next.weight_sum) back (rises_push view 0 0 w.held w.clock w.weight_sum x (omega arith) (omega arith) K.rises);
        mated = subst (λ (xs : List (Option (Held E))). (k j : ℕ) (h : Held E) → place_at xs k ≡ Some h → h.partner ≡ Some j → IsMated w.first xs k j) back (mated_alone w.first w.held x K.mated refl);
        room = omega arith;
        light = omega arith;
        counted = let k = K.counted in let goal : count + 1 ≡ sum_by ones new = omega arith in goal;
        weighed = let k = K.weighed in let goal : weight + (view e).weight ≡ sum_by (weight_held view) new = omega arith in goal;
      };
    }

mated_paired : {E : Type 0} (first : ℕ) (hs : List (Option (Held E))) (place : ℕ) (was changed x : Held E) → ((k j : ℕ) (h : Held E) → place_at hs k ≡ Some h → h.partner ≡ Some j → IsMated first hs k j) →
    place_at hs place ≡ Some was → was.partner ≡ None → changed.partner ≡ Some (first + length hs) → x.partner ≡ Some (first + place) →
    (k j : ℕ) (h : Held E) → place_at (set hs place (Some changed) ++ Some x ∷ []) k ≡ Some h → h.partner ≡ Some j → IsMated first (set hs place (Some changed) ++ Some x ∷ []) k j
mated_paired {E} first hs place was changed x M there free pc px k j h at p =
    let xs : List (Option (Held E)) = set hs place (Some changed) in
    let more : List (Option (Held E)) = xs ++ Some x ∷ [] in
    let inside : k < length more = place_within more k h at in
    let long : length more ≡ length xs + 1 = length_push xs (Some x) in
    let lx : length xs ≡ length hs = length-set hs place (Some changed) in
    let lp : place < length hs = place_within hs place was there in
    let left : (i : ℕ) → i < length hs → place_at more i ≡ place_at xs i = λ i lt. get_or_append_left xs (Some x ∷ []) None i (omega arith) in
    let last : place_at more (length hs) ≡ Some x = get_or_push xs (Some x) None (length hs) lx in
    elim (cases_lt k (length hs)) [
      | inl lt ↦ elim (cases_eq k place) [
        | inl z ↦
            let q : Some changed ≡ Some h = sym (get_or-set_same hs place (Some changed) None lp) ∙ ap (place_at xs) (sym z) ∙ sym (left k lt) ∙ at in
            let same : changed ≡ h = cc in
            let r : Some (first + length hs) ≡ Some j = sym pc ∙ ap (λ (y : Held E). y.partner) same ∙ p in
            let s : first + length hs ≡ j = cc in
            record { place = length hs; is = sym s; other = x; there = last; back = px ∙ ap (λ (i : ℕ). Some (first + i)) (sym z); apart = λ y. omega arith }
        | inr z ↦
            let m = M k j h (sym (get_or-set_other hs place k (Some changed) None z) ∙ sym (left k lt) ∙ at) p in
            let ml : m.place < length hs = place_within hs m.place m.other m.there in
            let ne : m.place ≢ place = λ y.
            let q : Some m.other ≡ Some was = sym m.there ∙ ap (place_at hs) y ∙ there in
            let same : m.other ≡ was = cc in
            none-some (first + k) (sym free ∙ sym (ap (λ (u : Held E). u.partner) same) ∙ m.back) in
            record { place = m.place; is = m.is; other = m.other; back = m.back; apart = m.apart; there = left m.place ml ∙ get_or-set_other hs place m.place (Some changed) None ne ∙ m.there }
      ]
      | inr le ↦
          let z : length hs ≡ k = omega arith in
          let q : Some x ≡ Some h = sym last ∙ ap (place_at more) z ∙ at in
          let same : x ≡ h = cc in
          let r : Some (first + place) ≡ Some j = sym px ∙ ap (λ (y : Held E). y.partner) same ∙ p in
          let s : first + place ≡ j = cc in
          record { place = place; is = sym s; other = changed; there = left place lp ∙ get_or-set_same hs place (Some changed) None lp; back = pc ∙ ap (λ (i : ℕ). Some (first + i)) z; apart = λ y. omega arith }
    ]

put_paired : {E : Type 0} (view : E → EventView) (w : Seen E) (count weight : ℕ) (e : E) (next : Stamp) (new : List (Option (Held E))) → Keeps view w count weight → IsNext view w e next → LEAST_WEIGHT ≤ (view e).weight →
    w.weight_sum + (view e).weight < 2 ^ 63 → PutsPaired view w.windows w.first w.held e next new → PushFacts view w count weight e next new
put_paired {E} view w count weight e next new K N heavy light P =
    let i : ℕ = w.first + P.place in
    let changed : Held E = with_partner P.was next.index in
    let xs : List (Option (Held E)) = set w.held P.place (Some changed) in
    let x : Held E = record { event = e; clock = next.clock; weight_sum = next.weight_sum; partner = Some i } in
    let back : xs ++ Some x ∷ [] ≡ new = sym P.left in
    let inside : P.place < length w.held = P.fits.within in
    let nc = N.clock in
    let ns = N.weight_sum in
    let ni = N.index in
    let lx : length xs ≡ length w.held = length-set w.held P.place (Some changed) in
    let long : length new ≡ length w.held + 1 = ap length P.left ∙ length_push xs (Some x) ∙ ap (λ (n : ℕ). n + 1) lx in
    let some : 1 ≤ LEAST_WEIGHT = omega arith in
    let room = K.room in
    let parts = and_parts _ _ (sym (ap (λ (o : Option (Held E)). place_fits view w.windows i o (with_stamp (view e) next)) P.there) ∙ P.fits.fits) in
    let free : P.was.partner ≡ None = none_is P.was.partner parts.0 in
    let ones : Option (Held E) → ℕ = λ y. cond (is_some y) 1 0 in
    let sc : sum_by ones new ≡ sum_by ones w.held + 1 = ap (sum_by ones) P.left ∙ sum_by_push ones xs (Some x) ∙ ap (λ (n : ℕ). n + 1) (same_sum ones w.held P.place (Some changed) None inside (sym (ap ones P.there))) in
    let sw : sum_by (weight_held view) new ≡ sum_by (weight_held view) w.held + (view e).weight = ap (sum_by (weight_held view)) P.left ∙ sum_by_push (weight_held view) xs (Some x)
    ∙ ap (λ (n : ℕ). n + (view e).weight) (same_sum (weight_held view) w.held P.place (Some changed) None inside (sym (ap (weight_held view) P.there))) in
    record {
      pushed = record {
        windows = refl;
        finished = refl;
        first = refl;
        clock = N.clock;
        weight_sum = N.weight_sum;
        held = inl (record {
          place = P.place;
          was = P.was;
          within = inside;
          held = P.there;
          free = free;
          fits = sym (ap (may_pair w.windows (stamped view i P.was)) (next_is view w e next N)) ∙ parts.1;
          earlier = none_before view w e next P.place N P.fits.earlier;
          new_is = P.left ∙ ap (λ (y : Held E). xs ++ Some y ∷ []) (held_is_next view w e next (Some i) N)
              ∙ ap (λ (n : ℕ). set w.held P.place (Some (with_partner P.was n)) ++ Some (next_held view w e (Some i)) ∷ []) N.index;
        });
      };
      keeps = record {
        some = K.some;
        few = K.few;
        trimmed = subst (λ (ys : List (Option (Held E))). place_at ys 0 ≡ None → ys ≡ []) back (push_trimmed xs x (set_trimmed w.held P.place changed inside K.trimmed));
        rises = subst (λ (ys : List (Option (Held E))). StampsRise view 0 0 ys next.clock next.weight_sum) back
            (rises_push view 0 0 xs w.clock w.weight_sum x (omega arith) (omega arith) (rises_same view P.place 0 0 w.held w.clock w.weight_sum P.was changed P.there refl refl refl K.rises));
        mated = subst (λ (ys : List (Option (Held E))). (k j : ℕ) (h : Held E) → place_at ys k ≡ Some h → h.partner ≡ Some j → IsMated w.first ys k j) back
            (mated_paired w.first w.held P.place P.was changed x K.mated P.there free (ap (λ (n : ℕ). Some n) N.index) refl);
        room = omega arith;
        light = omega arith;
        counted = let k = K.counted in let goal : count + 1 ≡ sum_by ones new = omega arith in goal;
        weighed = let k = K.weighed in let goal : weight + (view e).weight ≡ sum_by (weight_held view) new = omega arith in goal;
      };
    }

pub push_facts : {E : Type 0} (view : E → EventView) (w : Seen E) (count weight : ℕ) (e : E) (next : Stamp) (new : List (Option (Held E))) → Keeps view w count weight → IsNext view w e next → LEAST_WEIGHT ≤ (view e).weight →
    w.weight_sum + (view e).weight < 2 ^ 63 → Puts view w.windows w.first w.held e next new → PushFacts view w count weight e next new
push_facts view w count weight e next new K N heavy light P = elim P [
  | inl Q ↦ put_paired view w count weight e next new K N heavy light Q
  | inr Q ↦ put_alone view w count weight e next new K N heavy light Q
]
