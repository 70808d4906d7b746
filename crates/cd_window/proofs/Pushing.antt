-- What a window stands for after a push.
use Rattle.std.proofs.Common.{◌≡◌, ℕ, zero, suc, ◌+◌, ◌-◌, ◌<◌, ◌≤◌, inl, inr, Bool, true, false, not, ◌&&◌, ◌||◌, leb, ltb, max, List, [], ◌∷◌, ◌++◌, length, take, map, set, get_or, cond, Option, Some, None, refl, ap, sym, ◌∙◌, subst, arith, length-set}
use Rattle.std.specs.Prelude.{slice_get, is_some}
use Rattle.std.specs.List.{fold, sum_by}
use Rattle.std.proofs.lemmas.Bool.{cases_lt, cases_eq, cases_Bool, true≢false}
use Rattle.std.proofs.lemmas.Option.{none-some, get_or_from_slice_get, slice_get_within}
use Rattle.std.proofs.lemmas.List.{length-map, length_push, map-append, take_all, take-append-le, take-set-le, get_or-map, get_or_append_left, get_or_push, get_or-set_same, get_or-set_other}
use Rattle.std.proofs.lemmas.List.Sums.{fold-append, sum_by_push}
use Rattle.cd_pairing.specs.declared.keyed.TheConstants.{LEAST_WEIGHT}
use Rattle.cd_pairing.specs.declared.keyed.Side.{Side}
use Rattle.cd_pairing.specs.declared.keyed.Side.TheVariants.{Query, Response, Neither}
use Rattle.cd_pairing.specs.declared.keyed.Windows.{Windows}
use Rattle.cd_pairing.specs.Events.{EventView, event_at, clock, weight_sum, no_event, are_opposite}
use Rattle.cd_pairing.specs.Matching.{partner}
use Rattle.cd_pairing.specs.Pairing.{StampedEvent, stamped_event, timeout, may_pair, are_compatible, IsPairing}
use Rattle.cd_pairing.specs.Settling.{is_neither, is_settled, is_window_open, AreHeavy, IsEarliestOpen}
use Rattle.cd_pairing.specs.Records.{Record, pair, single, records}
use Rattle.cd_pairing.proofs.Growing.{stamped-append}
use Rattle.cd_pairing.proofs.Joining.{joined, lookup_alone, at_last, at_joined, at_other}
use Rattle.cd_pairing.proofs.OpenWindows.{compatible_parts, grows_by_open}
use Rattle.cd_pairing.proofs.Settling.{settled_grows}
use Rattle.cd_window.specs.declared.released.Released.{Released}
use Rattle.cd_window.specs.declared.released.Released.TheVariants.{Pair, One}
use Rattle.cd_window.specs.declared.held.Held.{Held}
use Rattle.cd_window.specs.Seen.{Seen, count_of, held_at, is_open, stamped, weight_held}
use Rattle.cd_window.specs.Pushes.{next_held, fits_next, NoneFitsBefore, JoinsAt, StaysAlone, IsPushed}
use Rattle.cd_window.specs.History.{ArePushed, IsRecord, AreRecords, IsHeld, HoldsAt, StandsFor, events_in, weight_in}
use Rattle.cd_window.specs.Laws.{PushesStand}
use Rattle.cd_window.proofs.Counting.{same_sum}

-- what was pushed stays where it is
pub get_more : {E : Type 0} (xs ys : List E) (i : ℕ) (x : E) → slice_get xs i ≡ Some x → slice_get (xs ++ ys) i ≡ Some x
get_more [] ys i x h = absurd (none-some x h)
get_more (y ∷ xs) ys zero x h = h
get_more (y ∷ xs) ys (suc i) x h = get_more xs ys i x h

pub get_last : {E : Type 0} (xs : List E) (e : E) → slice_get (xs ++ e ∷ []) (length xs) ≡ Some e
get_last [] e = refl
get_last (y ∷ xs) e = get_last xs e

more_pushed : {E : Type 0} (view : E → EventView) (pushed more : List E) (i j : ℕ) (q r : E) → ArePushed view pushed i j q r → ArePushed view (pushed ++ more) i j q r
more_pushed view pushed more i j q r A = record { is_query = A.is_query; query_at = get_more pushed more i q A.query_at; response_at = get_more pushed more j r A.response_at }

still_told : {E : Type 0} (view : E → EventView) (pushed more : List E) (r : Record) (x : Released E) → IsRecord view pushed r x → IsRecord view (pushed ++ more) r x
still_told view pushed more (pair i j) (Pair lead q a) h = (
  h.0,
  elim h.1 [
    | inl p ↦ inl (more_pushed view pushed more i j q a p)
    | inr p ↦ inr (more_pushed view pushed more j i q a p)
  ],
)
still_told view pushed more (single i) (One lead e) h = (h.0, get_more pushed more i e h.1)
still_told view pushed more (pair i j) (One lead e) h = h
still_told view pushed more (single i) (Pair lead q a) h = h

pub all_still_told : {E : Type 0} (view : E → EventView) (pushed more : List E) (rs : List Record) (xs : List (Released E)) → AreRecords view pushed rs xs → AreRecords view (pushed ++ more) rs xs
all_still_told view pushed more [] [] h = h
all_still_told view pushed more (r ∷ rs) (x ∷ xs) h = (still_told view pushed more r x h.0, all_still_told view pushed more rs xs h.1)
all_still_told view pushed more [] (x ∷ xs) h = h
all_still_told view pushed more (r ∷ rs) [] h = h

sum_last : (events : List EventView) (e : EventView) → sum_by (λ x. x.weight) (events ++ e ∷ []) ≡ sum_by (λ x. x.weight) events + e.weight
sum_last events e = fold-append (λ (a : ℕ) (x : EventView). a + x.weight) 0 events (e ∷ [])

-- the event that comes next, with its stamp
stamp_next : (events : List EventView) (e : EventView) → ◌≡◌ {A = StampedEvent} (record { view = e; index = length events; clock = max (fold (λ latest x. max latest x.time) 0 events) e.time; weight_sum = sum_by (λ x. x.weight) events + e.weight }) (stamped_event (events ++ e ∷ []) (length events))
stamp_next events e =
    let all : List EventView = events ++ e ∷ [] in
    let n : ℕ = length events in
    let whole : take (n + 1) all ≡ all = take_all (n + 1) all (let l = length_push events e in omega arith) in
    let c : max (fold (λ latest x. max latest x.time) 0 events) e.time ≡ clock all n = sym (ap (λ (xs : List EventView). fold (λ latest x. max latest x.time) 0 xs) whole ∙ fold-append (λ (latest : ℕ) (x : EventView). max latest x.time) 0 events (e ∷ [])) in
    let s : sum_by (λ x. x.weight) events + e.weight ≡ weight_sum all n = sym (ap (λ (xs : List EventView). sum_by (λ x. x.weight) xs) whole ∙ sum_last events e) in
    let v : e ≡ event_at all n = sym (get_or_push events e no_event n refl) in
    ap (λ (x : ℕ). let r : StampedEvent = record { view = e; index = n; clock = x; weight_sum = sum_by (λ x. x.weight) events + e.weight } in r) c
    ∙ ap (λ (x : ℕ). let r : StampedEvent = record { view = e; index = n; clock = clock all n; weight_sum = x } in r) s
    ∙ ap (λ (x : EventView). let r : StampedEvent = record { view = x; index = n; clock = clock all n; weight_sum = weight_sum all n } in r) v

-- what is held, as the pairing sees it
pub held_stamp : {E : Type 0} (view : E → EventView) (pushed : List E) (p : List (Option ℕ)) (first i : ℕ) (h : Held E) → IsHeld view pushed p first i h → stamped view i h ≡ stamped_event (map view pushed) i
held_stamp {E} view pushed p first i h H =
    let events : List EventView = map view pushed in
    let within : i < length pushed = slice_get_within pushed i h.event H.event in
    let v : view h.event ≡ event_at events i = sym (get_or-map view pushed i h.event no_event within ∙ ap view (get_or_from_slice_get pushed i h.event h.event H.event)) in
    ap (λ (x : EventView). let r : StampedEvent = record { view = x; index = i; clock = h.clock; weight_sum = h.weight_sum } in r) v
    ∙ ap (λ (x : ℕ). let r : StampedEvent = record { view = event_at events i; index = i; clock = x; weight_sum = h.weight_sum } in r) H.clock
    ∙ ap (λ (x : ℕ). let r : StampedEvent = record { view = event_at events i; index = i; clock = clock events i; weight_sum = x } in r) H.weight_sum

pub held_is : {E : Type 0} (view : E → EventView) (w : Seen E) (pushed : List E) (popped : List (Released E)) (S : StandsFor view w pushed popped) (k : ℕ) (h : Held E) → k < length w.held → held_at w k ≡ Some h →
    IsHeld view pushed S.partners w.first (w.first + k) h
held_is {E} view w pushed popped S k h lt e = subst (λ (o : Option (Held E)). HoldsAt view pushed S.partners w.first (w.first + k) o) e (S.held k lt)

-- whether a window is open
pub open_is : {E : Type 0} (view : E → EventView) (w : Seen E) (pushed : List E) (popped : List (Released E)) (S : StandsFor view w pushed popped) (k : ℕ) (h : Held E) → k < length w.held → held_at w k ≡ Some h →
    is_open view w k h ≡ is_window_open w.windows (map view pushed) (w.first + k)
unfolding is_window_open
open_is {E} view w pushed popped S k h lt e =
    let events : List EventView = map view pushed in
    let i : ℕ = w.first + k in
    let st = held_stamp view pushed S.partners w.first i h (held_is view w pushed popped S k h lt e) in
    let n : count_of w ≡ length events = S.count ∙ sym (length-map pushed view) in
    let whole : take (length events - 1 + 1) events ≡ events = take_all (length events - 1 + 1) events (omega arith) in
    let c : w.clock ≡ clock events (length events - 1) = S.clock ∙ sym (ap (λ (xs : List EventView). fold (λ latest x. max latest x.time) 0 xs) whole) in
    let s : w.weight_sum ≡ weight_sum events (length events - 1) = S.weight_sum ∙ sym (ap (λ (xs : List EventView). sum_by (λ x. x.weight) xs) whole) in
    let F : ℕ → ℕ → ℕ → StampedEvent → Bool = λ m cl su x. ltb (m - i) w.windows.count && leb (cl - x.clock) (timeout w.windows x.view.side) && leb (su - x.weight_sum + x.view.weight + LEAST_WEIGHT) w.windows.bytes in
    ap (λ (m : ℕ). F m w.clock w.weight_sum (stamped view i h)) n ∙ ap (λ (x : ℕ). F (length events) x w.weight_sum (stamped view i h)) c
    ∙ ap (λ (x : ℕ). F (length events) (clock events (length events - 1)) x (stamped view i h)) s ∙ ap (λ (x : StampedEvent). F (length events) (clock events (length events - 1)) (weight_sum events (length events - 1)) x) st

-- whether what is held fits what comes next
fits_is : {E : Type 0} (view : E → EventView) (w : Seen E) (e : E) (pushed : List E) (popped : List (Released E)) (S : StandsFor view w pushed popped) (k : ℕ) (h : Held E) → k < length w.held → held_at w k ≡ Some h →
    fits_next view w e k h ≡ are_compatible w.windows (map view pushed ++ view e ∷ []) (w.first + k) (length (map view pushed))
unfolding are_compatible
fits_is {E} view w e pushed popped S k h lt q =
    let events : List EventView = map view pushed in
    let n : count_of w ≡ length events = S.count ∙ sym (length-map pushed view) in
    let one = held_stamp view pushed S.partners w.first (w.first + k) h (held_is view w pushed popped S k h lt q) ∙ sym (stamped-append events (view e ∷ []) (w.first + k) (omega arith)) in
    let next : stamped view (count_of w) (next_held view w e None) ≡ stamped_event (events ++ view e ∷ []) (length events) =
    ap (λ (x : ℕ). let r : StampedEvent = record { view = view e; index = x; clock = max w.clock (view e).time; weight_sum = w.weight_sum + (view e).weight } in r) n
    ∙ ap (λ (x : ℕ). let r : StampedEvent = record { view = view e; index = length events; clock = max x (view e).time; weight_sum = w.weight_sum + (view e).weight } in r) S.clock
    ∙ ap (λ (x : ℕ). let r : StampedEvent = record { view = view e; index = length events; clock = max (fold (λ latest y. max latest y.time) 0 events) (view e).time; weight_sum = x + (view e).weight } in r) S.weight_sum
    ∙ stamp_next events (view e) in
    ap (λ (x : StampedEvent). may_pair w.windows x (stamped view (count_of w) (next_held view w e None))) one ∙ ap (λ (x : StampedEvent). may_pair w.windows (stamped_event (events ++ view e ∷ []) (w.first + k)) x) next

neither_opposes : (a b : Side) → is_neither a ≡ true → are_opposite a b ≡ false
neither_opposes Query b h = absurd (true≢false (sym h))
neither_opposes Response b h = absurd (true≢false (sym h))
neither_opposes Neither Query h = refl
neither_opposes Neither Response h = refl
neither_opposes Neither Neither h = refl

settled_neither : (a : Bool) (o : Option ℕ) (w : Bool) → (a || is_some o || not w) ≡ true → o ≡ None → w ≡ true → a ≡ true
settled_neither true o w h e f = refl
settled_neither false o w h e f = absurd (true≢false (sym h ∙ ap (λ (x : Option ℕ). is_some x || not w) e ∙ ap not f))

held_before : {E : Type 0} (view : E → EventView) (w : Seen E) (e : E) (pushed : List E) (popped : List (Released E)) (S : StandsFor view w pushed popped) (limit : ℕ) → limit ≤ length w.held → NoneFitsBefore view w e limit →
    (m k : ℕ) → w.first + k ≡ m → k < limit → partner S.partners m ≡ None → is_window_open w.windows (map view pushed) m ≡ true → (o : Option (Held E)) → held_at w k ≡ o → are_compatible w.windows (map view pushed ++ view e ∷ []) m (length (map view pushed)) ≡ false
held_before {E} view w e pushed popped S limit le N m k place lt free opens None q =
    let was = subst (λ (o : Option (Held E)). HoldsAt view pushed S.partners w.first (w.first + k) o) q (S.held k (omega arith)) in
    absurd (none-some was.0 (sym free ∙ ap (partner S.partners) (sym place) ∙ was.2))
held_before {E} view w e pushed popped S limit le N m k place lt free opens (Some h) q =
    let inside : k < length w.held = omega arith in
    let H = held_is view w pushed popped S k h inside q in
    let alone : h.partner ≡ None = H.partner ∙ ap (partner S.partners) place ∙ free in
    let opened : is_open view w k h ≡ true = open_is view w pushed popped S k h inside q ∙ ap (is_window_open w.windows (map view pushed)) place ∙ opens in
    ap (λ (x : ℕ). are_compatible w.windows (map view pushed ++ view e ∷ []) x (length (map view pushed))) (sym place) ∙ sym (fits_is view w e pushed popped S k h inside q) ∙ N.none k h lt q alone opened

-- nothing before this place that is unpaired and whose window is open is compatible with what comes
none_before : {E : Type 0} (view : E → EventView) (w : Seen E) (e : E) (pushed : List E) (popped : List (Released E)) (S : StandsFor view w pushed popped) → w.finished ≡ false → (limit : ℕ) → limit ≤ length w.held → NoneFitsBefore view w e limit →
    (m : ℕ) → m < w.first + limit → partner S.partners m ≡ None → is_window_open w.windows (map view pushed) m ≡ true → are_compatible w.windows (map view pushed ++ view e ∷ []) m (length (map view pushed)) ≡ false
none_before {E} view w e pushed popped S going limit le N m lt free opens =
    let events : List EventView = map view pushed in
    let all : List EventView = events ++ view e ∷ [] in
    let n : count_of w ≡ length events = S.count ∙ sym (length-map pushed view) in
    elim (cases_lt m w.first) [
      | inl told ↦ elim (cases_Bool (are_compatible w.windows all m (length events))) [
        | inr x ↦ x
        | inl x ↦
            let alone : is_neither (event_at events m).side ≡ true = settled_neither _ (partner S.partners m) _ (S.settled going m told) free opens in
            let same : event_at all m ≡ event_at events m = ap (λ (y : StampedEvent). y.view) (stamped-append events (view e ∷ []) m (omega arith)) in
            absurd (true≢false (sym (compatible_parts w.windows all m (length events) x).sides ∙ neither_opposes (event_at all m).side (event_at all (length events)).side (ap (λ (y : EventView). is_neither y.side) same ∙ alone)))
      ]
      | inr after ↦
          let k : ℕ = m - w.first in
          let place : w.first + k ≡ m = omega arith in
          held_before view w e pushed popped S limit le N m k place (omega arith) free opens (held_at w k) refl
    ]

-- what is held of an event stays so, where its partner stays
stays_held : {E : Type 0} (view : E → EventView) (pushed : List E) (e : E) (p q : List (Option ℕ)) (first i : ℕ) (o : Option (Held E)) → i < length pushed → partner q i ≡ partner p i → HoldsAt view pushed p first i o → HoldsAt view (pushed ++ e ∷ []) q first i o
stays_held view pushed e p q first i None lt same h = (h.0, h.1, same ∙ h.2)
stays_held view pushed e p q first i (Some x) lt same h =
    let events : List EventView = map view pushed in
    let grown : stamped_event events i ≡ stamped_event (map view (pushed ++ e ∷ [])) i = sym (stamped-append events (view e ∷ []) i (rw length-map lt)) ∙ ap (λ (xs : List EventView). stamped_event xs i) (sym (map-append view pushed (e ∷ []))) in
    record {
      event = get_more pushed (e ∷ []) i x.event h.event;
      clock = h.clock ∙ ap (λ (s : StampedEvent). s.clock) grown;
      weight_sum = h.weight_sum ∙ ap (λ (s : StampedEvent). s.weight_sum) grown;
      partner = h.partner ∙ sym same;
      unpopped = h.unpopped;
    }

-- what comes is held
new_held : {E : Type 0} (view : E → EventView) (w : Seen E) (e : E) (pushed : List E) (popped : List (Released E)) (S : StandsFor view w pushed popped) (q : List (Option ℕ)) (o : Option ℕ) → partner q (length pushed) ≡ o → ((j : ℕ) → o ≡ Some j → w.first ≤ j) →
    IsHeld view (pushed ++ e ∷ []) q w.first (length pushed) (next_held view w e o)
new_held {E} view w e pushed popped S q o at unpopped =
    let events : List EventView = map view pushed in
    let long : length events ≡ length pushed = length-map pushed view in
    let all : events ++ view e ∷ [] ≡ map view (pushed ++ e ∷ []) = sym (map-append view pushed (e ∷ [])) in
    let st = stamp_next events (view e) ∙ ap (λ (xs : List EventView). stamped_event xs (length events)) all ∙ ap (stamped_event (map view (pushed ++ e ∷ []))) long in
    record {
      event = get_last pushed e;
      clock = ap (λ (x : ℕ). max x (view e).time) S.clock ∙ ap (λ (s : StampedEvent). s.clock) st;
      weight_sum = ap (λ (x : ℕ). x + (view e).weight) S.weight_sum ∙ ap (λ (s : StampedEvent). s.weight_sum) st;
      partner = sym at;
      unpopped = unpopped;
    }

heavy_more : (events : List EventView) (e : EventView) → AreHeavy events → LEAST_WEIGHT ≤ e.weight → AreHeavy (events ++ e ∷ [])
heavy_more events e H le i lt = elim (cases_lt i (length events)) [
  | inl x ↦ subst (λ (v : EventView). LEAST_WEIGHT ≤ v.weight) (sym (get_or_append_left events (e ∷ []) no_event i x)) (H i x)
  | inr x ↦ subst (λ (v : EventView). LEAST_WEIGHT ≤ v.weight) (sym (get_or_push events e no_event i (let l = length_push events e in omega arith))) le
]

-- a number that asks nothing of the partner
abbrev IsOfEvents : {E : Type 0} → (Option (Held E) → ℕ) → Type 0
IsOfEvents {E} g = (h : Held E) (o : Option ℕ) → g (Some (record { event = h.event; clock = h.clock; weight_sum = h.weight_sum; partner = o })) ≡ g (Some h)

-- what is left to show of a push: the partners then, and what is held
record Grown {E : Type 0} (view : E → EventView) (w : Seen E) (e : E) (new : List (Option (Held E))) (pushed : List E) (p : List (Option ℕ)) : Type 0 where
  partners : List (Option ℕ)
  pairing : IsPairing w.windows (map view pushed ++ view e ∷ []) partners
  count : length new ≡ length w.held + 1
  held : (k : ℕ) → k < length new → HoldsAt view (pushed ++ e ∷ []) partners w.first (w.first + k) (get_or new k None)
  popped_are : take w.first partners ≡ take w.first p
  sums : (g : Option (Held E) → ℕ) → IsOfEvents g → sum_by g new ≡ sum_by g w.held + g (Some (next_held view w e None))

grown_alone : {E : Type 0} (view : E → EventView) (w : Seen E) (e : E) (new : List (Option (Held E))) (pushed : List E) (popped : List (Released E)) (S : StandsFor view w pushed popped) → w.finished ≡ false → LEAST_WEIGHT ≤ (view e).weight →
    StaysAlone view w e new → Grown view w e new pushed S.partners
grown_alone {E} view w e new pushed popped S going le A =
    let events : List EventView = map view pushed in
    let p : List (Option ℕ) = S.partners in
    let q : List (Option ℕ) = p ++ None ∷ [] in
    let n : count_of w ≡ length events = S.count ∙ sym (length-map pushed view) in
    let total : length p ≡ length events = S.pairing.total in
    let long : length events ≡ length pushed = length-map pushed view in
    let x : Option (Held E) = Some (next_held view w e None) in
    record {
      partners = q;
      pairing = (grows_by_open w.windows events (view e) p (heavy_more events (view e) S.heavy le) S.pairing).alone (λ i lt free opens. none_before view w e pushed popped S going (length w.held) (omega arith) A.none i (omega arith) free opens);
      count = ap length A.new_is ∙ length_push w.held x;
      held = λ k lt. subst (λ (xs : List (Option (Held E))). HoldsAt view (pushed ++ e ∷ []) q w.first (w.first + k) (get_or xs k None)) (sym A.new_is) (elim (cases_lt k (length w.held)) [
        | inl h ↦ subst (HoldsAt view (pushed ++ e ∷ []) q w.first (w.first + k)) (sym (get_or_append_left w.held (x ∷ []) None k h)) (stays_held view pushed e p q w.first (w.first + k) (held_at w k) (let c = S.count in omega arith) (lookup_alone p (w.first + k)) (S.held k h))
        | inr h ↦
            let l : k ≡ length w.held = let c = ap length A.new_is ∙ length_push w.held x in omega arith in
            subst (HoldsAt view (pushed ++ e ∷ []) q w.first (w.first + k)) (sym (get_or_push w.held x None k (sym l)))
            (subst (λ (m : ℕ). IsHeld view (pushed ++ e ∷ []) q w.first m (next_held view w e None)) (let c = S.count in omega arith) (new_held view w e pushed popped S q None (get_or_push p None None (length pushed) (total ∙ long)) (λ j z. absurd (none-some j z))))
      ]);
      popped_are = take-append-le w.first p (None ∷ []) (omega arith);
      sums = λ g like. ap (sum_by g) A.new_is ∙ sum_by_push g w.held x;
    }

-- what joins is held with its new partner
changed_held : {E : Type 0} (view : E → EventView) (w : Seen E) (e : E) (pushed : List E) (popped : List (Released E)) (S : StandsFor view w pushed popped) (p q : List (Option ℕ)) (i : ℕ) (was : Held E) → IsHeld view pushed p w.first i was →
    partner q i ≡ Some (length pushed) → count_of w ≡ length pushed → i < length pushed → IsHeld view (pushed ++ e ∷ []) q w.first i (record { event = was.event; clock = was.clock; weight_sum = was.weight_sum; partner = Some (count_of w) })
changed_held {E} view w e pushed popped S p q i was H at c lt =
    let events : List EventView = map view pushed in
    let grown : stamped_event events i ≡ stamped_event (map view (pushed ++ e ∷ [])) i = sym (stamped-append events (view e ∷ []) i (rw length-map lt)) ∙ ap (λ (xs : List EventView). stamped_event xs i) (sym (map-append view pushed (e ∷ []))) in
    record {
      event = get_more pushed (e ∷ []) i was.event H.event;
      clock = H.clock ∙ ap (λ (s : StampedEvent). s.clock) grown;
      weight_sum = H.weight_sum ∙ ap (λ (s : StampedEvent). s.weight_sum) grown;
      partner = ap (λ (x : ℕ). Some x) c ∙ sym at;
      unpopped = λ j z. let same : count_of w ≡ j = cc in omega arith;
    }

grown_joined : {E : Type 0} (view : E → EventView) (w : Seen E) (e : E) (new : List (Option (Held E))) (pushed : List E) (popped : List (Released E)) (S : StandsFor view w pushed popped) → w.finished ≡ false → LEAST_WEIGHT ≤ (view e).weight →
    JoinsAt view w e new → Grown view w e new pushed S.partners
grown_joined {E} view w e new pushed popped S going le A =
    let events : List EventView = map view pushed in
    let p : List (Option ℕ) = S.partners in
    let i : ℕ = w.first + A.place in
    let c = S.count in
    let inside : A.place < length w.held = A.within in
    let long : length events ≡ length pushed = length-map pushed view in
    let total : length p ≡ length events = S.pairing.total in
    let size : length p ≡ length pushed = total ∙ long in
    let q : List (Option ℕ) = joined p i (length pushed) in
    let H = held_is view w pushed popped S A.place A.was A.within A.held in
    let changed : Held E = record { event = A.was.event; clock = A.was.clock; weight_sum = A.was.weight_sum; partner = Some (count_of w) } in
    let xs : List (Option (Held E)) = set w.held A.place (Some changed) in
    let x : Option (Held E) = Some (next_held view w e (Some i)) in
    let lx : length xs ≡ length w.held = length-set w.held A.place (Some changed) in
    let found : IsEarliestOpen w.windows events (view e) p i = record {
      within = omega arith;
      free = sym H.partner ∙ A.free;
      fits = sym (fits_is view w e pushed popped S A.place A.was A.within A.held) ∙ A.fits;
      earliest = λ m lt free opens. none_before view w e pushed popped S going A.place (omega arith) A.earlier m lt free opens;
    } in
    record {
      partners = q;
      pairing = subst (λ (m : ℕ). IsPairing w.windows (events ++ view e ∷ []) (joined p i m)) long ((grows_by_open w.windows events (view e) p (heavy_more events (view e) S.heavy le) S.pairing).joined i found);
      count = ap length A.new_is ∙ length_push xs x ∙ ap (λ (m : ℕ). m + 1) lx;
      held = λ k lt. subst (λ (ys : List (Option (Held E))). HoldsAt view (pushed ++ e ∷ []) q w.first (w.first + k) (get_or ys k None)) (sym A.new_is) (elim (cases_lt k (length w.held)) [
        | inl h ↦ subst (HoldsAt view (pushed ++ e ∷ []) q w.first (w.first + k)) (sym (get_or_append_left xs (x ∷ []) None k (omega arith))) (elim (cases_eq k A.place) [
          | inl s ↦ subst (λ (m : ℕ). HoldsAt view (pushed ++ e ∷ []) q w.first (w.first + m) (get_or xs m None)) (sym s)
              (subst (HoldsAt view (pushed ++ e ∷ []) q w.first i) (sym (get_or-set_same w.held A.place (Some changed) None A.within))
              (changed_held view w e pushed popped S p q i A.was H (at_joined p i (length pushed) size (omega arith)) c (omega arith)))
          | inr s ↦ subst (HoldsAt view (pushed ++ e ∷ []) q w.first (w.first + k)) (sym (get_or-set_other w.held A.place k (Some changed) None s))
              (stays_held view pushed e p q w.first (w.first + k) (held_at w k) (omega arith) (at_other p i (length pushed) (w.first + k) size (λ z. s (omega arith)) (λ z. omega arith)) (S.held k h))
        ])
        | inr h ↦
            let l : k ≡ length xs = let d = ap length A.new_is ∙ length_push xs x in omega arith in
            subst (HoldsAt view (pushed ++ e ∷ []) q w.first (w.first + k)) (sym (get_or_push xs x None k (sym l)))
            (subst (λ (m : ℕ). IsHeld view (pushed ++ e ∷ []) q w.first m (next_held view w e (Some i))) (omega arith) (new_held view w e pushed popped S q (Some i) (at_last p i (length pushed) size) (λ j z. let same : i ≡ j = cc in omega arith)))
      ]);
      popped_are = take-append-le w.first (set p i (Some (length pushed))) (Some i ∷ []) (rw length-set (omega arith)) ∙ take-set-le w.first p i (Some (length pushed)) (omega arith);
      sums = λ g like. ap (sum_by g) A.new_is ∙ sum_by_push g xs x
          ∙ ap (λ (m : ℕ). m + g x) (same_sum g w.held A.place (Some changed) None A.within (like A.was (Some (count_of w)) ∙ ap g (sym A.held)))
          ∙ ap (λ (m : ℕ). sum_by g w.held + m) (like (next_held view w e None) (Some i));
    }

stands : {E : Type 0} (view : E → EventView) (w : Seen E) (e : E) (new : Seen E) (pushed : List E) (popped : List (Released E)) (S : StandsFor view w pushed popped) → w.finished ≡ false → LEAST_WEIGHT ≤ (view e).weight →
    IsPushed view w e new → Grown view w e new.held pushed S.partners → StandsFor view new (pushed ++ e ∷ []) popped
stands {E} view w e new pushed popped S going le P G =
    let events : List EventView = map view pushed in
    let all : events ++ view e ∷ [] ≡ map view (pushed ++ e ∷ []) = sym (map-append view pushed (e ∷ [])) in
    let paired : IsPairing w.windows (map view (pushed ++ e ∷ [])) G.partners = subst (λ (xs : List EventView). IsPairing w.windows xs G.partners) all G.pairing in
    record {
      partners = G.partners;
      pairing = subst (λ (x : Windows). IsPairing x (map view (pushed ++ e ∷ [])) G.partners) (sym P.windows) paired;
      heavy = subst AreHeavy all (heavy_more events (view e) S.heavy le);
      count = let a = P.first in let b = G.count in let c = S.count in let d = length_push pushed e in omega arith;
      clock = P.clock ∙ ap (λ (x : ℕ). max x (view e).time) S.clock ∙ sym (fold-append (λ (latest : ℕ) (x : EventView). max latest x.time) 0 events (view e ∷ [])) ∙ ap (λ (xs : List EventView). fold (λ latest x. max latest x.time) 0 xs) all;
      weight_sum = P.weight_sum ∙ ap (λ (x : ℕ). x + (view e).weight) S.weight_sum ∙ sym (sum_last events (view e)) ∙ ap (λ (xs : List EventView). sum_by (λ x. x.weight) xs) all;
      held = subst (λ (f : ℕ). (k : ℕ) → k < length new.held → HoldsAt view (pushed ++ e ∷ []) G.partners f (f + k) (held_at new k)) (sym P.first) G.held;
      popped_are = subst (λ (f : ℕ). AreRecords view (pushed ++ e ∷ []) (records (take f G.partners)) popped) (sym P.first)
          (subst (λ (xs : List (Option ℕ)). AreRecords view (pushed ++ e ∷ []) (records xs) popped) (sym G.popped_are) (all_still_told view pushed (e ∷ []) (records (take w.first S.partners)) popped S.popped_are));
      unpopped = record {
        count = let s = G.sums (λ (x : Option (Held E)). cond (is_some x) 1 0) (λ h o. refl) in
            let u = S.unpopped.count in
            let l = length_push pushed e in
            let goal : sum_by (λ (x : Option (Held E)). cond (is_some x) 1 0) new.held + sum_by events_in popped ≡ length (pushed ++ e ∷ []) = omega arith in goal;
        weight = let s = G.sums (weight_held view) (λ h o. refl) in
            let u = S.unpopped.weight in
            let l : sum_by (λ x. x.weight) (map view (pushed ++ e ∷ [])) ≡ sum_by (λ x. x.weight) events + (view e).weight = ap (λ (xs : List EventView). sum_by (λ x. x.weight) xs) (sym all) ∙ sum_last events (view e) in
            let goal : sum_by (weight_held view) new.held + sum_by (weight_in view) popped ≡ sum_by (λ x. x.weight) (map view (pushed ++ e ∷ [])) = omega arith in goal;
      };
      settled = λ still i lt.
          let c = S.count in
          let f = P.first in
          subst (λ (x : Windows). is_settled x (map view (pushed ++ e ∷ [])) G.partners i ≡ true) (sym P.windows)
          (subst (λ (xs : List EventView). is_settled w.windows xs G.partners i ≡ true) all
          (settled_grows w.windows events (view e ∷ []) S.partners G.partners (heavy_more events (view e) S.heavy le) S.pairing G.pairing i (omega (arith, length-map pushed view)) (S.settled going i (omega arith))));
    }

pub pushed_stands : {E : Type 0} (view : E → EventView) → PushesStand view
pushed_stands {E} view w e new pushed popped S going le P = elim P.held [
  | inl A ↦ stands view w e new pushed popped S going le P (grown_joined view w e new.held pushed popped S going le A)
  | inr A ↦ stands view w e new pushed popped S going le P (grown_alone view w e new.held pushed popped S going le A)
]
