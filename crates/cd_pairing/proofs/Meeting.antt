-- The next event meets those that wait for it.
use Rattle.std.proofs.Common.{◌≡◌, ℕ, ◌+◌, ◌<◌, ◌⊎◌, Bool, false, ◌&&◌, List, [], ◌∷◌, ◌++◌, length, drop, ◌-◌, Option, Some, None, refl, ap, sym, ◌∙◌, subst, arith, inl, inr, length-drop}
use Rattle.std.specs.List.{remove}
use Rattle.std.specs.Prelude.{slice_set}
use Rattle.std.proofs.Math.Bool.{and-false}
use Rattle.std.proofs.lemmas.Bool.{cases_lt, true≢false}
use Rattle.std.proofs.lemmas.Option.{none-some}
use Rattle.std.proofs.lemmas.List.{get_or-drop, drop-drop, length_push, length-set}
use Rattle.cd_pairing.specs.declared.keyed.Side.{Side}
use Rattle.cd_pairing.specs.declared.keyed.Side.TheVariants.{Query, Response, Neither}
use Rattle.cd_pairing.specs.declared.keyed.Windows.{Windows}
use Rattle.cd_pairing.specs.declared.stamp.Stamp.{Stamp}
use Rattle.cd_pairing.specs.Events.{EventView, event_at, are_opposite}
use Rattle.cd_pairing.specs.Matching.{partner, IsMatching}
use Rattle.cd_pairing.specs.Pairing.{StampedEvent, stamped_event, identifiers_agree, is_in_window, may_pair, are_compatible}
use Rattle.cd_pairing.specs.Settling.{is_neither}
use Rattle.cd_pairing.specs.Waiting.{stamp_at, no_stamp, stamp_under, event_of, other_side, IsFirstFit, NothingFits, IsFrontClosed, DropsClosed, IsInside, AreInside, IsOfUnpaired, WaitsUnder, IsWaiting, ArePaired}
use Rattle.cd_pairing.proofs.Joining.{NoneFits, Earliest, join_none, join_some, joined, lookup_alone, at_last, at_other}
use Rattle.cd_pairing.proofs.Waiting.{told, wait_on, wait_same, wait_more, wait_less}

window_fails : (windows : Windows) (a b : StampedEvent) → is_in_window windows a b ≡ false → may_pair windows a b ≡ false
unfolding may_pair
window_fails windows a b h =
    ap (λ (x : Bool). are_opposite a.view.side b.view.side && identifiers_agree a.view b.view && x) h ∙ and-false (are_opposite a.view.side b.view.side && identifiers_agree a.view b.view)

sides_fail : (windows : Windows) (a b : StampedEvent) → are_opposite a.view.side b.view.side ≡ false → may_pair windows a b ≡ false
unfolding may_pair
sides_fail windows a b h = ap (λ (x : Bool). x && identifiers_agree a.view b.view && is_in_window windows a b) h

side_or : (now s : Side) → is_neither now ≡ false → (s ≡ other_side now) ⊎ (are_opposite s now ≡ false)
side_or Query Query h = inr refl
side_or Query Response h = inl refl
side_or Query Neither h = inr refl
side_or Response Query h = inl refl
side_or Response Response h = inr refl
side_or Response Neither h = inr refl
side_or Neither s h = absurd (true≢false h)

other_differs : (s : Side) → is_neither s ≡ false → s ≡ other_side s → ⊥
other_differs Query h e = cc
other_differs Response h e = cc
other_differs Neither h e = absurd (true≢false h)

neither_fails : (s : Side) → are_opposite s Neither ≡ false
neither_fails Query = refl
neither_fails Response = refl
neither_fails Neither = refl

-- the next event, and what waits for it
pub record Meets (windows : Windows) (events : List EventView) (p : List (Option ℕ)) (waiting : List Stamp) (now : Stamp) : Type 0 where
  pub here : now ≡ stamp_at events (length p)
  pub room : length p < length events
  pub some_side : is_neither (event_at events (length p)).side ≡ false
  pub waits : IsWaiting windows events p (other_side (event_at events (length p)).side) waiting

pair_told : (windows : Windows) (events : List EventView) (p : List (Option ℕ)) (side : Side) (s now : Stamp) (i : ℕ) → IsOfUnpaired events p side s → s.index ≡ i → now ≡ stamp_at events (length p) →
    may_pair windows (event_of events s) (event_of events now) ≡ are_compatible windows events i (length p)
unfolding are_compatible
pair_told windows events p side s now i u e here =
    ap (λ (x : StampedEvent). may_pair windows x (event_of events now)) (told events p side s i u e) ∙ ap (λ (x : Stamp). may_pair windows (stamped_event events i) (event_of events x)) here

pair_is : (windows : Windows) (events : List EventView) (i n : ℕ) → may_pair windows (stamped_event events i) (stamped_event events n) ≡ are_compatible windows events i n
unfolding are_compatible
pair_is windows events i n = refl

-- an unpaired position fails where its stamp fails, if it waits
unpaired_fails : (windows : Windows) (events : List EventView) (p : List (Option ℕ)) (waiting : List Stamp) (now : Stamp) (i : ℕ) → Meets windows events p waiting now → i < length p → partner p i ≡ None →
    ((w : WaitsUnder waiting i) → may_pair windows (event_of events (stamp_under waiting w.number)) (event_of events now) ≡ false) → are_compatible windows events i (length p) ≡ false
unpaired_fails windows events p waiting now i M lt free fails =
    let n : ℕ = length p in
    let side : Side = other_side (event_at events n).side in
    elim (side_or (event_at events n).side (event_at events i).side M.some_side) [
      | inr e ↦ sym (pair_is windows events i n) ∙ sides_fail windows (stamped_event events i) (stamped_event events n) e
      | inl e ↦ elim (M.waits.all i lt free e) [
        | inl c ↦ sym (pair_is windows events i n) ∙ window_fails windows (stamped_event events i) (stamped_event events n) (c.closed n (omega arith) M.room)
        | inr w ↦ sym (pair_told windows events p side (stamp_under waiting w.number) now i (M.waits.each w.number w.within) w.is M.here) ∙ fails w
      ]
    ]

nothing_fits : (windows : Windows) (events : List EventView) (p : List (Option ℕ)) (waiting : List Stamp) (now : Stamp) → Meets windows events p waiting now → NothingFits windows events waiting now →
    NoneFits (are_compatible windows events) (length p) p (length p)
nothing_fits windows events p waiting now M F = record {
  none = λ i lt free. unpaired_fails windows events p waiting now i M lt free (λ w. F.all w.number w.within);
}

-- an earlier position waits under a smaller number
smaller : (windows : Windows) (events : List EventView) (p : List (Option ℕ)) (side : Side) (waiting : List Stamp) (k j : ℕ) → IsWaiting windows events p side waiting → (w : WaitsUnder waiting j) → k < length waiting →
    j < (stamp_under waiting k).index → w.number < k
smaller windows events p side waiting k j W w lk lt = elim (cases_lt w.number k) [
  | inl h ↦ h
  | inr h ↦
      let is = w.is in
      elim (cases_lt k w.number) [
        | inl g ↦ let o = W.order k w.number g w.within in absurd (omega arith)
        | inr g ↦
            let same : w.number ≡ k = omega arith in
            let both : (stamp_under waiting w.number).index ≡ (stamp_under waiting k).index = ap (λ (x : ℕ). (stamp_under waiting x).index) same in
            absurd (omega arith)
      ]
]

first_fits : (windows : Windows) (events : List EventView) (p : List (Option ℕ)) (waiting : List Stamp) (now : Stamp) (k : ℕ) → Meets windows events p waiting now → IsFirstFit windows events waiting now k →
    Earliest (are_compatible windows events) (length p) p (stamp_under waiting k).index
first_fits windows events p waiting now k M F =
    let side : Side = other_side (event_at events (length p)).side in
    let u = M.waits.each k F.within in
    record {
      inside = u.within;
      free = u.free;
      fits = sym (pair_told windows events p side (stamp_under waiting k) now (stamp_under waiting k).index u refl M.here) ∙ F.good;
      earlier = record {
        none = λ j lt free. (let w = u.within in unpaired_fails windows events p waiting now j M (omega arith) free (λ v. F.earlier v.number (smaller windows events p side waiting k j M.waits v F.within lt)));
      };
    }

counted : (R : ℕ → ℕ → Bool) (q : List (Option ℕ)) (n : ℕ) → length q ≡ n + 1 → IsMatching R (n + 1) q → IsMatching R (length q) q
counted R q n e M = subst (λ (k : ℕ). IsMatching R k q) (sym e) M

-- the next event is paired with the first that fits
pub met_joined : (windows : Windows) (events : List EventView) (p : List (Option ℕ)) (others own : List Stamp) (now : Stamp) (k : ℕ) → Meets windows events p others now → IsFirstFit windows events others now k →
    ArePaired windows events p (event_at events (length p)).side others own →
    ArePaired windows events (joined p (stamp_under others k).index (length p)) (event_at events (length p)).side (remove others k) own
met_joined windows events p others own now k M F A =
    let n : ℕ = length p in
    let side : Side = (event_at events n).side in
    let a : ℕ = (stamp_under others k).index in
    let u = M.waits.each k F.within in
    let long : length (joined p a n) ≡ n + 1 = length_push (slice_set p a (Some n)) (Some a) ∙ ap (λ (x : ℕ). x + 1) (length-set p a (Some n)) in
    record {
      pairing = counted (are_compatible windows events) (joined p a n) n long (join_some (are_compatible windows events) n a p A.pairing (first_fits windows events p others now k M F));
      others_wait = wait_less windows events p (other_side side) others k a M.waits F.within refl;
      own_wait = wait_same windows events p (joined p a n) side own A.own_wait long
          (λ i lt is. at_other p a n i refl
          (λ e. other_differs side M.some_side (sym is ∙ ap (λ (x : ℕ). (event_at events x).side) e ∙ u.side_is)) (λ e. omega arith))
          (λ none is. none-some a (sym none ∙ at_last p a n refl));
    }

-- the next event stays alone where nothing fits
pub met_alone : (windows : Windows) (events : List EventView) (p : List (Option ℕ)) (others own : List Stamp) (now : Stamp) → Meets windows events p others now → NothingFits windows events others now →
    ArePaired windows events p (event_at events (length p)).side others own →
    ArePaired windows events (p ++ None ∷ []) (event_at events (length p)).side others (own ++ now ∷ [])
met_alone windows events p others own now M F A =
    let n : ℕ = length p in
    let side : Side = (event_at events n).side in
    record {
      pairing = counted (are_compatible windows events) (p ++ None ∷ []) n (length_push p None) (join_none (are_compatible windows events) n p A.pairing (nothing_fits windows events p others now M F));
      others_wait = wait_same windows events p (p ++ None ∷ []) (other_side side) others M.waits (length_push p None) (λ i lt is. lookup_alone p i) (λ none is. other_differs side M.some_side is);
      own_wait = wait_more windows events p side own now A.own_wait M.here refl;
    }

neither_compatible : (windows : Windows) (events : List EventView) (i n : ℕ) → (event_at events n).side ≡ Neither → are_compatible windows events i n ≡ false
neither_compatible windows events i n e =
    sym (pair_is windows events i n) ∙ sides_fail windows (stamped_event events i) (stamped_event events n) (ap (are_opposite (event_at events i).side) e ∙ neither_fails (event_at events i).side)

-- what is neither stays alone
pub neither_alone : (windows : Windows) (events : List EventView) (p : List (Option ℕ)) → (event_at events (length p)).side ≡ Neither → IsMatching (are_compatible windows events) (length p) p →
    IsMatching (are_compatible windows events) (length (p ++ None ∷ [])) (p ++ None ∷ [])
neither_alone windows events p e M =
    counted (are_compatible windows events) (p ++ None ∷ []) (length p) (length_push p None)
    (join_none (are_compatible windows events) (length p) p M (record { none = λ i lt free. neither_compatible windows events i (length p) e }))

pub neither_waits : (windows : Windows) (events : List EventView) (p : List (Option ℕ)) (side : Side) (waiting : List Stamp) → (event_at events (length p)).side ≡ Neither → (Neither ≡ side → ⊥) → IsWaiting windows events p side waiting →
    IsWaiting windows events (p ++ None ∷ []) side waiting
neither_waits windows events p side waiting e other W =
    wait_same windows events p (p ++ None ∷ []) side waiting W (length_push p None) (λ i lt is. lookup_alone p i) (λ none is. other (sym e ∙ is))

-- what is dropped, one after the other
pub drops_more : (windows : Windows) (events : List EventView) (old mid new : List Stamp) (now : Stamp) → DropsClosed windows events old mid now → IsFrontClosed windows events mid now → new ≡ drop 1 mid → DropsClosed windows events old new now
drops_more windows events old mid new now D F e =
    let c : ℕ = D.count in
    let at : stamp_under mid 0 ≡ stamp_under old (c + 0) = ap (λ (t : List Stamp). stamp_under t 0) D.left ∙ get_or-drop c old 0 no_stamp in
    let same : c + 0 ≡ c = omega arith in
    record {
      count = c + 1;
      left = e ∙ ap (drop 1) D.left ∙ drop-drop 1 c old;
      closed = λ k lt. elim (cases_lt k c) [
        | inl h ↦ D.closed k h
        | inr h ↦
            let here : k ≡ c + 0 = omega arith in
            ap (λ (x : ℕ). is_in_window windows (event_of events (stamp_under old x)) (event_of events now)) here
            ∙ sym (ap (λ (s : Stamp). is_in_window windows (event_of events s) (event_of events now)) at) ∙ F.closed
      ];
    }

pub drops_inside : (windows : Windows) (events : List EventView) (old new : List Stamp) (now : Stamp) → DropsClosed windows events old new now → AreInside events old → AreInside events new
drops_inside windows events old new now D I = record {
  each = λ k lt.
      let c : ℕ = D.count in
      let long : length new ≡ length old - c = ap length D.left ∙ length-drop c old in
      let at : stamp_under new k ≡ stamp_under old (c + k) = ap (λ (t : List Stamp). stamp_under t k) D.left ∙ get_or-drop c old k no_stamp in
      subst (λ (s : Stamp). IsInside events s) (sym at) (I.each (c + k) (omega arith));
}

-- after what has closed is dropped, the rest meets the next event
pub meets : (windows : Windows) (events : List EventView) (p : List (Option ℕ)) (old new : List Stamp) (now : Stamp) → now ≡ stamp_at events (length p) → length p < length events → is_neither (event_at events (length p)).side ≡ false →
    IsWaiting windows events p (other_side (event_at events (length p)).side) old → DropsClosed windows events old new now → Meets windows events p new now
meets windows events p old new now here room some W D = record { here = here; room = room; some_side = some; waits = wait_on windows events p (other_side (event_at events (length p)).side) old new now W D here }
