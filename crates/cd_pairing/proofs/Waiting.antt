-- What waits, as the events go on.
use Rattle.std.proofs.Common.{◌≡◌, ◌≢◌, ℕ, ◌+◌, ◌-◌, ◌<◌, ◌≤◌, true, false, List, [], ◌∷◌, ◌++◌, length, drop, Option, Some, None, refl, ap, sym, ◌∙◌, subst, arith, inl, inr, length-drop}
use Rattle.std.specs.List.{remove}
use Rattle.std.specs.Prelude.{slice_set}
use Rattle.std.proofs.lemmas.Bool.{cases_lt, cases_eq, cases_Bool, true≢false}
use Rattle.std.proofs.lemmas.Option.{none-some}
use Rattle.std.proofs.lemmas.List.{get_or-drop, get_or_append_left, get_or_push, get_or_past, length_push, length-set}
use Rattle.std.proofs.lemmas.List.Edits.{get_or-remove_below, get_or-remove_above, length-remove}
use Rattle.cd_pairing.specs.declared.keyed.Side.{Side}
use Rattle.cd_pairing.specs.declared.keyed.Windows.{Windows}
use Rattle.cd_pairing.specs.declared.stamp.Stamp.{Stamp}
use Rattle.cd_pairing.specs.Events.{EventView, event_at, clock, weight_sum}
use Rattle.cd_pairing.specs.Matching.{partner}
use Rattle.cd_pairing.specs.Pairing.{StampedEvent, stamped_event, is_in_window}
use Rattle.cd_pairing.specs.Waiting.{stamp_at, no_stamp, stamp_under, event_of, DropsClosed, IsOfUnpaired, HasClosed, IsWaiting}
use Rattle.cd_pairing.proofs.Joining.{joined, lookup_alone, at_last, at_joined, at_other}
use Rattle.cd_pairing.proofs.OpenWindows.{in_window_from, in_window_parts}
use Rattle.cd_pairing.proofs.Rising.{clock_rises, weights_rise}

-- what comes in a window comes no later than what comes between
in_window_before : (windows : Windows) (events : List EventView) (i n j : ℕ) → n ≤ j → j < length events →
    is_in_window windows (stamped_event events i) (stamped_event events j) ≡ true → is_in_window windows (stamped_event events i) (stamped_event events n) ≡ true
in_window_before windows events i n j up inside h =
    let t = in_window_parts windows (stamped_event events i) (stamped_event events j) h in
    let e : n + (j - n) ≡ j = omega arith in
    let clocks : clock events n ≤ clock events j = subst (λ (x : ℕ). clock events n ≤ clock events x) e (clock_rises events n (j - n) (omega arith)) in
    let sums : weight_sum events n ≤ weight_sum events j = subst (λ (x : ℕ). weight_sum events n ≤ weight_sum events x) e (weights_rise events n (j - n) (omega arith)) in
    let time = t.time in
    let near = t.near in
    let light = t.light in
    in_window_from windows (stamped_event events i) (stamped_event events n) (omega arith) (omega arith) (omega arith)

closed_after : (windows : Windows) (events : List EventView) (i n : ℕ) → is_in_window windows (stamped_event events i) (stamped_event events n) ≡ false → HasClosed windows events i n
closed_after windows events i n h = record {
  closed = λ j low inside. elim (cases_Bool (is_in_window windows (stamped_event events i) (stamped_event events j))) [
    | inr e ↦ e
    | inl e ↦ absurd (true≢false (sym (in_window_before windows events i n j low inside e) ∙ h))
  ];
}

later_closed : (windows : Windows) (events : List EventView) (i n m : ℕ) → n ≤ m → HasClosed windows events i n → HasClosed windows events i m
later_closed windows events i n m le c = record { closed = λ j low inside. c.closed j (omega arith) inside }

-- a stamp tells its event
pub told : (events : List EventView) (p : List (Option ℕ)) (side : Side) (s : Stamp) (i : ℕ) → IsOfUnpaired events p side s → s.index ≡ i → event_of events s ≡ stamped_event events i
told events p side s i u e = ap (event_of events) u.stamp ∙ ap (stamped_event events) e

under_dropped : (old new : List Stamp) (count k : ℕ) → new ≡ drop count old → stamp_under new k ≡ stamp_under old (count + k)
under_dropped old new count k e = ap (λ (t : List Stamp). stamp_under t k) e ∙ get_or-drop count old k no_stamp

-- without what has closed, what waits is what waited
pub wait_on : (windows : Windows) (events : List EventView) (p : List (Option ℕ)) (side : Side) (old new : List Stamp) (now : Stamp) → IsWaiting windows events p side old → DropsClosed windows events old new now →
    now ≡ stamp_at events (length p) → IsWaiting windows events p side new
wait_on windows events p side old new now W D here =
    let c : ℕ = D.count in
    let long : length new ≡ length old - c = ap length D.left ∙ length-drop c old in
    record {
      each = λ k lt. subst (λ (s : Stamp). IsOfUnpaired events p side s) (sym (under_dropped old new c k D.left)) (W.each (c + k) (omega arith));
      order = λ k l lt inside.
          let a = W.order (c + k) (c + l) (omega arith) (omega arith) in
          let x : (stamp_under new k).index ≡ (stamp_under old (c + k)).index = ap (λ (s : Stamp). s.index) (under_dropped old new c k D.left) in
          let y : (stamp_under new l).index ≡ (stamp_under old (c + l)).index = ap (λ (s : Stamp). s.index) (under_dropped old new c l D.left) in
          omega arith;
      all = λ i lt free is. elim (W.all i lt free is) [
        | inl closed ↦ inl closed
        | inr w ↦ elim (cases_lt w.number c) [
          | inl h ↦
              let u : event_of events (stamp_under old w.number) ≡ stamped_event events i = told events p side (stamp_under old w.number) i (W.each w.number w.within) w.is in
              let v : event_of events now ≡ stamped_event events (length p) = ap (event_of events) here in
              inl (closed_after windows events i (length p) (
              sym (ap (λ (x : StampedEvent). is_in_window windows x (event_of events now)) u ∙ ap (λ (x : StampedEvent). is_in_window windows (stamped_event events i) x) v) ∙ D.closed w.number h
              ))
          | inr h ↦
              let e : c + (w.number - c) ≡ w.number = omega arith in
              let within = w.within in
              inr (record {
                number = w.number - c;
                within = omega arith;
                is = ap (λ (s : Stamp). s.index) (under_dropped old new c (w.number - c) D.left) ∙ ap (λ (x : ℕ). (stamp_under old x).index) e ∙ w.is;
              })
        ]
      ];
    }

-- what is unpaired still is where its partner has not changed
still_unpaired : (events : List EventView) (p q : List (Option ℕ)) (side : Side) (s : Stamp) → length p ≤ length q → IsOfUnpaired events p side s → partner q s.index ≡ partner p s.index → IsOfUnpaired events q side s
still_unpaired events p q side s le u e = record { stamp = u.stamp; within = (let w = u.within in omega arith); free = e ∙ u.free; side_is = u.side_is }

-- the same wait where nothing of their side is new or was paired
pub wait_same : (windows : Windows) (events : List EventView) (p q : List (Option ℕ)) (side : Side) (waiting : List Stamp) → IsWaiting windows events p side waiting → length q ≡ length p + 1 →
    ((i : ℕ) → i < length p → (event_at events i).side ≡ side → partner q i ≡ partner p i) → (partner q (length p) ≡ None → (event_at events (length p)).side ≡ side → ⊥) → IsWaiting windows events q side waiting
wait_same windows events p q side waiting W long same last = record {
  each = λ k lt. let u = W.each k lt in still_unpaired events p q side (stamp_under waiting k) (omega arith) u (same (stamp_under waiting k).index u.within u.side_is);
  order = W.order;
  all = λ i lt free is. elim (cases_lt i (length p)) [
    | inl h ↦ elim (W.all i h (sym (same i h is) ∙ free) is) [
      | inl closed ↦ inl (later_closed windows events i (length p) (length q) (omega arith) closed)
      | inr w ↦ inr w
    ]
    | inr h ↦
        let e : i ≡ length p = omega arith in
        absurd (last (ap (λ (x : ℕ). partner q x) (sym e) ∙ free) (ap (λ (x : ℕ). (event_at events x).side) (sym e) ∙ is))
  ];
}

-- what comes now waits after the others of its side
now_unpaired : (events : List EventView) (p : List (Option ℕ)) (side : Side) (now : Stamp) → now ≡ stamp_at events (length p) → (event_at events (length p)).side ≡ side → IsOfUnpaired events (p ++ None ∷ []) side now
now_unpaired events p side now here is =
    let index : now.index ≡ length p = ap (λ (s : Stamp). s.index) here in
    record {
      stamp = here ∙ ap (stamp_at events) (sym index);
      within = omega (arith, length_push p None);
      free = lookup_alone p now.index ∙ get_or_past p now.index None (omega arith);
      side_is = ap (λ (x : ℕ). (event_at events x).side) index ∙ is;
    }

pub wait_more : (windows : Windows) (events : List EventView) (p : List (Option ℕ)) (side : Side) (own : List Stamp) (now : Stamp) → IsWaiting windows events p side own →
    now ≡ stamp_at events (length p) → (event_at events (length p)).side ≡ side → IsWaiting windows events (p ++ None ∷ []) side (own ++ now ∷ [])
wait_more windows events p side own now W here is =
    let q : List (Option ℕ) = p ++ None ∷ [] in
    let more : List Stamp = own ++ now ∷ [] in
    let long : length more ≡ length own + 1 = length_push own now in
    let longer : length q ≡ length p + 1 = length_push p None in
    let index : now.index ≡ length p = ap (λ (s : Stamp). s.index) here in
    record {
      each = λ k lt. elim (cases_lt k (length own)) [
        | inl h ↦ subst (λ (s : Stamp). IsOfUnpaired events q side s) (sym (get_or_append_left own (now ∷ []) no_stamp k h))
            (still_unpaired events p q side (stamp_under own k) (omega arith) (W.each k h) (lookup_alone p (stamp_under own k).index))
        | inr h ↦ let e : length own ≡ k = omega arith in
            subst (λ (s : Stamp). IsOfUnpaired events q side s) (sym (get_or_push own now no_stamp k e)) (now_unpaired events p side now here is)
      ];
      order = λ k l lt inside.
          let first : k < length own = omega arith in
          let x : (stamp_under more k).index ≡ (stamp_under own k).index = ap (λ (s : Stamp). s.index) (get_or_append_left own (now ∷ []) no_stamp k first) in
          elim (cases_lt l (length own)) [
            | inl h ↦
                let y : (stamp_under more l).index ≡ (stamp_under own l).index = ap (λ (s : Stamp). s.index) (get_or_append_left own (now ∷ []) no_stamp l h) in
                let a = W.order k l lt h in omega arith
            | inr h ↦
                let e : length own ≡ l = omega arith in
                let y : (stamp_under more l).index ≡ now.index = ap (λ (s : Stamp). s.index) (get_or_push own now no_stamp l e) in
                let a = (W.each k first).within in omega arith
          ];
      all = λ i lt free sided. elim (cases_lt i (length p)) [
        | inl h ↦ elim (W.all i h (sym (lookup_alone p i) ∙ free) sided) [
          | inl closed ↦ inl (later_closed windows events i (length p) (length q) (omega arith) closed)
          | inr w ↦ let within = w.within in inr (record {
            number = w.number;
            within = omega arith;
            is = ap (λ (s : Stamp). s.index) (get_or_append_left own (now ∷ []) no_stamp w.number w.within) ∙ w.is;
          })
        ]
        | inr h ↦ let e : length p ≡ i = omega arith in inr (record {
          number = length own;
          within = omega arith;
          is = ap (λ (s : Stamp). s.index) (get_or_push own now no_stamp (length own) refl) ∙ index ∙ e;
        })
      ];
    }

-- numbers tell positions apart
indices_differ : (windows : Windows) (events : List EventView) (p : List (Option ℕ)) (side : Side) (waiting : List Stamp) → IsWaiting windows events p side waiting → (k m : ℕ) → k < length waiting → m < length waiting → m ≢ k →
    (stamp_under waiting m).index ≢ (stamp_under waiting k).index
indices_differ windows events p side waiting W k m lk lm ne same = elim (cases_lt m k) [
  | inl h ↦ let a = W.order m k h lk in omega arith
  | inr h ↦ let a = W.order k m (omega arith) lm in omega arith
]

-- where what stands under a number without one of them stood before
record Stood (waiting : List Stamp) (k m : ℕ) : Type 0 where
  number : ℕ
  within : number < length waiting
  is : stamp_under (remove waiting k) m ≡ stamp_under waiting number
  other : number ≢ k
  low : m ≤ number
  high : number ≤ m + 1
  before : m < k → number ≡ m
  after : k ≤ m → number ≡ m + 1

stood : (waiting : List Stamp) (k m : ℕ) → k < length waiting → m < length (remove waiting k) → Stood waiting k m
stood waiting k m lk lm =
    let long = length-remove waiting k lk in
    elim (cases_lt m k) [
      | inl h ↦ record { number = m; within = omega arith; is = get_or-remove_below waiting k no_stamp m h lk; other = λ e. omega arith; low = omega arith; high = omega arith; before = λ x. refl; after = λ x. absurd (omega arith) }
      | inr h ↦ record { number = m + 1; within = omega arith; is = get_or-remove_above waiting k no_stamp m h lk; other = λ e. omega arith; low = omega arith; high = omega arith; before = λ x. absurd (omega arith); after = λ x. refl }
    ]

-- without the one that is joined, the others of its side wait
pub wait_less : (windows : Windows) (events : List EventView) (p : List (Option ℕ)) (side : Side) (waiting : List Stamp) (k a : ℕ) → IsWaiting windows events p side waiting → k < length waiting →
    (stamp_under waiting k).index ≡ a → IsWaiting windows events (joined p a (length p)) side (remove waiting k)
wait_less windows events p side waiting k a W lk at =
    let n : ℕ = length p in
    let q : List (Option ℕ) = joined p a n in
    let inside : a < n = (let w = (W.each k lk).within in omega arith) in
    let long : length (remove waiting k) + 1 ≡ length waiting = length-remove waiting k lk in
    let longer : length q ≡ n + 1 = omega (arith, length_push (slice_set p a (Some n)) (Some a), length-set p a (Some n)) in
    record {
      each = λ m lm.
          let s = stood waiting k m lk lm in
          let u = W.each s.number s.within in
          let ne = indices_differ windows events p side waiting W k s.number lk s.within s.other in
          let w = u.within in
          subst (λ (x : Stamp). IsOfUnpaired events q side x) (sym s.is)
          (still_unpaired events p q side (stamp_under waiting s.number) (omega arith) u (at_other p a n (stamp_under waiting s.number).index refl (omega arith) (omega arith)));
      order = λ m l lt ll.
          let s = stood waiting k m lk (omega arith) in
          let t = stood waiting k l lk ll in
          let x : (stamp_under (remove waiting k) m).index ≡ (stamp_under waiting s.number).index = ap (λ (y : Stamp). y.index) s.is in
          let y : (stamp_under (remove waiting k) l).index ≡ (stamp_under waiting t.number).index = ap (λ (z : Stamp). z.index) t.is in
          let rising : s.number < t.number = (let s1 = s.before in let s2 = s.after in let t1 = t.before in let t2 = t.after in let b = s.high in let c = t.low in elim (cases_lt m k) [
            | inl h ↦ let e = s.before h in omega arith
            | inr h ↦ let e = s.after h in let f = t.after (omega arith) in omega arith
          ]) in
          let o = W.order s.number t.number rising t.within in
          omega arith;
      all = λ i lt free is. elim (cases_eq i n) [
        | inl e ↦ absurd (none-some a (sym free ∙ ap (λ (x : ℕ). partner q x) e ∙ at_last p a n refl))
        | inr nn ↦ elim (cases_eq i a) [
          | inl e ↦ absurd (none-some n (sym free ∙ ap (λ (x : ℕ). partner q x) e ∙ at_joined p a n refl inside))
          | inr na ↦ elim (W.all i (omega arith) (sym (at_other p a n i refl na nn) ∙ free) is) [
            | inl closed ↦ inl (later_closed windows events i n (length q) (omega arith) closed)
            | inr w ↦
                let at_number = w.is in
                let within = w.within in
                elim (cases_lt w.number k) [
                  | inl h ↦ inr (record { number = w.number; within = omega arith; is = ap (λ (x : Stamp). x.index) (get_or-remove_below waiting k no_stamp w.number h lk) ∙ w.is })
                  | inr h ↦ elim (cases_eq w.number k) [
                    | inl e ↦ absurd (na (sym w.is ∙ ap (λ (x : ℕ). (stamp_under waiting x).index) e ∙ at))
                    | inr ne ↦
                        let back : w.number - 1 + 1 ≡ w.number = omega arith in
                        inr (record {
                          number = w.number - 1;
                          within = omega arith;
                          is = ap (λ (x : Stamp). x.index) (get_or-remove_above waiting k no_stamp (w.number - 1) (omega arith) lk) ∙ ap (λ (x : ℕ). (stamp_under waiting x).index) back ∙ w.is;
                        })
                  ]
                ]
          ]
        ]
      ];
    }
