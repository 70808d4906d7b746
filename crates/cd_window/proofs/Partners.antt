-- What the lists of events that wait tell of the partner of the next event.
use Rattle.std.proofs.Common.{◌≡◌, ℕ, ◌+◌, ◌-◌, ◌<◌, ◌≤◌, Bool, true, false, ◌&&◌, List, length, filter, Option, Some, None, refl, ap, sym, ◌∙◌, subst, arith, inl, inr, ◌⊎◌}
use Rattle.std.specs.Prelude.{is_none, IsSome, slice_get}
use Rattle.std.specs.Option.{option_map}
use Rattle.std.proofs.lemmas.Bool.{true≢false}
use Rattle.cd_pairing.specs.declared.keyed.TheConstants.{LEAST_WEIGHT}
use Rattle.cd_pairing.specs.declared.keyed.Side.{Side}
use Rattle.cd_pairing.specs.declared.keyed.Side.TheVariants.{Query, Response, Neither}
use Rattle.cd_pairing.specs.declared.keyed.Windows.{Windows}
use Rattle.cd_pairing.specs.Events.{EventView, are_opposite}
use Rattle.cd_pairing.specs.Pairing.{StampedEvent, timeout, identifiers_agree, is_in_window, may_pair}
use Rattle.cd_pairing.proofs.OpenWindows.{in_window_from, in_window_parts}
use Rattle.cd_window.specs.declared.held.Held.{Held}
use Rattle.cd_window.specs.declared.stamps.Stamp.{Stamp}
use Rattle.cd_window.specs.Seen.{Seen, count_of, stamped, waits_after}
use Rattle.cd_window.specs.Keeping.{StampsRise}
use Rattle.cd_window.specs.Places.{with_stamp, place_at, place_fits, NothingFits, FirstFits, IsAmong, HoldsNext, Puts}
use Rattle.cd_window.specs.Waiting.{Waits, waits_with, waits_at, same_side, waits_from, is_waiting, waiting, stamped_waits, waits_still, agrees_with, agreeing}
use Rattle.cd_window.specs.Joining.{before_next}
use Rattle.cd_window.proofs.Closing.{open_parts, open_from, stands}
use Rattle.cd_window.proofs.Conjunctions.{and_false}
use Rattle.cd_window.proofs.Popped.{place_within}
use Rattle.cd_window.proofs.Putting.{IsNext}
use Rattle.cd_window.proofs.Picking.{waits_filter, waits_same, waits_first, waits_none}

-- the same side is the one that is told
pub side_is : (a b : Side) → same_side a b ≡ true → a ≡ b
side_is Query Query h = refl
side_is Response Response h = refl
side_is Neither Query h = absurd (true≢false (sym h))
side_is Neither Response h = absurd (true≢false (sym h))
side_is Neither Neither h = refl
side_is Query Response h = absurd (true≢false (sym h))
side_is Query Neither h = absurd (true≢false (sym h))
side_is Response Query h = absurd (true≢false (sym h))
side_is Response Neither h = absurd (true≢false (sym h))

-- what waits by a later stamp waited by an earlier one
pub still_sooner : (windows : Windows) (side : Side) (a b : Stamp) (x : Waits) → a.index ≤ b.index → a.clock ≤ b.clock → a.weight_sum ≤ b.weight_sum → waits_still windows side b x ≡ true → waits_still windows side a x ≡ true
still_sooner windows side a b x hi hc hs h =
    let W = open_parts windows b.index b.clock b.weight_sum (stamped_waits side x) h in
    let near : b.index - x.index < windows.count = W.near in
    let time : b.clock - x.clock ≤ timeout windows side = W.time in
    let light : b.weight_sum - x.weight_sum + x.weight + LEAST_WEIGHT ≤ windows.bytes = W.light in
    open_from windows a.index a.clock a.weight_sum (stamped_waits side x) (record {
      near = let g : a.index - x.index < windows.count = omega arith in g;
      time = let g : a.clock - x.clock ≤ timeout windows side = omega arith in g;
      light = let g : a.weight_sum - x.weight_sum + x.weight + LEAST_WEIGHT ≤ windows.bytes = omega arith in g;
    })

-- two tests that imply each other are the same
same_test : (a b : Bool) → (a ≡ true → b ≡ true) → (b ≡ true → a ≡ true) → a ≡ b
same_test true b f g = sym (f refl)
same_test false true f g = g refl
same_test false false f g = refl

-- who waits by the stamp before the next event has it in its window
window_is : (windows : Windows) (a b : StampedEvent) (next : Stamp) → b.index ≡ next.index → b.clock ≡ next.clock → b.weight_sum ≡ next.weight_sum → a.weight_sum + LEAST_WEIGHT ≤ next.weight_sum →
    waits_after windows next.index next.clock (next.weight_sum - LEAST_WEIGHT) a ≡ is_in_window windows a b
window_is windows a b next ei ec es le = same_test (waits_after windows next.index next.clock (next.weight_sum - LEAST_WEIGHT) a) (is_in_window windows a b)
    (λ h.
    let W = open_parts windows next.index next.clock (next.weight_sum - LEAST_WEIGHT) a h in
    let near = W.near in
    let time = W.time in
    let light = W.light in
    in_window_from windows a b (omega arith) (omega arith) (omega arith))
    (λ h.
    let T = in_window_parts windows a b h in
    let near = T.near in
    let time = T.time in
    let light = T.light in
    open_from windows next.index next.clock (next.weight_sum - LEAST_WEIGHT) a (record { near = omega arith; time = omega arith; light = omega arith }))

-- the side that an event of this side is paired with
pub opposite_query : (a : Side) → same_side a Response ≡ are_opposite a Query
opposite_query Query = refl
opposite_query Response = refl
opposite_query Neither = refl

pub opposite_response : (a : Side) → same_side a Query ≡ are_opposite a Response
opposite_response Query = refl
opposite_response Response = refl
opposite_response Neither = refl

opposite_neither : (a : Side) → are_opposite a Neither ≡ false
opposite_neither Query = refl
opposite_neither Response = refl
opposite_neither Neither = refl

-- how an event that waits is found to fit the next one
fits_is : (s n o b d : Bool) → (b ≡ true → o ≡ true) → (s && (n && o) && b && d) ≡ (n && (s && d && b))
fits_is true true true b d h = swap b d
  where
    swap : (x y : Bool) → (x && y) ≡ (y && x)
    swap true true = refl
    swap true false = refl
    swap false true = refl
    swap false false = refl
fits_is true true false true d h = absurd (true≢false (sym (h refl)))
fits_is true true false false true h = refl
fits_is true true false false false h = refl
fits_is true false o b d h = refl
fits_is false true o b d h = refl
fits_is false false o b d h = refl

-- whether what is held at this position may stand with the next event
abbrev fits : {E : Type 0} → (E → EventView) → Windows → E → Stamp → ℕ → Held E → Bool
fits view windows e next j h = is_none h.partner && may_pair windows (stamped view j h) (with_stamp (view e) next)

fits_parts : {E : Type 0} (view : E → EventView) (windows : Windows) (e : E) (next : Stamp) (j : ℕ) (h : Held E) →
    fits view windows e next j h ≡ (is_none h.partner && (are_opposite (view h.event).side (view e).side && identifiers_agree (view h.event) (view e) && is_in_window windows (stamped view j h) (with_stamp (view e) next)))
unfolding may_pair
fits_parts view windows e next j h = refl

-- what waits by the stamp before the next event had an open window
pub open_before : {E : Type 0} (view : E → EventView) (w : Seen E) (e : E) (next : Stamp) → IsNext view w e next → LEAST_WEIGHT ≤ (view e).weight → (side : Side) (x : Waits) →
    waits_still w.windows side (before_next next) x ≡ true → waits_still w.windows side (record { index = count_of w; clock = w.clock; weight_sum = w.weight_sum }) x ≡ true
open_before view w e next N heavy side x h =
    let i = N.index in
    let c = N.clock in
    let s = N.weight_sum in
    still_sooner w.windows side (record { index = count_of w; clock = w.clock; weight_sum = w.weight_sum }) (before_next next) x (omega arith) (omega arith) (omega arith) h

fits_same : {E : Type 0} (view : E → EventView) (w : Seen E) (e : E) (next : Stamp) → IsNext view w e next → LEAST_WEIGHT ≤ (view e).weight → (other : Side) (j : ℕ) (h : Held E) →
    same_side (view h.event).side other ≡ are_opposite (view h.event).side (view e).side → h.weight_sum ≤ w.weight_sum →
    (is_waiting view w other j h && waits_still w.windows other (before_next next) (waits_at view j h) && agrees_with (waits_with (view e) next.index next.clock next.weight_sum) (waits_at view j h)) ≡ fits view w.windows e next j h
fits_same {E} view w e next N heavy other j h opp le = by (same_side (view h.event).side other) refl
  where
    own : waits_still w.windows (view h.event).side (before_next next) (waits_at view j h) ≡ is_in_window w.windows (stamped view j h) (with_stamp (view e) next)
    own = let s = N.weight_sum in window_is w.windows (stamped view j h) (with_stamp (view e) next) next refl refl refl (let g : h.weight_sum + LEAST_WEIGHT ≤ next.weight_sum = omega arith in g)

    by : (s : Bool) → s ≡ same_side (view h.event).side other →
        (is_waiting view w other j h && waits_still w.windows other (before_next next) (waits_at view j h) && agrees_with (waits_with (view e) next.index next.clock next.weight_sum) (waits_at view j h)) ≡ fits view w.windows e next j h
    by true q =
        let told : (view h.event).side ≡ other = side_is (view h.event).side other (sym q) in
        let still : waits_still w.windows other (before_next next) (waits_at view j h) ≡ is_in_window w.windows (stamped view j h) (with_stamp (view e) next) =
        ap (λ (t : Side). waits_still w.windows t (before_next next) (waits_at view j h)) (sym told) ∙ own in
        ap (λ (b : Bool). is_waiting view w other j h && b && identifiers_agree (view h.event) (view e)) still
        ∙ fits_is (same_side (view h.event).side other) (is_none h.partner) (waits_after w.windows (count_of w) w.clock w.weight_sum (stamped view j h)) (is_in_window w.windows (stamped view j h) (with_stamp (view e) next)) (identifiers_agree (view h.event) (view e))
        (λ b. open_before view w e next N heavy (view h.event).side (waits_at view j h) (own ∙ b))
        ∙ ap (λ (b : Bool). is_none h.partner && (b && identifiers_agree (view h.event) (view e) && is_in_window w.windows (stamped view j h) (with_stamp (view e) next))) opp
        ∙ sym (fits_parts view w.windows e next j h)
    by false q =
        let no_side : same_side (view h.event).side other ≡ false = sym q in
        let no_opp : are_opposite (view h.event).side (view e).side ≡ false = sym opp ∙ no_side in
        ap (λ (b : Bool). b && (is_none h.partner && waits_after w.windows (count_of w) w.clock w.weight_sum (stamped view j h)) && waits_still w.windows other (before_next next) (waits_at view j h) && identifiers_agree (view h.event) (view e)) no_side
        ∙ sym (and_false (is_none h.partner))
        ∙ ap (λ (b : Bool). is_none h.partner && (b && identifiers_agree (view h.event) (view e) && is_in_window w.windows (stamped view j h) (with_stamp (view e) next))) (sym no_opp)
        ∙ sym (fits_parts view w.windows e next j h)

-- the partner that is found
pub record FoundAt {E : Type 0} (view : E → EventView) (w : Seen E) (e : E) (next : Stamp) (met : Option ℕ) : Type 0 where
  pub place : ℕ
  pub was : Held E
  pub is : met ≡ Some (w.first + place)
  pub there : place_at w.held place ≡ Some was
  pub first_fits : FirstFits view w.windows w.first w.held (with_stamp (view e) next) place

-- there is none
pub record FoundNone {E : Type 0} (view : E → EventView) (w : Seen E) (e : E) (next : Stamp) (met : Option ℕ) : Type 0 where
  pub is : met ≡ None
  pub none : NothingFits view w.windows w.first w.held (with_stamp (view e) next) (length w.held)

abbrev pub Found : {E : Type 0} → (E → EventView) → Seen E → E → Stamp → Option ℕ → Type 0
Found view w e next met = FoundAt view w e next met ⊎ FoundNone view w e next met

-- where nothing that is held fits, no place does
no_place : {E : Type 0} (view : E → EventView) (windows : Windows) (e : E) (next : Stamp) (position : ℕ) (o : Option (Held E)) → ((h : Held E) → o ≡ Some h → fits view windows e next position h ≡ false) → place_fits view windows position o (with_stamp (view e) next) ≡ false
no_place view windows e next position None h = refl
no_place view windows e next position (Some x) h = h x refl

pub finds : {E : Type 0} (view : E → EventView) (w : Seen E) (e : E) (next : Stamp) → IsNext view w e next → LEAST_WEIGHT ≤ (view e).weight → StampsRise view 0 0 w.held w.clock w.weight_sum → (other : Side) →
    ((a : Side) → same_side a other ≡ are_opposite a (view e).side) → (met : Option ℕ) → met ≡ agreeing (waits_with (view e) next.index next.clock next.weight_sum) (filter (waits_still w.windows other (before_next next)) (waiting view w other)) → Found view w e next met
finds {E} view w e next N heavy R other opp met em = by (slice_get (waits_from view (fits view w.windows e next) w.first w.held) 0) refl
  where
    a : Waits
    a = waits_with (view e) next.index next.clock next.weight_sum

    picked : filter (agrees_with (waits_with (view e) next.index next.clock next.weight_sum)) (filter (waits_still w.windows other (before_next next)) (waiting view w other)) ≡ waits_from view (fits view w.windows e next) w.first w.held
    picked = ap (filter (agrees_with (waits_with (view e) next.index next.clock next.weight_sum))) (waits_filter view (waits_still w.windows other (before_next next)) (is_waiting view w other) w.first w.held)
        ∙ waits_filter view (agrees_with (waits_with (view e) next.index next.clock next.weight_sum)) (λ j h. is_waiting view w other j h && waits_still w.windows other (before_next next) (waits_at view j h)) w.first w.held
        ∙ waits_same view (λ j h. is_waiting view w other j h && waits_still w.windows other (before_next next) (waits_at view j h) && agrees_with (waits_with (view e) next.index next.clock next.weight_sum) (waits_at view j h)) (fits view w.windows e next) w.first w.held
        (λ k j h q at. fits_same view w e next N heavy other j h (opp (view h.event).side) (stands view 0 0 w.held k h w.clock w.weight_sum at R).last_sum)

    met_is : met ≡ option_map (λ x. x.index) (slice_get (waits_from view (fits view w.windows e next) w.first w.held) 0)
    met_is = em ∙ ap (λ (xs : List Waits). option_map (λ x. x.index) (slice_get xs 0)) picked

    by : (o : Option Waits) → slice_get (waits_from view (fits view w.windows e next) w.first w.held) 0 ≡ o → Found view w e next met
    by None q = inr (record {
      is = met_is ∙ ap (option_map (λ x. x.index)) q;
      none = record { none = λ k lt. no_place view w.windows e next (w.first + k) (place_at w.held k) (λ h at. waits_none view (fits view w.windows e next) w.first w.held q k h at) };
    })
    by (Some x) q =
        let F = waits_first view (fits view w.windows e next) w.first w.held x q in
        inl (record {
          place = F.place;
          was = F.event;
          is = met_is ∙ ap (option_map (λ y. y.index)) q ∙ ap (λ (y : Waits). Some y.index) F.is;
          there = F.there;
          first_fits = record {
            within = place_within w.held F.place F.event F.there;
            fits = ap (λ (o : Option (Held E)). place_fits view w.windows (w.first + F.place) o (with_stamp (view e) next)) F.there ∙ F.passes;
            earlier = record { none = λ k lt. no_place view w.windows e next (w.first + k) (place_at w.held k) (λ h at. F.earlier k h lt at) };
          };
        })

-- an event that is no query and no response finds none
pub finds_none : {E : Type 0} (view : E → EventView) (w : Seen E) (e : E) (next : Stamp) (met : Option ℕ) → (view e).side ≡ Neither → met ≡ None → Found view w e next met
finds_none {E} view w e next met side em = inr (record {
  is = em;
  none = record {
    none = λ k lt. no_place view w.windows e next (w.first + k) (place_at w.held k)
        (λ h at.
        let opp : are_opposite (view h.event).side (view e).side ≡ false = ap (are_opposite (view h.event).side) side ∙ opposite_neither (view h.event).side in
        fits_parts view w.windows e next (w.first + k) h
        ∙ ap (λ (b : Bool). is_none h.partner && (b && identifiers_agree (view h.event) (view e) && is_in_window w.windows (stamped view (w.first + k) h) (with_stamp (view e) next))) opp
        ∙ and_false (is_none h.partner));
  };
})

-- the partner that is found is held
pub found_among : {E : Type 0} (view : E → EventView) (w : Seen E) (e : E) (next : Stamp) (met : Option ℕ) → Found view w e next met → IsAmong w.first w.held met
found_among {E} view w e next met F = elim F [
  | inl A ↦
      let z : w.first + A.place - w.first ≡ A.place = omega arith in
      subst (IsAmong w.first w.held) (sym A.is) (omega arith, subst (λ (k : ℕ). IsSome (place_at w.held k)) (sym z) (subst (λ (o : Option (Held E)). IsSome o) (sym A.there) refl))
  | inr A ↦ subst (IsAmong w.first w.held) (sym A.is) tt
]

-- the next event is held with the partner that is found
pub found_puts : {E : Type 0} (view : E → EventView) (w : Seen E) (e : E) (next : Stamp) (met : Option ℕ) (new : List (Option (Held E))) → Found view w e next met → HoldsNext w.first w.held e next met new → Puts view w.windows w.first w.held e next new
found_puts view w e next met new F H = elim F [
  | inl A ↦ inl (record { place = A.place; was = A.was; fits = A.first_fits; there = A.there; left = H.paired A.place A.was A.is A.there })
  | inr A ↦ inr (record { none = A.none; left = H.alone A.is })
]
