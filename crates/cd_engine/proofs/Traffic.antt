-- What is held stays the traffic of DNS as events are pushed and records are popped, and what is popped is a record of
-- light events, each of its kind.
use Rattle.std.proofs.Common.{◌≡◌, ℕ, zero, suc, ◌+◌, ◌-◌, ◌<◌, ◌≤◌, ◌⊎◌, inl, inr, true, List, [], ◌∷◌, ◌++◌, length, drop, set, get_or, Option, Some, None, refl, ap, sym, ◌∙◌, subst, arith, length-set, length-drop}
use Rattle.std.specs.List.{All}
use Rattle.std.proofs.lemmas.Bool.{and_parts, cases_lt, false≢true}
use Rattle.std.proofs.lemmas.Option.{none-some, same_Some}
use Rattle.std.proofs.lemmas.List.{get_or-drop, get_or_past, length_push}
use Rattle.std.proofs.lemmas.List.Elements.{All-cons, All-nil}
use Rattle.cd_hints.specs.Records.{HasKinds}
use Rattle.cd_ident.specs.Events.{EventParts}
use Rattle.cd_ident.specs.Keys.{parts_of, view_of, side_of}
use Rattle.cd_ident.specs.declared.event.Event.{Event}
use Rattle.cd_ident.specs.declared.event.Kind.{Kind}
use Rattle.cd_ident.specs.declared.event.Kind.TheVariants as kind
use Rattle.cd_ident.specs.declared.event_making.TheConstants.{GREATEST_WEIGHT}
use Rattle.cd_pairing.specs.declared.keyed.Side.{Side}
use Rattle.cd_pairing.specs.declared.keyed.Side.TheVariants.{Query, Response, Neither}
use Rattle.cd_pairing.specs.declared.keyed.Windows.{Windows}
use Rattle.cd_pairing.specs.Events.{are_opposite}
use Rattle.cd_pairing.specs.Pairing.{StampedEvent, may_pair}
use Rattle.cd_record.specs.Laws.{IsLight, events_of}
use Rattle.cd_window.specs.declared.held.Held.{Held}
use Rattle.cd_window.specs.declared.released.Released.{Released}
use Rattle.cd_window.specs.Pops.{IsTrimmed, IsLeft, in_order, IsPopped}
use Rattle.cd_window.specs.Pushes.{next_held, with_partner, JoinsAt, StaysAlone, IsPushed}
use Rattle.cd_window.specs.Seen.{Places, Seen, empty_window, count_of, held_at, stamped}
use Rattle.cd_engine.specs.Blocks.{released_parts, HoldsTraffic}
use Rattle.cd_engine.specs.Records.{single_of_kind, single_record}

-- an empty window holds nothing
pub nothing_held : (windows : Windows) → HoldsTraffic (empty_window windows)
nothing_held windows = record {
  light = λ k h at. absurd (none-some h (sym (get_or_past [] k None (omega arith)) ∙ at));
  within = λ k j h at p. absurd (none-some h (sym (get_or_past [] k None (omega arith)) ∙ at));
  opposite = λ k l h o at there p. absurd (none-some h (sym (get_or_past [] k None (omega arith)) ∙ at));
}

-- what is at a place with one element more: what was there, or the new one at the end
at_push : {X : Type 0} (xs : List (Option X)) (y : X) (k : ℕ) (h : X) → get_or (xs ++ Some y ∷ []) k None ≡ Some h →
    (get_or xs k None ≡ Some h) ⊎ ((k ≡ length xs) × (y ≡ h))
at_push [] y zero h e = inr (refl, same_Some y h e)
at_push [] y (suc k) h e = absurd (none-some h e)
at_push (x ∷ xs) y zero h e = inl e
at_push (x ∷ xs) y (suc k) h e = elim (at_push xs y k h e) [
  | inl p ↦ inl p
  | inr p ↦ inr (ap (λ (n : ℕ). suc n) p.0, p.1)
]

-- what is at a place after a write: what was there, or what was written
at_set : {X : Type 0} (xs : List (Option X)) (i : ℕ) (o : Option X) (k : ℕ) (h : X) →
    get_or (set xs i o) k None ≡ Some h → (get_or xs k None ≡ Some h) ⊎ ((k ≡ i) × (o ≡ Some h))
at_set [] i o k h e = inl e
at_set (x ∷ xs) zero o zero h e = inr (refl, e)
at_set (x ∷ xs) zero o (suc k) h e = inl e
at_set (x ∷ xs) (suc i) o zero h e = inl e
at_set (x ∷ xs) (suc i) o (suc k) h e = elim (at_set xs i o k h e) [
  | inl p ↦ inl p
  | inr p ↦ inr (ap (λ (n : ℕ). suc n) p.0, p.1)
]

-- where something is held, the place is one of the list
place_below : {X : Type 0} (xs : List (Option X)) (k : ℕ) (h : X) → get_or xs k None ≡ Some h → k < length xs
place_below xs k h e = elim (cases_lt k (length xs)) [
  | inl lt ↦ lt
  | inr past ↦ absurd (none-some h (sym (get_or_past xs k None past) ∙ e))
]

-- what is held after a push: what was held, the place that was joined, with its event, or the next event
data Origin (w : Seen Event) (e : Event) (place : ℕ) (was : Held Event) (k : ℕ) (h : Held Event) : Type 0 where
  old : held_at w k ≡ Some h → Origin w e place was k h
  mate : k ≡ place → h.event ≡ was.event → h.partner ≡ Some (count_of w) → Origin w e place was k h
  next : k ≡ length w.held → h.event ≡ e → h.partner ≡ Some (w.first + place) → Origin w e place was k h

joined_origin : (w : Seen Event) (e : Event) (new : Places Event) (J : JoinsAt view_of w e new) (k : ℕ) (h : Held Event) →
    get_or new k None ≡ Some h → Origin w e J.place J.was k h
joined_origin w e new J k h at =
    let mated : Held Event = with_partner J.was (count_of w) in
    let n : Held Event = next_held view_of w e (Some (w.first + J.place)) in
    let there : get_or (set w.held J.place (Some mated) ++ Some n ∷ []) k None ≡ Some h = sym (ap (λ (xs : Places Event). get_or xs k None) J.new_is) ∙ at in
    elim (at_push (set w.held J.place (Some mated)) n k h there) [
      | inr p ↦ next (p.0 ∙ length-set w.held J.place (Some mated)) (sym (ap (λ (x : Held Event). x.event) p.1)) (sym (ap (λ (x : Held Event). x.partner) p.1))
      | inl p ↦ elim (at_set w.held J.place (Some mated) k h p) [
        | inl q ↦ old q
        | inr q ↦ let same : mated ≡ h = same_Some mated h q.1 in
            mate q.0 (sym (ap (λ (x : Held Event). x.event) same)) (sym (ap (λ (x : Held Event). x.partner) same))
      ]
    ]

-- the two that join are opposite
fits_opposite : (windows : Windows) (a b : StampedEvent) → may_pair windows a b ≡ true → are_opposite a.view.side b.view.side ≡ true
unfolding may_pair
fits_opposite windows a b e = (and_parts _ _ (and_parts _ _ e).0).0

opposite_back : (a b : Side) → are_opposite a b ≡ true → are_opposite b a ≡ true
opposite_back Query Response e = refl
opposite_back Response Query e = refl
opposite_back Query Query e = e
opposite_back Query Neither e = absurd (false≢true e)
opposite_back Response Response e = e
opposite_back Response Neither e = absurd (false≢true e)
opposite_back Neither Query e = absurd (false≢true e)
opposite_back Neither Response e = absurd (false≢true e)
opposite_back Neither Neither e = e

-- two events of which one is this
opposite_events : (a b c d : Event) → c ≡ a → d ≡ b → are_opposite (view_of a).side (view_of b).side ≡ true →
    are_opposite (view_of c).side (view_of d).side ≡ true
opposite_events a b c d p q e =
    ap (λ (x : Event). are_opposite (view_of x).side (view_of d).side) p
    ∙ ap (λ (x : Event). are_opposite (view_of a).side (view_of x).side) q ∙ e

-- what of a joined window is said of each place
joined_light : (w : Seen Event) (e : Event) (place : ℕ) (was : Held Event) → HoldsTraffic w → e.weight ≤ GREATEST_WEIGHT → held_at w place ≡ Some was →
    (k : ℕ) (h : Held Event) → Origin w e place was k h → h.event.weight ≤ GREATEST_WEIGHT
joined_light w e place was T light held k h (old q) = T.light k h q
joined_light w e place was T light held k h (mate q x p) = subst (λ (y : Event). y.weight ≤ GREATEST_WEIGHT) (sym x) (T.light place was held)
joined_light w e place was T light held k h (next q x p) = subst (λ (y : Event). y.weight ≤ GREATEST_WEIGHT) (sym x) light

joined_within : (w : Seen Event) (e : Event) (place : ℕ) (was : Held Event) → HoldsTraffic w → place < length w.held →
    (k j : ℕ) (h : Held Event) → Origin w e place was k h → h.partner ≡ Some j → j < count_of w + 1
joined_within w e place was T lt k j h (old q) p = let b = T.within k j h q p in omega arith
joined_within w e place was T lt k j h (mate q x r) p = let s : count_of w ≡ j = same_Some (count_of w) j (sym r ∙ p) in omega arith
joined_within w e place was T lt k j h (next q x r) p = let s : w.first + place ≡ j = same_Some (w.first + place) j (sym r ∙ p) in omega arith

joined_opposite : (w : Seen Event) (e : Event) (place : ℕ) (was : Held Event) → HoldsTraffic w → place < length w.held → held_at w place ≡ Some was →
    are_opposite (view_of was.event).side (view_of e).side ≡ true →
    (k l : ℕ) (h o : Held Event) → Origin w e place was k h → Origin w e place was l o → h.partner ≡ Some (w.first + l) →
    are_opposite (view_of h.event).side (view_of o.event).side ≡ true
joined_opposite w e place was T lt held fits k l h o (old q) (old r) p = T.opposite k l h o q r p
joined_opposite w e place was T lt held fits k l h o (old q) (mate at x m) p =
    let there : h.partner ≡ Some (w.first + place) = p ∙ ap (λ (n : ℕ). Some (w.first + n)) at in
    opposite_events h.event was.event h.event o.event refl x (T.opposite k place h was q held there)
joined_opposite w e place was T lt held fits k l h o (old q) (next at x m) p =
    let b : w.first + l < count_of w = T.within k (w.first + l) h q p in absurd (omega arith)
joined_opposite w e place was T lt held fits k l h o (mate at x m) (old r) p =
    let s : count_of w ≡ w.first + l = same_Some (count_of w) (w.first + l) (sym m ∙ p) in
    let b = place_below w.held l o r in absurd (omega arith)
joined_opposite w e place was T lt held fits k l h o (mate at x m) (mate there y n) p =
    let s : count_of w ≡ w.first + l = same_Some (count_of w) (w.first + l) (sym m ∙ p) in absurd (omega arith)
joined_opposite w e place was T lt held fits k l h o (mate at x m) (next there y n) p =
    opposite_events was.event e h.event o.event x y fits
joined_opposite w e place was T lt held fits k l h o (next at x m) (old r) p =
    let s : w.first + place ≡ w.first + l = same_Some (w.first + place) (w.first + l) (sym m ∙ p) in
    let z : l ≡ place = omega arith in
    let same : was ≡ o = same_Some was o (sym held ∙ ap (held_at w) (sym z) ∙ r) in
    opposite_events e was.event h.event o.event x (sym (ap (λ (y : Held Event). y.event) same)) (opposite_back _ _ fits)
joined_opposite w e place was T lt held fits k l h o (next at x m) (mate there y n) p =
    opposite_events e was.event h.event o.event x y (opposite_back _ _ fits)
joined_opposite w e place was T lt held fits k l h o (next at x m) (next there y n) p =
    let s : w.first + place ≡ w.first + l = same_Some (w.first + place) (w.first + l) (sym m ∙ p) in absurd (omega arith)

joined_traffic : (w : Seen Event) (e : Event) (new : Seen Event) → HoldsTraffic w → e.weight ≤ GREATEST_WEIGHT →
    new.first ≡ w.first → JoinsAt view_of w e new.held → HoldsTraffic new
joined_traffic w e new T light first J =
    let origin = joined_origin w e new.held J in
    let n : length new.held ≡ length w.held + 1 = ap length J.new_is ∙ length_push (set w.held J.place (Some (with_partner J.was (count_of w)))) (Some (next_held view_of w e (Some (w.first + J.place)))) ∙ ap (λ (m : ℕ). m + 1) (length-set w.held J.place (Some (with_partner J.was (count_of w)))) in
    let fits : are_opposite (view_of J.was.event).side (view_of e).side ≡ true =
    fits_opposite w.windows (stamped view_of (w.first + J.place) J.was) (stamped view_of (count_of w) (next_held view_of w e None)) J.fits in
    record {
      light = λ k h at. joined_light w e J.place J.was T light J.held k h (origin k h at);
      within = λ k j h at p. let b = joined_within w e J.place J.was T J.within k j h (origin k h at) p in omega arith;
      opposite = λ k l h o at there p. joined_opposite w e J.place J.was T J.within J.held fits k l h o (origin k h at) (origin l o there) (p ∙ ap (λ (m : ℕ). Some (m + l)) first);
    }

alone_traffic : (w : Seen Event) (e : Event) (new : Seen Event) → HoldsTraffic w → e.weight ≤ GREATEST_WEIGHT →
    new.first ≡ w.first → StaysAlone view_of w e new.held → HoldsTraffic new
alone_traffic w e new T light first A =
    let one : Held Event = next_held view_of w e None in
    let n : length new.held ≡ length w.held + 1 = ap length A.new_is ∙ length_push w.held (Some one) in
    let there : (k : ℕ) (h : Held Event) → held_at new k ≡ Some h → (held_at w k ≡ Some h) ⊎ ((k ≡ length w.held) × (one ≡ h)) =
    λ k h at. at_push w.held one k h (sym (ap (λ (xs : Places Event). get_or xs k None) A.new_is) ∙ at) in
    record {
      light = λ k h at. elim (there k h at) [
        | inl q ↦ T.light k h q
        | inr q ↦ subst (λ (x : Held Event). x.event.weight ≤ GREATEST_WEIGHT) q.1 light
      ];
      within = λ k j h at p. elim (there k h at) [
        | inl q ↦ let b = T.within k j h q p in omega arith
        | inr q ↦ absurd (none-some j (ap (λ (x : Held Event). x.partner) q.1 ∙ p))
      ];
      opposite = λ k l h o at to p. elim (there k h at) [
        | inr q ↦ absurd (none-some (new.first + l) (ap (λ (x : Held Event). x.partner) q.1 ∙ p))
        | inl q ↦ let known : h.partner ≡ Some (w.first + l) = p ∙ ap (λ (m : ℕ). Some (m + l)) first in elim (there l o to) [
          | inl r ↦ T.opposite k l h o q r known
          | inr r ↦ let b : w.first + l < count_of w = T.within k (w.first + l) h q known in let z : l ≡ length w.held = r.0 in absurd (omega arith)
        ]
      ];
    }

-- a push of a light event
pub traffic_pushed : (w : Seen Event) (e : Event) (new : Seen Event) → HoldsTraffic w → e.weight ≤ GREATEST_WEIGHT →
    IsPushed view_of w e new → HoldsTraffic new
traffic_pushed w e new T light P = elim P.held [
  | inl J ↦ joined_traffic w e new T light P.first J
  | inr A ↦ alone_traffic w e new T light P.first A
]

-- what is left when the front is gone
left_traffic : (w : Seen Event) (rest : Places Event) (new : Seen Event) → HoldsTraffic w → length rest ≡ length w.held →
    ((k : ℕ) (h : Held Event) → get_or rest k None ≡ Some h → held_at w k ≡ Some h) → IsLeft w rest new → HoldsTraffic new
left_traffic w rest new T size inside L =
    let gone : ℕ = 1 + L.skipped in
    let after : Seen Event = record w { first = w.first + gone; held = drop gone rest } in
    let short = L.within in
    let there : (k : ℕ) (h : Held Event) → get_or (drop gone rest) k None ≡ Some h → held_at w (gone + k) ≡ Some h =
    λ k h at. inside (gone + k) h (sym (get_or-drop gone rest k None) ∙ at) in
    let T2 : HoldsTraffic after = record {
      light = λ k h at. T.light (gone + k) h (there k h at);
      within = λ k j h at p. let b = T.within (gone + k) j h (there k h at) p in let n = length-drop gone rest in omega arith;
      opposite = λ k l h o at to p. let z : w.first + gone + l ≡ w.first + (gone + l) = omega arith in
          T.opposite (gone + k) (gone + l) h o (there k h at) (there l o to) (p ∙ ap (λ (n : ℕ). Some n) z);
    } in
    subst HoldsTraffic (sym L.new_is) T2

emptied : (w : Seen Event) (place : ℕ) (k : ℕ) (h : Held Event) → get_or (set w.held place None) k None ≡ Some h → held_at w k ≡ Some h
emptied w place k h e = elim (at_set w.held place None k h e) [
  | inl q ↦ q
  | inr q ↦ absurd (none-some h q.1)
]

-- a pop
pub traffic_popped : (w : Seen Event) (r : Released Event) (new : Seen Event) → HoldsTraffic w → IsPopped view_of w (Some r) new → HoldsTraffic new
traffic_popped w r new T P = elim P.1 [
  | inl O ↦ left_traffic w w.held new T refl (λ k h at. at) O.left
  | inr M ↦ left_traffic w (set w.held M.place None) new T (length-set w.held M.place None) (emptied w M.place) M.left
]

-- what stays the same in a pop
pub record IsSameBehind (w new : Seen Event) : Type 0 where
  pub windows : new.windows ≡ w.windows
  pub finished : new.finished ≡ w.finished
  pub weight_sum : new.weight_sum ≡ w.weight_sum
  pub trimmed : IsTrimmed new
  pub fewer : length new.held < length w.held

left_same : (w : Seen Event) (rest : Places Event) (new : Seen Event) → length rest ≡ length w.held → IsLeft w rest new → IsSameBehind w new
left_same w rest new size L =
    let n : length new.held ≡ length rest - (1 + L.skipped) = ap (λ (x : Seen Event). length x.held) L.new_is ∙ length-drop (1 + L.skipped) rest in
    let short = L.within in
    record {
      windows = ap (λ (x : Seen Event). x.windows) L.new_is;
      finished = ap (λ (x : Seen Event). x.finished) L.new_is;
      weight_sum = ap (λ (x : Seen Event). x.weight_sum) L.new_is;
      trimmed = L.trimmed;
      fewer = omega arith;
    }

pub popped_same : (w : Seen Event) (r : Released Event) (new : Seen Event) → IsPopped view_of w (Some r) new → IsSameBehind w new
popped_same w r new P = elim P.1 [
  | inl O ↦ left_same w w.held new refl O.left
  | inr M ↦ left_same w (set w.held M.place None) new (length-set w.held M.place None) M.left
]

-- an event as a record of its own has its kind
single_kind : (k : Kind) (e : EventParts) → e.kind ≡ k → HasKinds (single_of_kind k e)
single_kind kind.Query e p = p
single_kind kind.Response e p = p
single_kind kind.Malformed e p = p
single_kind kind.Discarded e p = p

pub single_has_kinds : (e : EventParts) → HasKinds (single_record e)
single_has_kinds e = single_kind e.kind e refl

query_side : (k : Kind) → side_of k ≡ Query → k ≡ kind.Query
query_side kind.Query p = refl
query_side kind.Response p = cc
query_side kind.Malformed p = cc
query_side kind.Discarded p = cc

response_side : (k : Kind) → side_of k ≡ Response → k ≡ kind.Response
response_side kind.Query p = cc
response_side kind.Response p = refl
response_side kind.Malformed p = cc
response_side kind.Discarded p = cc

opposite_of_query : (s : Side) → are_opposite Query s ≡ true → s ≡ Response
opposite_of_query Query e = absurd (false≢true e)
opposite_of_query Response e = refl
opposite_of_query Neither e = absurd (false≢true e)

opposite_of_response : (s : Side) → are_opposite Response s ≡ true → s ≡ Query
opposite_of_response Query e = refl
opposite_of_response Response e = absurd (false≢true e)
opposite_of_response Neither e = absurd (false≢true e)

opposite_of_neither : (s : Side) → are_opposite Neither s ≡ true → ⊥
opposite_of_neither Query e = false≢true e
opposite_of_neither Response e = false≢true e
opposite_of_neither Neither e = false≢true e

-- two opposite events in order are a query and a response
order_kinds : (s : Side) (lead : ℕ) (one other : Event) → (view_of one).side ≡ s → are_opposite s (view_of other).side ≡ true →
    HasKinds (released_parts (in_order s lead one other))
order_kinds Query lead one other p e = (query_side one.kind p, response_side other.kind (opposite_of_query (view_of other).side e))
order_kinds Response lead one other p e = (query_side other.kind (opposite_of_response (view_of other).side e), response_side one.kind p)
order_kinds Neither lead one other p e = absurd (opposite_of_neither (view_of other).side e)

-- each event of a record that is popped has the kind that the record names
pub popped_kinds : (w : Seen Event) (r : Released Event) (new : Seen Event) → HoldsTraffic w → IsPopped view_of w (Some r) new → HasKinds (released_parts r)
popped_kinds w r new T P = elim P.1 [
  | inl O ↦ subst (λ (x : Released Event). HasKinds (released_parts x)) (sym O.result_is) (single_has_kinds (parts_of O.was.event))
  | inr M ↦ subst (λ (x : Released Event). HasKinds (released_parts x)) (sym M.result_is)
      (order_kinds (view_of M.was.event).side w.first M.was.event M.other.event refl (T.opposite 0 M.place M.was M.other M.held M.other_held M.paired))
]

single_light : (k : Kind) (e : EventParts) → IsLight e → All IsLight (events_of (single_of_kind k e))
single_light kind.Query e p = All-cons IsLight e [] p (All-nil IsLight)
single_light kind.Response e p = All-cons IsLight e [] p (All-nil IsLight)
single_light kind.Malformed e p = All-cons IsLight e [] p (All-nil IsLight)
single_light kind.Discarded e p = All-cons IsLight e [] p (All-nil IsLight)

two_light : (a b : EventParts) → IsLight a → IsLight b → All IsLight (a ∷ b ∷ [])
two_light a b p q = All-cons IsLight a (b ∷ []) p (All-cons IsLight b [] q (All-nil IsLight))

order_light : (s : Side) (lead : ℕ) (one other : Event) → one.weight ≤ GREATEST_WEIGHT → other.weight ≤ GREATEST_WEIGHT →
    All IsLight (events_of (released_parts (in_order s lead one other)))
order_light Query lead one other p q = two_light (parts_of one) (parts_of other) p q
order_light Response lead one other p q = two_light (parts_of other) (parts_of one) q p
order_light Neither lead one other p q = two_light (parts_of one) (parts_of other) p q

-- the events of a record that is popped are light
pub popped_light : (w : Seen Event) (r : Released Event) (new : Seen Event) → HoldsTraffic w → IsPopped view_of w (Some r) new → All IsLight (events_of (released_parts r))
popped_light w r new T P = elim P.1 [
  | inl O ↦ subst (λ (x : Released Event). All IsLight (events_of (released_parts x))) (sym O.result_is)
      (single_light O.was.event.kind (parts_of O.was.event) (T.light 0 O.was O.held))
  | inr M ↦ subst (λ (x : Released Event). All IsLight (events_of (released_parts x))) (sym M.result_is)
      (order_light (view_of M.was.event).side w.first M.was.event M.other.event (T.light 0 M.was M.held) (T.light M.place M.other M.other_held))
]
