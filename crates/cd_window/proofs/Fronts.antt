-- What waits once the front is popped.
use Rattle.std.proofs.Common.{◌≡◌, ℕ, ◌+◌, ◌-◌, Bool, true, false, not, ◌&&◌, eqb, List, length, set, Option, Some, None, refl, ap, sym, ◌∙◌, arith, inl, inr, length-set, length-drop}
use Rattle.std.specs.Prelude.{is_none}
use Rattle.std.proofs.lemmas.Bool.{cases_eq, ne_eqb}
use Rattle.std.proofs.lemmas.Option.{none-some}
use Rattle.cd_pairing.specs.declared.keyed.Side.{Side}
use Rattle.cd_pairing.specs.declared.keyed.Side.TheVariants.{Query, Response}
use Rattle.cd_pairing.specs.Events.{EventView}
use Rattle.cd_window.specs.declared.held.Held.{Held}
use Rattle.cd_window.specs.declared.released.Released.{Released}
use Rattle.cd_window.specs.declared.waiting.Waiting.{Waiting}
use Rattle.cd_window.specs.Lists.{waits_in, IsListed, HasNoEmpty, KeepsWaiting}
use Rattle.cd_window.specs.Seen.{Seen, count_of, stamped, waits_after}
use Rattle.cd_window.specs.Keeping.{Keeps}
use Rattle.cd_window.specs.Places.{place_at, Trims, Takes}
use Rattle.cd_window.specs.Waiting.{same_side, waits_from, is_waiting, waiting, but_at}
use Rattle.cd_window.proofs.Conjunctions.{and_false, and_other}
use Rattle.cd_window.proofs.Picking.{waits_filter, waits_same, waits_set, waits_drop}
use Rattle.cd_window.proofs.Taking.{after}

-- what is picked of what is left
left_picked : {E : Type 0} (view : E → EventView) (test : ℕ → Held E → Bool) (first gone : ℕ) (rest mid new : List (Option (Held E))) → mid ≡ set rest 0 None → Trims mid new gone →
    waits_from view test (first + gone) new ≡ waits_from view (λ j h. test j h && not (eqb j first)) first rest
left_picked {E} view test first gone rest mid new em T =
    ap (waits_from view test (first + gone)) T.left
    ∙ waits_drop view test gone first (first + gone) mid refl T.empty T.within
    ∙ ap (waits_from view test first) em
    ∙ waits_set view test first 0 first rest None (omega arith) (λ h q. absurd (none-some h q))

-- a window counts the same events once the front is gone
same_count : {E : Type 0} (view : E → EventView) (w : Seen E) (gone : ℕ) (new : List (Option (Held E))) (side : Side) → w.first + gone + length new ≡ count_of w →
    waiting view (after w gone new) side ≡ waits_from view (is_waiting view w side) (w.first + gone) new
same_count view w gone new side e = ap (λ (n : ℕ). waits_from view (λ j h. same_side (view h.event).side side && (is_none h.partner && waits_after w.windows n w.clock w.weight_sum (stamped view j h))) (w.first + gone) new) e

-- once the front is popped, all wait but the front
pub pop_waits : {E : Type 0} (view : E → EventView) (w : Seen E) (count weight : ℕ) (r : Released E) (mid new : List (Option (Held E))) (gone : ℕ) (side : Side) → Keeps view w count weight → Takes view w.first w.held r mid → Trims mid new gone →
    but_at w.first (waiting view w side) ≡ waiting view (after w gone new) side
pop_waits {E} view w count weight r mid new gone side K P T = elim P [
  | inl Q ↦
      let lm : length mid ≡ length w.held = ap length Q.left ∙ length-set w.held 0 None in
      waits_filter view (λ x. not (eqb x.index w.first)) (is_waiting view w side) w.first w.held
      ∙ sym (left_picked view (is_waiting view w side) w.first gone w.held mid new Q.left T)
      ∙ sym (same_count view w gone new side (counted lm))
  | inr Q ↦
      let rest : List (Option (Held E)) = set w.held Q.place None in
      let i : ℕ = w.first + Q.place in
      let lm : length mid ≡ length w.held = ap length Q.left ∙ length-set rest 0 None ∙ length-set w.held Q.place None in
      let mate = K.mated 0 (w.first + Q.place) Q.was Q.held Q.paired in
      let n : w.first + Q.place ≡ w.first + mate.place = mate.is in
      let n' : mate.place ≡ Q.place = omega arith in
      let other_is : Some mate.other ≡ Some Q.other = sym mate.there ∙ ap (place_at w.held) n' ∙ Q.there in
      let same_other : mate.other ≡ Q.other = cc in
      let paired : Q.other.partner ≡ Some (w.first + 0) = ap (λ (y : Held E). y.partner) (sym same_other) ∙ mate.back in
      waits_filter view (λ x. not (eqb x.index w.first)) (is_waiting view w side) w.first w.held
      ∙ waits_same view (λ j h. is_waiting view w side j h && not (eqb j w.first)) (λ j h. is_waiting view w side j h && not (eqb j w.first) && not (eqb j i)) w.first w.held
      (λ k j h q at. elim (cases_eq k Q.place) [
        | inl z ↦
            let f : Some h ≡ Some Q.other = sym at ∙ ap (place_at w.held) z ∙ Q.there in
            let same : h ≡ Q.other = cc in
            let p : h.partner ≡ Some (w.first + 0) = ap (λ (y : Held E). y.partner) same ∙ paired in
            let out : is_waiting view w side j h ≡ false =
            ap (λ (o : Option ℕ). same_side (view h.event).side side && (is_none o && waits_after w.windows (count_of w) w.clock w.weight_sum (stamped view j h))) p
            ∙ and_false (same_side (view h.event).side side) in
            rw out refl
        | inr z ↦ and_other (is_waiting view w side j h && not (eqb j w.first)) j i (λ s. z (omega arith))
      ])
      ∙ sym (waits_set view (λ j h. is_waiting view w side j h && not (eqb j w.first)) w.first Q.place i w.held None refl (λ h q. absurd (none-some h q)))
      ∙ sym (left_picked view (is_waiting view w side) w.first gone rest mid new Q.left T)
      ∙ sym (same_count view w gone new side (counted lm))
]
  where
    counted : length mid ≡ length w.held → w.first + gone + length new ≡ count_of w
    counted lm =
        let ln : length new ≡ length mid - gone = ap length T.left ∙ length-drop gone mid in
        let within = T.within in
        omega arith

-- what waits once the front is popped and let go of
pub popped_waiting : {E : Type 0} (view : E → EventView) (w : Seen E) (count weight : ℕ) (r : Released E) (mid new : List (Option (Held E))) (gone : ℕ) (queries responses queries' responses' : Waiting) → Keeps view w count weight → KeepsWaiting view w queries responses → Takes view w.first w.held r mid → Trims mid new gone →
    IsListed queries' → HasNoEmpty queries' → waits_in queries' ≡ but_at w.first (waits_in queries) → IsListed responses' → HasNoEmpty responses' → waits_in responses' ≡ but_at w.first (waits_in responses) → KeepsWaiting view (after w gone new) queries' responses'
popped_waiting view w count weight r mid new gone queries responses queries' responses' K W P T ql qf qe rl rf re = record {
  queries_wait = record { listed = ql; filled = qf; waits_are = qe ∙ ap (but_at w.first) W.queries_wait.waits_are ∙ pop_waits view w count weight r mid new gone Query K P T };
  responses_wait = record { listed = rl; filled = rf; waits_are = re ∙ ap (but_at w.first) W.responses_wait.waits_are ∙ pop_waits view w count weight r mid new gone Response K P T };
}
