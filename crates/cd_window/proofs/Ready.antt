-- Where nothing is ready, all that is released was popped.
use Rattle.std.proofs.Common.{◌≡◌, ℕ, ◌+◌, ◌<◌, ◌≤◌, Bool, true, false, not, ◌||◌, List, [], length, take, map, Option, Some, None, refl, ap, sym, ◌∙◌, subst, arith, inl, inr}
use Rattle.std.specs.Prelude.{is_some}
use Rattle.std.proofs.lemmas.Bool.{cases_lt, true≢false}
use Rattle.std.proofs.lemmas.List.{length-map}
use Rattle.cd_pairing.specs.Events.{EventView, event_at}
use Rattle.cd_pairing.specs.Matching.{partner}
use Rattle.cd_pairing.specs.Pairing.{StampedEvent, IsPairing}
use Rattle.cd_pairing.specs.Settling.{is_neither, is_settled, settled_count}
use Rattle.cd_pairing.specs.Records.{records, released_records}
use Rattle.cd_pairing.proofs.Records.{settled_least, settled_all, settled_le}
use Rattle.cd_window.specs.declared.released.Released.{Released}
use Rattle.cd_window.specs.declared.held.Held.{Held}
use Rattle.cd_window.specs.Seen.{Seen, held_at, is_open, is_ready, is_front_ready}
use Rattle.cd_window.specs.History.{StandsFor, AreRecords}
use Rattle.cd_window.specs.Pops.{IsTrimmed}
use Rattle.cd_window.specs.Laws.{DueIsPopped}
use Rattle.cd_window.proofs.Popping.{first_within, same_partners, finished_tells_all}
use Rattle.cd_window.proofs.Pushing.{held_is, held_stamp, open_is}

-- what the front says of itself is what is settled
pub front_settled : {E : Type 0} (view : E → EventView) (w : Seen E) (pushed : List E) (popped : List (Released E)) (S : StandsFor view w pushed popped) → w.finished ≡ false → (h : Held E) → 0 < length w.held → held_at w 0 ≡ Some h →
    is_front_ready view w (Some h) ≡ is_settled w.windows (map view pushed) S.partners (w.first + 0)
front_settled {E} view w pushed popped S going h lt e =
    let events : List EventView = map view pushed in
    let i : ℕ = w.first + 0 in
    let H = held_is view w pushed popped S 0 h lt e in
    let st = held_stamp view pushed S.partners w.first i h H in
    ap (λ (b : Bool). b || (is_neither (view h.event).side || is_some h.partner || not (is_open view w 0 h))) going
    ∙ ap (λ (s : StampedEvent). is_neither s.view.side || is_some h.partner || not (is_open view w 0 h)) st
    ∙ ap (λ (o : Option ℕ). is_neither (event_at events i).side || is_some o || not (is_open view w 0 h)) H.partner
    ∙ ap (λ (b : Bool). is_neither (event_at events i).side || is_some (partner S.partners i) || not b) (open_is view w pushed popped S 0 h lt e)

not_further : {E : Type 0} (view : E → EventView) (w : Seen E) (pushed : List E) (popped : List (Released E)) (S : StandsFor view w pushed popped) → w.finished ≡ false → 0 < length w.held → IsTrimmed w → is_settled w.windows (map view pushed) S.partners (w.first + 0) ≡ true →
    (o : Option (Held E)) → held_at w 0 ≡ o → is_front_ready view w o ≡ false → ⊥
not_further view w pushed popped S going lt trim s None e r = let n = ap length (trim e) in omega arith
not_further view w pushed popped S going lt trim s (Some h) e r = true≢false (sym s ∙ sym (front_settled view w pushed popped S going h lt e) ∙ r)

-- before the end is told
released_is_popped : {E : Type 0} (view : E → EventView) (w : Seen E) (pushed : List E) (popped : List (Released E)) (p : List (Option ℕ)) → StandsFor view w pushed popped → IsTrimmed w → is_ready view w ≡ false →
    w.finished ≡ false → IsPairing w.windows (map view pushed) p → AreRecords view pushed (released_records w.windows (map view pushed) p) popped
released_is_popped {E} view w pushed popped p S trim idle going P =
    let events : List EventView = map view pushed in
    let q : List (Option ℕ) = S.partners in
    let f : ℕ → Bool = is_settled w.windows events q in
    let m : ℕ = settled_count w.windows events q in
    let le : w.first ≤ m = settled_least f (length events) 0 w.first (first_within view w pushed popped S) (λ j a b. S.settled going j (omega arith)) in
    let top : m ≤ length events = settled_le f (length events) 0 in
    let same : w.first ≡ m = elim (cases_lt w.first m) [
      | inr h ↦ omega arith
      | inl h ↦ absurd (not_further view w pushed popped S going (let c = S.count in omega (arith, length-map pushed view)) trim
          (settled_all f (length events) 0 (w.first + 0) (omega arith) (omega arith)) (held_at w 0) refl idle)
    ] in
    subst (λ (x : List (Option ℕ)). AreRecords view pushed (released_records w.windows events x) popped) (same_partners view w pushed popped p S P)
    (subst (λ (x : ℕ). AreRecords view pushed (records (take x q)) popped) same S.popped_are)

-- after the end is told, nothing is held where nothing is ready
nothing_left : {E : Type 0} (view : E → EventView) (w : Seen E) → IsTrimmed w → w.finished ≡ true → (o : Option (Held E)) → held_at w 0 ≡ o → is_front_ready view w o ≡ false → w.held ≡ []
nothing_left view w trim done None e r = trim e
nothing_left view w trim done (Some h) e r =
    absurd (true≢false (sym (ap (λ (b : Bool). b || (is_neither (view h.event).side || is_some h.partner || not (is_open view w 0 h))) done) ∙ r))

pub due_is_popped : {E : Type 0} (view : E → EventView) → DueIsPopped view
due_is_popped {E} view w pushed popped p S trim idle P = (
  λ going. released_is_popped view w pushed popped p S trim idle going P,
  λ done. (finished_tells_all view w pushed popped p S P).1 (nothing_left view w trim done (held_at w 0) refl idle),
)
