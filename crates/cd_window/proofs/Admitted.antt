-- What is shown of the code that takes in the next event.
use Rattle.std.proofs.Common.{◌≡◌, ℕ, ◌+◌, ◌-◌, ◌<◌, ◌≤◌, List, [], ◌∷◌, length, set, Option, Some, None, refl, ap, sym, ◌∙◌, subst, arith, inl, inr, length-set}
use Rattle.std.proofs.lemmas.Option.{none-some}
use Rattle.std.proofs.lemmas.List.{length_push, get_or_append_left, set-append_left}
use Rattle.cd_pairing.specs.declared.keyed.TheConstants.{LEAST_WEIGHT}
use Rattle.cd_pairing.specs.declared.keyed.Side.{Side}
use Rattle.cd_pairing.specs.declared.keyed.Side.TheVariants.{Query, Response, Neither}
use Rattle.cd_pairing.specs.Events.{EventView, are_opposite}
use Rattle.cd_window.specs.declared.held.Held.{Held}
use Rattle.cd_window.specs.declared.stamps.Stamp.{Stamp}
use Rattle.cd_window.specs.declared.waiting.Waiting.{Waiting}
use Rattle.cd_window.specs.Seen.{Seen}
use Rattle.cd_window.specs.Pushes.{with_partner}
use Rattle.cd_window.specs.Keeping.{StampsRise, Keeps}
use Rattle.cd_window.specs.Places.{place_at, IsAmong, held_next, HoldsNext, Puts}
use Rattle.cd_window.specs.Waiting.{Waits, waits_with, waiting}
use Rattle.cd_window.specs.Lists.{waits_in, IsListed, HasNoEmpty, KeepsWaiting}
use Rattle.cd_window.specs.Joining.{Meets, Joins, Admits}
use Rattle.cd_window.proofs.Partners.{opposite_query, opposite_response, Found, finds, finds_none, found_among, found_puts}
use Rattle.cd_window.proofs.Joined.{joins_wait}
use Rattle.cd_window.proofs.Popped.{place_within}
use Rattle.cd_window.proofs.Putting.{grown, IsNext}

-- the next event is held with the partner that it met
pub holds_met : {E : Type 0} (first : ℕ) (old pushed new : List (Option (Held E))) (e : E) (next : Stamp) (met : Option ℕ) (position : ℕ) → met ≡ Some position →
    pushed ≡ held_next old e next met → ((h : Held E) → place_at pushed (position - first) ≡ Some h → new ≡ set pushed (position - first) (Some (with_partner h next.index))) → HoldsNext first old e next met new
holds_met {E} first old pushed new e next met position is ep es = record {
  alone = λ none. absurd (none-some position (sym none ∙ is));
  paired = λ k h em at.
      let both : Some position ≡ Some (first + k) = sym is ∙ em in
      let same : position ≡ first + k = cc in
      let k_is : position - first ≡ k = omega arith in
      let inside : k < length old = place_within old k h at in
      let x : Option (Held E) = Some (record { event = e; clock = next.clock; weight_sum = next.weight_sum; partner = met }) in
      let there : place_at pushed (position - first) ≡ Some h = ap (place_at pushed) k_is ∙ ap (λ (xs : List (Option (Held E))). place_at xs k) ep ∙ get_or_append_left old (x ∷ []) None k inside ∙ at in
      es h there
      ∙ ap (λ (i : ℕ). set pushed i (Some (with_partner h next.index))) k_is
      ∙ ap (λ (xs : List (Option (Held E))). set xs k (Some (with_partner h next.index))) ep
      ∙ set-append_left old (x ∷ []) k (Some (with_partner h next.index)) inside
      ∙ ap (λ (o : Option ℕ). held_next (set old k (Some (with_partner h next.index))) e next o) em;
}

-- the partner that the lists tell of is the one that is found
pub joins_found : {E : Type 0} (view : E → EventView) (w : Seen E) (e : E) (next : Stamp) (met : Option ℕ) (qs rs : List Waits) → IsNext view w e next → LEAST_WEIGHT ≤ (view e).weight → StampsRise view 0 0 w.held w.clock w.weight_sum →
    Joins w.windows (view e).side (waits_with (view e) next.index next.clock next.weight_sum) next met (waiting view w Query) (waiting view w Response) qs rs → Found view w e next met
joins_found {E} view w e next met qs rs N heavy R J = by (view e).side refl
  where
    by : (s : Side) → s ≡ (view e).side → Found view w e next met
    by Query q =
        let M : Meets w.windows Query Response (waits_with (view e) next.index next.clock next.weight_sum) next met (waiting view w Query) (waiting view w Response) qs rs =
        subst (λ (s : Side). Joins w.windows s (waits_with (view e) next.index next.clock next.weight_sum) next met (waiting view w Query) (waiting view w Response) qs rs) (sym q) J in
        finds view w e next N heavy R Response (λ a. opposite_query a ∙ ap (are_opposite a) q) met M.found
    by Response q =
        let M : Meets w.windows Response Query (waits_with (view e) next.index next.clock next.weight_sum) next met (waiting view w Response) (waiting view w Query) rs qs =
        subst (λ (s : Side). Joins w.windows s (waits_with (view e) next.index next.clock next.weight_sum) next met (waiting view w Query) (waiting view w Response) qs rs) (sym q) J in
        finds view w e next N heavy R Query (λ a. opposite_response a ∙ ap (are_opposite a) q) met M.found
    by Neither q =
        let M = subst (λ (s : Side). Joins w.windows s (waits_with (view e) next.index next.clock next.weight_sum) next met (waiting view w Query) (waiting view w Response) qs rs) (sym q) J in
        finds_none view w e next met (sym q) M.0

-- the partner is held
pub joins_among : {E : Type 0} (view : E → EventView) (w : Seen E) (count weight : ℕ) (e : E) (next : Stamp) (queries responses : Waiting) (met : Option ℕ) (qs rs : List Waits) → Keeps view w count weight → KeepsWaiting view w queries responses → IsNext view w e next → LEAST_WEIGHT ≤ (view e).weight →
    Joins w.windows (view e).side (waits_with (view e) next.index next.clock next.weight_sum) next met (waits_in queries) (waits_in responses) qs rs → IsAmong w.first w.held met
joins_among view w count weight e next queries responses met qs rs K W N heavy J =
    let x : Waits = waits_with (view e) next.index next.clock next.weight_sum in
    let at : Joins w.windows (view e).side (waits_with (view e) next.index next.clock next.weight_sum) next met (waiting view w Query) (waiting view w Response) qs rs =
    subst (λ (ys : List Waits). Joins w.windows (view e).side (waits_with (view e) next.index next.clock next.weight_sum) next met (waiting view w Query) ys qs rs) W.responses_wait.waits_are
    (subst (λ (ys : List Waits). Joins w.windows (view e).side (waits_with (view e) next.index next.clock next.weight_sum) next met ys (waits_in responses) qs rs) W.queries_wait.waits_are J) in
    found_among view w e next met (joins_found view w e next met qs rs N heavy K.rises at)

-- what is shown of the code
pub record AdmitFacts {E : Type 0} (view : E → EventView) (w : Seen E) (e : E) (next : Stamp) (new : List (Option (Held E))) (queries responses : Waiting) : Type 0 where
  pub puts : Puts view w.windows w.first w.held e next new
  pub keeps : KeepsWaiting view (grown w next new) queries responses

pub admit_facts : {E : Type 0} (view : E → EventView) (w : Seen E) (count weight : ℕ) (e : E) (next : Stamp) (new : List (Option (Held E))) (queries responses queries' responses' : Waiting) → Keeps view w count weight → KeepsWaiting view w queries responses → IsNext view w e next → LEAST_WEIGHT ≤ (view e).weight →
    Admits view w.windows w.first e next w.held new (waits_in queries) (waits_in responses) (waits_in queries') (waits_in responses') → IsListed queries' → HasNoEmpty queries' → IsListed responses' → HasNoEmpty responses' → AdmitFacts view w e next new queries' responses'
admit_facts {E} view w count weight e next new queries responses queries' responses' K W N heavy A ql qf rl rf =
    let J : Joins w.windows (view e).side (waits_with (view e) next.index next.clock next.weight_sum) next A.met (waiting view w Query) (waiting view w Response) (waits_in queries') (waits_in responses') =
    subst (λ (ys : List Waits). Joins w.windows (view e).side (waits_with (view e) next.index next.clock next.weight_sum) next A.met (waiting view w Query) ys (waits_in queries') (waits_in responses')) W.responses_wait.waits_are
    (subst (λ (ys : List Waits). Joins w.windows (view e).side (waits_with (view e) next.index next.clock next.weight_sum) next A.met ys (waits_in responses) (waits_in queries') (waits_in responses')) W.queries_wait.waits_are A.joins) in
    let F = joins_found view w e next A.met (waits_in queries') (waits_in responses') N heavy K.rises J in
    let long : length new ≡ length w.held + 1 = elim F [
      | inl B ↦
          ap length (A.holds.paired B.place B.was B.is B.there)
          ∙ length_push (set w.held B.place (Some (with_partner B.was next.index))) (Some (record { event = e; clock = next.clock; weight_sum = next.weight_sum; partner = Some (w.first + B.place) }))
          ∙ ap (λ (n : ℕ). n + 1) (length-set w.held B.place (Some (with_partner B.was next.index)))
      | inr B ↦ ap length (A.holds.alone B.is) ∙ length_push w.held (Some (record { event = e; clock = next.clock; weight_sum = next.weight_sum; partner = None }))
    ] in
    let i = N.index in
    let count_is : w.first + length new ≡ next.index + 1 = omega arith in
    let V = joins_wait view w e next A.met new (waits_in queries') (waits_in responses') N count_is F A.holds J in
    record {
      puts = found_puts view w e next A.met new F A.holds;
      keeps = record {
        queries_wait = record { listed = ql; filled = qf; waits_are = V.queries_are };
        responses_wait = record { listed = rl; filled = rf; waits_are = V.responses_are };
      };
    }
