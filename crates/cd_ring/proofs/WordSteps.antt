-- Each kind of step on a word keeps the ring's rule.
use Rattle.std.proofs.Common.{◌≡◌, ℕ, zero, suc, ◌+◌, ◌<◌, ◌≢◌, eqb, List, [], ◌∷◌, map, length, get_or, drop, set, sym, refl, ap, ◌∙◌, subst, inl, ⊎_elim, arith, length-set, get_or-set_same, Option, Some, None}
use mathlib.Core.Logic.{dite}
use mathlib.Core.Option.{none, some, some-injective}
use native.Mathlib.Decide.{ℕ_discrete}
use lib.ListN.{get_elem?}
use lib.Seq.{map-set}
use prog.Atomic.{either}
use Rattle.atomic_table.specs.Table.{State, Me, step, Act, keeps, takes, gives, Valid, stepped, carried_after, Allows, rest}
use Rattle.atomic_table.proofs.Lists.{at_set, set_here, set_else, at_map, exchanged}
use Rattle.cd_ring.specs.declared.view.Place.{Place}
use Rattle.cd_ring.specs.declared.view.Place.TheVariants.{Job, Result}
use Rattle.cd_ring.specs.declared.view.Known.{Known}
use Rattle.cd_ring.specs.declared.view.View.{View}
use Rattle.cd_ring.specs.Core.{Phase, free, ready, taken, done, Core, Event, post, claim, finish, take, number, with_phase, posted_one, taken_one, After, Ordered}
use Rattle.cd_ring.specs.Core as core
use Rattle.cd_ring.specs.Rule.{READY, TAKEN, DONE, known, Homes, Holds, Shows, Rule, Ring}
use Rattle.cd_ring.specs.Kinds.{noted, stored, Seated, loaded, with_held, claimed, marked_done}
use Rattle.cd_ring.proofs.Core.{at_inside}
use Rattle.cd_ring.proofs.Moves.{good, phase_at, moved, unmoved}

-- the first of the rest of a list stands at its place
pub head_at : {A : Type 0} (l : List A) (t : ℕ) (x : A) (xs : List A) → x ∷ xs ≡ drop t l → (get_elem? l t ≡ some x) × (xs ≡ drop (t + 1) l)
head_at [] zero x xs e = cc
head_at [] (suc t) x xs e = cc
head_at (y ∷ l) zero x xs e = let a : x ≡ y = cc in let b : xs ≡ l = cc in (ap some (sym a), b)
head_at (y ∷ l) (suc t) x xs e = let h = head_at l t x xs e in (h.0, h.1 ∙ ap (λ (z : ℕ). drop z (y ∷ l)) (let g : suc (t + 1) ≡ suc t + 1 = omega arith in g))

-- a step may tell less
pub tells : {S V : Type 0} (holds : State S V → Type 0) (n id i : ℕ) (me : Me S V) (f : ℕ → ℕ) (P Q : ℕ → Me S V → Type 0) → Allows holds n id me i f P → ((y : ℕ) (m : Me S V) → P y m → Q y m) → Allows holds n id me i f Q
tells holds n id i me f P Q a less s r wide at fits = let g = a s r wide at fits in (g.0, g.1, g.2, g.3, less _ _ g.4)

-- what a list says of a slot that it has and that is not held
none_there : {J : Type 0} (l : List (Option J)) (i : ℕ) → i < length l → ((y : J) → get_elem? l i ≡ some (Some y) → ⊥) → get_elem? l i ≡ some None
none_there [] i near no_some = absurd (omega arith)
none_there (None ∷ l) zero near no_some = refl
none_there (Some x ∷ l) zero near no_some = absurd (no_some x refl)
none_there (y ∷ l) (suc i) near no_some = none_there l i (omega arith) no_some

module _ {T J D : Type 0} (meets : J → D → Type 0) (task : T) (slots : ℕ) where
  abbrev S : Type 0
  S = State (Place J D) (View T J D)

  abbrev M : Type 0
  M = Seated T J D

  abbrev Holding : S → Type 0
  Holding = Ring meets task slots

  abbrev pub Goes : S → ℕ → ℕ → M → (ℕ → M → Type 0) → ℕ → Type 0
  Goes s k id me then x = (w : View T J D) × (a : Act (Place J D)) × Valid s.homes me.1 a × Holding (stepped s k x id me.1 w a) × then (get_or s.words k 0) (w, carried_after me.1 a)

  abbrev pub seen : View T J D → ℕ → ℕ → Known T J D → View T J D
  seen v i r u = record { known = u; looks = noted v.looks i r; stores = v.stores }

  pub viewed : (s : S) (i x id : ℕ) (homes' : Homes J D) (w : View T J D) → Rule meets task slots (set s.words i x) homes' (set (map known s.views) id w.known) → Holding record { words = set s.words i x; homes = homes'; views = set s.views id w }
  viewed s i x id homes' w r = subst (Rule meets task slots (set s.words i x) homes') (sym (map-set known s.views id w)) r

  -- a step that tells nothing new
  pub stands : (s : S) (r : Holding s) (k id : ℕ) (me : M) (then : ℕ → M → Type 0) → get_elem? s.views id ≡ some me.0
      → then (get_or s.words k 0) (seen me.0 k (get_or s.words k 0) me.0.known, me.1) → Goes s k id me then (get_or s.words k 0)
  stands s r k id me then at told = let w = seen me.0 k (get_or s.words k 0) me.0.known in (w, keeps, tt, unmoved meets task slots s r k id me.0 w at refl, told)

  pub looks : (n id : ℕ) (me : M) (i : ℕ) → Allows Holding n id me i (λ x. x) (loaded (step n i 0 0 none) me)
  looks n id me i s r wide at _ = stands s r i id me (loaded (step n i 0 0 none) me) at ((refl, refl), (refl, refl))

  -- the slot i of the seat id goes on to f, and the seat's claim of it to h
  held_moved : (s : S) (r : Holding s) (i w id : ℕ) (v : View T J D) (h : Option J) (e : Event J D) (homes' : Homes J D) (f : Phase D)
      → i < slots → get_elem? s.views id ≡ some v → core.Steps meets slots r.lead r.core e (with_phase r.core i f)
      → length homes' ≡ length s.homes → ((k : ℕ) → k ≢ i → get_elem? homes' k ≡ get_elem? s.homes k)
      → Shows (set s.words i w) homes' r.coordinator.notes (set (map known s.views) id (with_held v.known i h)) r.core.posted i f
      → ((x : J) → h ≡ Some x → (p : ℕ) × (f ≡ taken p id) × (get_elem? r.core.posted p ≡ some x))
      → ((j p : ℕ) → j ≢ id → get_elem? r.core.phases i ≡ some (taken p j) → ⊥)
      → Rule meets task slots (set s.words i w) homes' (set (map known s.views) id (with_held v.known i h))
  held_moved s r i w id v h e homes' f near at did as_long home here own theirs =
      let all = map known s.views in let u = with_held v.known i h in let at' : get_elem? all id ≡ some v.known = at_map known s.views id v at in
      let mine : (x : J) → get_elem? u.held i ≡ some (Some x) → (p : ℕ) × (f ≡ taken p id) × (get_elem? r.core.posted p ≡ some x) = λ x is.
      own x (⊎_elim (λ (t : (i ≡ i) × (h ≡ Some x)). t.1) (λ (t : (i ≢ i) × (get_elem? v.known.held i ≡ some (Some x))). absurd (t.0 refl)) (at_set v.known.held i i h (Some x) is)) in
      dite (ℕ_discrete r.lead id)
      (λ is. let same : r.coordinator ≡ v.known = some-injective r.coordinator v.known (sym (subst (λ (z : ℕ). get_elem? all z ≡ some r.coordinator) is r.leads) ∙ at') in
      moved meets task slots s.words s.homes all r i w id v.known u (with_held r.coordinator i h) (e ∷ r.events) (with_phase r.core i f) homes' f near (r.core, r.after, did) at'
      (subst (λ (z : ℕ). get_elem? (set all id u) z ≡ some u) (sym is) (set_here all id u (at_inside all id v.known at')) ∙ ap (λ (z : Known T J D). some (with_held z i h)) (sym same))
      r.coordinator_leads (λ x. x) r.task_is r.taken_is r.out_is r.notes_long refl refl (λ p x y. y) as_long home (λ k _. refl)
      (λ k other. set_else v.known.held i k h other) here mine theirs)
      (λ other. moved meets task slots s.words s.homes all r i w id v.known u r.coordinator (e ∷ r.events) (with_phase r.core i f) homes' f near (r.core, r.after, did) at'
      (set_else all id r.lead u other ∙ r.leads)
      r.coordinator_leads (λ x. x) r.task_is r.taken_is r.out_is r.notes_long refl refl (λ p x y. y) as_long home (λ k _. refl)
      (λ k other. set_else v.known.held i k h other) here mine theirs)

  -- a claim of a slot that is ready
  pub claim_moved : (s : S) (r : Holding s) (i id : ℕ) (v : View T J D) (p : ℕ) → i < slots → i < length v.known.held → get_elem? s.views id ≡ some v → get_elem? r.core.phases i ≡ some (ready p)
      → Shows s.words s.homes r.coordinator.notes (map known s.views) r.core.posted i (ready p)
      → (x : J) × (get_elem? r.core.posted p ≡ some x) × (get_elem? s.homes i ≡ some (some (Job x)))
      × Rule meets task slots (set s.words i TAKEN) (set s.homes i none) (set (map known s.views) id (with_held v.known i (Some x)))
  claim_moved s r i id v p near held_near at phase sh = let x : J = sh.2.0 in let all = map known s.views in let at' : get_elem? all id ≡ some v.known = at_map known s.views id v at in
      let u = with_held v.known i (Some x) in let wide : i < length s.words = subst (λ (z : ℕ). i < z) (sym r.wide) (omega arith) in let far : i < length s.homes = subst (λ (z : ℕ). i < z) (sym r.places) near in (
        x,
        sh.2.1,
        sh.2.2,
        held_moved s r i TAKEN id v (Some x) (claim i id) (set s.homes i none) (taken p id) near at (p, phase, refl) (length-set s.homes i none) (λ k other. set_else s.homes i k none other)
            (get_or-set_same s.words i TAKEN 0 wide, sh.1, set_here s.homes i none far, (u, x, set_here all id u (at_inside all id v.known at'), set_here v.known.held i (Some x) held_near, sh.2.1))
            (λ y e. let same : x ≡ y = cc in (p, refl, sh.2.1 ∙ ap some same))
            (λ j q other e. cc (phase, e)),
      )

  claim_goes : (s : S) (r : Holding s) (i id : ℕ) (me : M) → i < slots → i < length me.0.known.held → get_elem? s.views id ≡ some me.0 → get_or s.words i 0 ≡ READY
      → (f : Phase D) → get_elem? r.core.phases i ≡ some f → Shows s.words s.homes r.coordinator.notes (map known s.views) r.core.posted i f
      → (p : ℕ) × (f ≡ ready p) × ((x : J) × (get_elem? r.core.posted p ≡ some x) × (get_elem? s.homes i ≡ some (some (Job x)))
      × Rule meets task slots (set s.words i TAKEN) (set s.homes i none) (set (map known s.views) id (with_held me.0.known i (Some x))))
  claim_goes s r i id me near held_near at is free e sh = let w = sh.0 in absurd (omega arith)
  claim_goes s r i id me near held_near at is (ready p) e sh = (p, refl, claim_moved s r i id me.0 p near held_near at e sh)
  claim_goes s r i id me near held_near at is (taken p j) e sh = let w = sh.0 in absurd (omega arith)
  claim_goes s r i id me near held_near at is (done p d) e sh = let w = sh.0 in absurd (omega arith)

  -- who claims a slot that is READY did not hold it
  not_held : (s : S) (r : Holding s) (i id : ℕ) (me : M) (p : ℕ) → i < length me.0.known.held → get_elem? s.views id ≡ some me.0 → get_elem? r.core.phases i ≡ some (ready p)
      → get_elem? me.0.known.held i ≡ some None
  not_held s r i id me p near at phase = none_there me.0.known.held i near
      (λ y e. let o = r.held id me.0.known i y (at_map known s.views id me.0 at) e in
      let same : ready p ≡ taken o.0 id = some-injective (ready p) (taken o.0 id) (sym phase ∙ o.1) in cc)

  pub claims : (n id : ℕ) (me : M) (i : ℕ) → i < slots → i < length me.0.known.held → Allows Holding n id me i (λ x. either (eqb x READY) TAKEN x) (claimed (step n i READY TAKEN none) me)
  claims n id me i near held_near s r wide at _ = let y : ℕ = get_or s.words i 0 in let told = claimed (step n i READY TAKEN none) me in exchanged y READY TAKEN (Goes s i id me told)
      (λ hit. let ph = phase_at meets task slots s.words s.homes (map known s.views) r i near in let goes = claim_goes s r i id me near held_near at hit ph.0 ph.1 ph.2 in let got = goes.2 in let x : J = got.0 in
      let free_before = not_held s r i id me goes.0 held_near at (ph.1 ∙ ap some goes.1) in
      let w = seen me.0 i y (with_held me.0.known i (Some x)) in
      (w, takes i (Job x), got.2, viewed s i TAKEN id (set s.homes i none) w got.3, ((refl, refl), (λ _. (x, free_before, (refl, refl))), λ miss. absurd (miss hit))))
      (λ miss. stands s r i id me told at ((refl, refl), (λ hit. absurd (miss hit)), λ _. (refl, refl)))

  -- a worker's slot is done
  pub finishes : (n id : ℕ) (me : M) (i : ℕ) (x : J) (d : D) → Holds me.0.known i x → meets x d → (c : List (ℕ × Place J D)) → me.1 ≡ (i, Result d) ∷ c
      → Allows Holding n id me i (λ _. DONE) (λ _ m. marked_done (step n i DONE 0 none) me DONE m)
  finishes n id me i x d has met c placed s r wide at _ = let all = map known s.views in let at' : get_elem? all id ≡ some me.0.known = at_map known s.views id me.0 at in
      let old = r.held id me.0.known i x at' has in let p : ℕ = old.0 in let sh = r.shows i (taken p id) old.1 in let inside : i < length r.core.phases = at_inside r.core.phases i (taken p id) old.1 in
      let near : i < slots = subst (λ (z : ℕ). i < z) (good meets task slots s.words s.homes all r).long inside in
      let room : i < length s.words = subst (λ (z : ℕ). i < z) (sym r.wide) (omega arith) in let far : i < length s.homes = subst (λ (z : ℕ). i < z) (sym r.places) near in
      let w : View T J D = record { known = with_held me.0.known i None; looks = me.0.looks; stores = stored me.0.stores i DONE (Some (Result d)) } in (
        w,
        gives,
        tt,
        subst (λ (z : List (ℕ × Place J D)). Holding (stepped s i DONE id z w gives)) (sym placed)
            (viewed s i DONE id (set s.homes i (some (Result d))) w
            (held_moved s r i DONE id me.0 None (finish i id d) (set s.homes i (some (Result d))) (done p d) near at (p, old.1, (x, old.2, met), refl) (length-set s.homes i (some (Result d)))
            (λ k other. set_else s.homes i k (some (Result d)) other)
            (get_or-set_same s.words i DONE 0 room, inl (sh.1, set_here s.homes i (some (Result d)) far))
            (λ y e. cc)
            (λ j q other e. other (let same : taken p id ≡ taken q j = some-injective (taken p id) (taken q j) (sym old.1 ∙ e) in cc)))),
        (d, c, placed, (refl, refl, ap rest placed, refl)),
      )
