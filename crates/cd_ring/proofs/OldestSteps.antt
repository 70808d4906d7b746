-- What the coordinator's look at the oldest job's word does, and its looks before the first post.
use Rattle.std.proofs.Common.{◌≡◌, ℕ, ◌+◌, ◌%◌, ◌<◌, ◌≤◌, eqb, true, List, [], ◌∷◌, map, length, get_or, set, sym, refl, ap, ◌∙◌, subst, inr, ⊎_elim, arith, mod-lt, get_or-set_same, Some}
use mathlib.Core.Option.{none, some, some-injective, some-ne-none}
use lib.ListN.{get_elem?}
use prog.Atomic.{either}
use Rattle.atomic_table.specs.Table.{State, step, takes, Allows}
use Rattle.atomic_table.proofs.Lists.{set_here, exchanged}
use Rattle.cd_ring.specs.declared.view.Place.{Place}
use Rattle.cd_ring.specs.declared.view.Place.TheVariants.{Empty, Job, Result}
use Rattle.cd_ring.specs.declared.view.Note.TheVariants.{Home, Spare, Met}
use Rattle.cd_ring.specs.declared.view.Known.{Known}
use Rattle.cd_ring.specs.declared.view.View.{View}
use Rattle.cd_ring.specs.Core.{Phase, free, ready, taken, done, number}
use Rattle.cd_ring.specs.Rule.{FREE, READY, TAKEN, DONE, known, Shows, Ring}
use Rattle.cd_ring.specs.Kinds.{Seated, with_held, with_note, claimed_oldest, took_place}
use Rattle.cd_ring.proofs.Moves.{good, phase_at}
use Rattle.cd_ring.proofs.WordSteps.{Goes, claim_moved, viewed, stands, seen}
use Rattle.cd_ring.proofs.CoordinatorSteps.{coordinator_of, out_long, oldest, oldest_phase, noted_moved}

module _ {T J D : Type 0} (full : T → J → D → Type 0) (task : T) (slots : ℕ) where
  abbrev S : Type 0
  S = State (Place J D) (View T J D)

  abbrev M : Type 0
  M = Seated T J D

  abbrev meets : J → D → Type 0
  meets = full task

  abbrev Holding : S → Type 0
  Holding = Ring meets task slots

  abbrev All : S → List (Known T J D)
  All s = map known s.views

  abbrev Told : M → ℕ → ℕ → M → Type 0
  Told me n i = λ m. Unit {0}

  claim_oldest_at : (n id : ℕ) (me : M) (i : ℕ) (x : J) (xs : List J) → me.0.known.leads ≡ true → i ≡ me.0.known.taken % slots → me.0.known.out ≡ x ∷ xs → get_elem? me.0.known.notes i ≡ some Home → i < length me.0.known.held
      → (s : S) (r : Holding s) → get_elem? s.views id ≡ some me.0 → (y : ℕ) → get_or s.words i 0 ≡ y → i < slots
      → (f : Phase D) → get_elem? r.core.phases i ≡ some f → number f ≡ some (length r.core.results)
      → Shows s.words s.homes r.coordinator.notes (All s) r.core.posted i f
      → Goes meets task slots s i id me (claimed_oldest full (step n i READY TAKEN none) me) (either (eqb y READY) TAKEN y)
  claim_oldest_at n id me i x xs leads turn out home held_near s r at y is near free e num sh = absurd (some-ne-none (length r.core.results) (sym num))
  claim_oldest_at n id me i x xs leads turn out home held_near s r at y is near (ready p) e num sh = let told = claimed_oldest full (step n i READY TAKEN none) me in
      let b = coordinator_of meets task slots s r id me.0 at leads in let old = oldest meets task slots s r me.0.known b.1 x xs out in
      let got = claim_moved meets task slots s r i id me.0 p near held_near at e sh in let z : J = got.0 in let w = seen meets task slots me.0 i (get_or s.words i 0) (with_held me.0.known i (Some z)) in
      let same : p ≡ length r.core.results = some-injective p (length r.core.results) num in let first : z ≡ x = some-injective z x (sym got.1 ∙ (ap (λ (q : ℕ). get_elem? r.core.posted q) same ∙ old.1)) in
      exchanged y READY TAKEN (Goes meets task slots s i id me told)
      (λ hit. (
        w,
        takes i (Job z),
        got.2,
        viewed meets task slots s i TAKEN id (set s.homes i none) w got.3,
        ((refl, refl), (λ _. (z, xs, out ∙ ap (λ (q : J). q ∷ xs) (sym first), (refl, refl))), (λ d. let g = sh.0 in absurd (omega arith)), λ miss _. absurd (miss (is ∙ hit))),
      ))
      (λ miss. absurd (miss (sym is ∙ sh.0)))
  claim_oldest_at n id me i x xs leads turn out home held_near s r at y is near (taken p j) e num sh = let told = claimed_oldest full (step n i READY TAKEN none) me in
      let two : y ≡ TAKEN = sym is ∙ sh.0 in exchanged y READY TAKEN (Goes meets task slots s i id me told)
      (λ hit. absurd (omega arith))
      (λ miss. subst (Goes meets task slots s i id me told) is (stands meets task slots s r i id me told at ((refl, refl), (λ hit. absurd (miss (sym is ∙ hit))), (λ d. absurd (omega arith)), λ _ _. (sh.0, (refl, refl)))))
  claim_oldest_at n id me i x xs leads turn out home held_near s r at y is near (done p d) e num sh = let told = claimed_oldest full (step n i READY TAKEN none) me in
      let three : y ≡ DONE = sym is ∙ sh.0 in let b = coordinator_of meets task slots s r id me.0 at leads in let old = oldest meets task slots s r me.0.known b.1 x xs out in
      let o = good meets task slots s.words s.homes (All s) r in let m = o.done_meets i p d e in let same : p ≡ length r.core.results = some-injective p (length r.core.results) num in
      let first : m.0 ≡ x = some-injective m.0 x (sym m.1 ∙ (ap (λ (q : ℕ). get_elem? r.core.posted q) same ∙ old.1)) in
      let at_home : get_elem? s.homes i ≡ some (some (Result d)) = ⊎_elim (λ h. h.1)
      (λ h. let z : Home ≡ Met d = some-injective Home (Met d) (sym home ∙ (ap (λ (q : Known T J D). get_elem? q.notes i) (sym b.1) ∙ h.0)) in cc) sh.1 in
      let far : i < length s.homes = subst (λ (z : ℕ). i < z) (sym r.places) near in
      let k = me.0.known in let u = with_note k i (Met d) in let w = seen meets task slots me.0 i (get_or s.words i 0) u in
      let notes_long : length k.notes ≡ slots = ap (λ (z : Known T J D). length z.notes) (sym b.1) ∙ r.notes_long in
      exchanged y READY TAKEN (Goes meets task slots s i id me told)
      (λ hit. absurd (omega arith))
      (λ miss. (
        w,
        takes i (Result d),
        at_home,
        viewed meets task slots s i y id (set s.homes i none) w (noted_moved meets task slots s r i y id me.0 (Met d) (done p d) near at leads e (λ j q z. cc)
            (get_or-set_same s.words i y 0 (subst (λ (z : ℕ). i < z) (sym r.wide) (omega arith)) ∙ three, inr (set_here k.notes i (Met d) (subst (λ (z : ℕ). i < z) (sym notes_long) near), set_here s.homes i none far))),
        (
          (refl, refl),
          (λ hit. absurd (miss (sym is ∙ hit))),
          (λ _. (d, x, xs, task, (ap (λ (z : Known T J D). z.task) (sym b.1) ∙ r.task_is), out, subst (λ (z : J). meets z d) first m.2, refl, refl)),
          λ _ other. absurd (other sh.0),
        ),
      ))

  -- the coordinator's compare and exchange at the oldest job's slot
  pub claims_oldest : (n id : ℕ) (me : M) (i : ℕ) (x : J) (xs : List J) → me.0.known.leads ≡ true → i ≡ me.0.known.taken % slots → me.0.known.out ≡ x ∷ xs → get_elem? me.0.known.notes i ≡ some Home → i < length me.0.known.held
      → Allows Holding n id me i (λ y. either (eqb y READY) TAKEN y) (claimed_oldest full (step n i READY TAKEN none) me)
  claims_oldest n id me i x xs leads turn out home held_near s r wide at _ = let b = coordinator_of meets task slots s r id me.0 at leads in let old = oldest meets task slots s r me.0.known b.1 x xs out in
      let turn' : i ≡ length r.core.results % slots = turn ∙ ap (λ (z : ℕ). z % slots) (ap (λ (z : Known T J D). z.taken) (sym b.1) ∙ r.taken_is) in
      let near : i < slots = subst (λ (z : ℕ). z < slots) (sym turn') (mod-lt (length r.core.results) r.some_slot) in
      let ph = phase_at meets task slots s.words s.homes (All s) r i near in
      claim_oldest_at n id me i x xs leads turn out home held_near s r at (get_or s.words i 0) refl near ph.0 ph.1 (oldest_phase meets task slots s r i turn' old.0 ph.0 ph.1) ph.2

  -- where no job is out no slot has a number
  nothing_out : (s : S) (r : Holding s) (id : ℕ) (me : M) → me.0.known.leads ≡ true → me.0.known.out ≡ [] → get_elem? s.views id ≡ some me.0 → (i : ℕ) (f : Phase D) (p : ℕ) → get_elem? r.core.phases i ≡ some f → number f ≡ some p → ⊥
  nothing_out s r id me leads none_out at i f p e num = let b = coordinator_of meets task slots s r id me.0 at leads in let o = (good meets task slots s.words s.homes (All s) r).others i f p e num in
      let long = out_long meets task slots s r in let zero_out : length r.coordinator.out ≡ 0 = ap (λ (z : Known T J D). length z.out) b.1 ∙ ap length none_out in let t : ℕ = r.coordinator.taken in
      let n : ℕ = length r.core.posted in let low : t ≤ p = subst (λ (z : ℕ). z ≤ p) (sym r.taken_is) o.1 in let high : p < n = o.2 in let q : ℕ = length r.coordinator.out in let long' : n ≡ t + q = long in let z' : q ≡ 0 = zero_out in omega arith

  -- before the first post the coordinator's load of a word finds it free
  take_place_at : (s : S) (r : Holding s) (i id : ℕ) (me : M) → me.0.known.leads ≡ true → me.0.known.out ≡ [] → i < slots → get_elem? me.0.known.notes i ≡ some Home → get_elem? s.views id ≡ some me.0
      → (f : Phase D) → get_elem? r.core.phases i ≡ some f → Shows s.words s.homes r.coordinator.notes (All s) r.core.posted i f
      → (f ≡ free) × (get_elem? s.homes i ≡ some (some Empty)) × (get_or s.words i 0 ≡ FREE)
  take_place_at s r i id me leads none_out near home at free e sh = let b = coordinator_of meets task slots s r id me.0 at leads in
      (refl, ⊎_elim (λ h. h.1) (λ h. let z : Home ≡ Spare = some-injective Home Spare (sym home ∙ (ap (λ (q : Known T J D). get_elem? q.notes i) (sym b.1) ∙ h.0)) in cc) sh.1, sh.0)
  take_place_at s r i id me leads none_out near home at (ready p) e sh = absurd (nothing_out s r id me leads none_out at i (ready p) p e refl)
  take_place_at s r i id me leads none_out near home at (taken p j) e sh = absurd (nothing_out s r id me leads none_out at i (taken p j) p e refl)
  take_place_at s r i id me leads none_out near home at (done p d) e sh = absurd (nothing_out s r id me leads none_out at i (done p d) p e refl)

  pub takes_place : (n id : ℕ) (me : M) (i : ℕ) → me.0.known.leads ≡ true → me.0.known.out ≡ [] → i < slots → get_elem? me.0.known.notes i ≡ some Home
      → Allows Holding n id me i (λ y. y) (took_place (step n i 0 0 none) me)
  takes_place n id me i leads none_out near home s r wide at _ = let ph = phase_at meets task slots s.words s.homes (All s) r i near in let got = take_place_at s r i id me leads none_out near home at ph.0 ph.1 ph.2 in
      let b = coordinator_of meets task slots s r id me.0 at leads in let k = me.0.known in let y : ℕ = get_or s.words i 0 in let w = seen meets task slots me.0 i y (with_note k i Spare) in
      let far : i < length s.homes = subst (λ (z : ℕ). i < z) (sym r.places) near in let notes_long : length k.notes ≡ slots = ap (λ (z : Known T J D). length z.notes) (sym b.1) ∙ r.notes_long in (
        w,
        takes i Empty,
        got.1,
        viewed meets task slots s i y id (set s.homes i none) w (noted_moved meets task slots s r i y id me.0 Spare free near at leads (ph.1 ∙ ap some got.0) (λ j q z. cc)
            (get_or-set_same s.words i y 0 (subst (λ (z : ℕ). i < z) (sym r.wide) (omega arith)) ∙ got.2, inr (set_here k.notes i Spare (subst (λ (z : ℕ). i < z) (sym notes_long) near), set_here s.homes i none far))),
        ((refl, refl), refl, refl),
      )
