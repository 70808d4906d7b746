-- The steps of the coordinator keep the ring's rule.
use Rattle.std.proofs.Common.{◌≡◌, ℕ, ◌+◌, ◌-◌, ◌%◌, ◌<◌, ◌≤◌, ◌≢◌, ◌⊎◌, true, List, [], ◌∷◌, ◌++◌, map, length, drop, set, sym, refl, ap, ◌∙◌, subst, inl, inr, ⊎_elim, arith, mod-lt, length-set, length-append, length-drop, get_or-set_same, Some, None}
use mathlib.Core.Option.{none, some, some-injective}
use lib.ListN.{get_elem?}
use lib.Seq.{drop-append-le}
use Rattle.atomic_table.specs.Table.{State, step, keeps, gives, stepped, Allows, rest}
use Rattle.atomic_table.proofs.Lists.{at_set, set_here, set_else, set_again, at_map, at_longer, at_last}
use Rattle.cd_ring.specs.declared.view.Place.{Place}
use Rattle.cd_ring.specs.declared.view.Place.TheVariants.{Job}
use Rattle.cd_ring.specs.declared.view.Note.{Note}
use Rattle.cd_ring.specs.declared.view.Note.TheVariants.{Home, Spare, Met}
use Rattle.cd_ring.specs.declared.view.Known.{Known}
use Rattle.cd_ring.specs.declared.view.View.{View}
use Rattle.cd_ring.specs.Core.{Phase, free, ready, taken, done, Core, Event, post, claim, finish, take, number, with_phase, posted_one, taken_one, After, Ordered}
use Rattle.cd_ring.specs.Core as core
use Rattle.cd_ring.specs.Rule.{FREE, READY, known, Homes, Holds, Shows, Rule, Ring}
use Rattle.cd_ring.specs.Kinds.{Seated, stored, with_note, with_post, with_take, marked_ready, marked_free, became}
use Rattle.cd_ring.proofs.Core.{at_inside}
use Rattle.cd_ring.proofs.Moves.{good, phase_at, moved}
use Rattle.cd_ring.proofs.WordSteps.{tells, head_at, viewed}

module _ {T J D : Type 0} (meets : J → D → Type 0) (task : T) (slots : ℕ) where
  abbrev S : Type 0
  S = State (Place J D) (View T J D)

  abbrev M : Type 0
  M = Seated T J D

  abbrev Holding : S → Type 0
  Holding = Ring meets task slots

  abbrev All : S → List (Known T J D)
  All s = map known s.views

  -- the seat that leads is the coordinator's
  pub coordinator_of : (s : S) (r : Holding s) (id : ℕ) (v : View T J D) → get_elem? s.views id ≡ some v → v.known.leads ≡ true → (r.lead ≡ id) × (r.coordinator ≡ v.known)
  coordinator_of s r id v at leads = let at' : get_elem? (All s) id ≡ some v.known = at_map known s.views id v at in let is = r.only id v.known at' leads in
      (sym is, some-injective r.coordinator v.known (sym r.leads ∙ subst (λ (z : ℕ). get_elem? (All s) z ≡ some v.known) is at'))

  -- the number of jobs out
  pub out_long : (s : S) (r : Holding s) → length r.core.posted ≡ r.coordinator.taken + length r.coordinator.out
  out_long s r = let o = good meets task slots s.words s.homes (All s) r in let t : ℕ = r.coordinator.taken in let n : ℕ = length r.core.posted in let behind : t ≤ n = subst (λ (z : ℕ). z ≤ n) (sym r.taken_is) o.behind in
      let e : length r.coordinator.out ≡ n - t = ap length r.out_is ∙ length-drop t r.core.posted in let m : ℕ = length r.coordinator.out in let e' : m ≡ n - t = e in omega arith

  -- a free slot alone has the note Spare
  spare_free : (words : List ℕ) (homes : Homes J D) (notes : List (Note D)) (all : List (Known T J D)) (posted : List J) (i : ℕ) → get_elem? notes i ≡ some Spare → (f : Phase D) → Shows words homes notes all posted i f → f ≡ free
  spare_free words homes notes all posted i spare free sh = refl
  spare_free words homes notes all posted i spare (ready p) sh = let e : Spare ≡ Home = some-injective Spare Home (sym spare ∙ sh.1) in cc
  spare_free words homes notes all posted i spare (taken p j) sh = let e : Spare ≡ Home = some-injective Spare Home (sym spare ∙ sh.1) in cc
  spare_free words homes notes all posted i spare (done p d) sh = ⊎_elim
      (λ h. let e : Spare ≡ Home = some-injective Spare Home (sym spare ∙ h.0) in cc) (λ h. let e : Spare ≡ Met d = some-injective Spare (Met d) (sym spare ∙ h.0) in cc) sh.1

  -- a done slot alone has the note Met
  met_done : (words : List ℕ) (homes : Homes J D) (notes : List (Note D)) (all : List (Known T J D)) (posted : List J) (i : ℕ) (d : D) → get_elem? notes i ≡ some (Met d)
      → (f : Phase D) → Shows words homes notes all posted i f → (p : ℕ) × (f ≡ done p d) × (get_elem? homes i ≡ some none)
  met_done words homes notes all posted i d met free sh = ⊎_elim
      (λ h. let e : Met d ≡ Home = some-injective (Met d) Home (sym met ∙ h.0) in cc) (λ h. let e : Met d ≡ Spare = some-injective (Met d) Spare (sym met ∙ h.0) in cc) sh.1
  met_done words homes notes all posted i d met (ready p) sh = let e : Met d ≡ Home = some-injective (Met d) Home (sym met ∙ sh.1) in cc
  met_done words homes notes all posted i d met (taken p j) sh = let e : Met d ≡ Home = some-injective (Met d) Home (sym met ∙ sh.1) in cc
  met_done words homes notes all posted i d met (done p y) sh = ⊎_elim
      (λ h. let e : Met d ≡ Home = some-injective (Met d) Home (sym met ∙ h.0) in cc)
      (λ h. let e : Met d ≡ Met y = some-injective (Met d) (Met y) (sym met ∙ h.0) in let same : y ≡ d = cc in (p, ap (done p) same, h.1)) sh.1

  -- the slot i of the coordinator goes on to f, and its view to u
  coordinator_moved : (s : S) (r : Holding s) (i w id : ℕ) (v : View T J D) (u : Known T J D) (e : Event J D) (c : Core J D) (homes' : Homes J D) (f : Phase D)
      → i < slots → get_elem? s.views id ≡ some v → v.known.leads ≡ true → core.Steps meets slots r.lead r.core e c
      → u.leads ≡ true → u.task ≡ v.known.task → u.taken ≡ length c.results → u.out ≡ drop u.taken c.posted → length u.notes ≡ slots → u.stopped ≡ v.known.stopped
      → c.phases ≡ set r.core.phases i f → ((p : ℕ) (x : J) → get_elem? r.core.posted p ≡ some x → get_elem? c.posted p ≡ some x)
      → length homes' ≡ length s.homes → ((k : ℕ) → k ≢ i → get_elem? homes' k ≡ get_elem? s.homes k)
      → ((k : ℕ) → k ≢ i → get_elem? u.notes k ≡ get_elem? v.known.notes k) → ((k : ℕ) → k ≢ i → get_elem? u.held k ≡ get_elem? v.known.held k)
      → Shows (set s.words i w) homes' u.notes (set (All s) id u) c.posted i f
      → ((x : J) → get_elem? u.held i ≡ some (Some x) → (p : ℕ) × (f ≡ taken p id) × (get_elem? c.posted p ≡ some x))
      → ((j p : ℕ) → j ≢ id → get_elem? r.core.phases i ≡ some (taken p j) → ⊥)
      → Rule meets task slots (set s.words i w) homes' (set (All s) id u)
  coordinator_moved s r i w id v u e c homes' f near at leads did led task_is taken_is out_is notes_long stops phases more as_long home note hold here own theirs =
      let b = coordinator_of s r id v at leads in let all = All s in let at' : get_elem? all id ≡ some v.known = at_map known s.views id v at in
      moved meets task slots s.words s.homes all r i w id v.known u u (e ∷ r.events) c homes' f near (r.core, r.after, did) at'
      (subst (λ (z : ℕ). get_elem? (set all id u) z ≡ some u) (sym b.0) (set_here all id u (at_inside all id v.known at')))
      led (λ _. leads) (task_is ∙ (ap (λ (z : Known T J D). z.task) (sym b.1) ∙ r.task_is)) taken_is out_is notes_long
      (stops ∙ ap (λ (z : Known T J D). z.stopped) (sym b.1)) phases more as_long home
      (λ k other. note k other ∙ ap (λ (z : Known T J D). get_elem? z.notes k) (sym b.1)) hold here own theirs

  -- the coordinator gives the place with the next job
  pub posts : (n id : ℕ) (me : M) (i : ℕ) (x : J) (c : List (ℕ × Place J D)) → me.0.known.leads ≡ true → get_elem? me.0.known.notes i ≡ some Spare
      → i ≡ (me.0.known.taken + length me.0.known.out) % slots → length me.0.known.out < slots → me.1 ≡ (i, Job x) ∷ c
      → Allows Holding n id me i (λ _. READY) (λ _ m. became (with_post me.0.known i x) c i READY (Some (Job x)) me m)
  posts n id me i x c leads spare turn room placed s r wide at _ = let all = All s in let at' : get_elem? all id ≡ some me.0.known = at_map known s.views id me.0 at in
      let b = coordinator_of s r id me.0 at leads in let o = good meets task slots s.words s.homes all r in let k = me.0.known in let t : ℕ = length r.core.results in let m : ℕ = length r.core.posted in let q : ℕ = length k.out in
      let q_is : length r.coordinator.out ≡ q = ap (λ (z : Known T J D). length z.out) b.1 in let k_taken : k.taken ≡ t = ap (λ (z : Known T J D). z.taken) (sym b.1) ∙ r.taken_is in
      let long : m ≡ t + q = out_long s r ∙ (ap (λ (z : ℕ). z + length r.coordinator.out) r.taken_is ∙ ap (λ (z : ℕ). t + z) q_is) in
      let turn' : i ≡ m % slots = turn ∙ ap (λ (z : ℕ). z % slots) (ap (λ (z : ℕ). z + q) k_taken ∙ sym long) in
      let near : i < slots = subst (λ (z : ℕ). z < slots) (sym turn') (mod-lt m r.some_slot) in
      let words_long : i < length s.words = subst (λ (z : ℕ). i < z) (sym r.wide) (omega arith) in let far : i < length s.homes = subst (λ (z : ℕ). i < z) (sym r.places) near in
      let notes_long : length k.notes ≡ slots = ap (λ (z : Known T J D). length z.notes) (sym b.1) ∙ r.notes_long in
      let ph = phase_at meets task slots s.words s.homes all r i near in
      let is_free : ph.0 ≡ free = spare_free s.words s.homes r.coordinator.notes all r.core.posted i (ap (λ (z : Known T J D). get_elem? z.notes i) b.1 ∙ spare) ph.0 ph.2 in
      let no_claim : (j p : ℕ) → get_elem? r.core.phases i ≡ some (taken p j) → ⊥ = λ j p e. let z : free ≡ taken p j = sym is_free ∙ some-injective ph.0 (taken p j) (sym ph.1 ∙ e) in cc in
      let u = with_post k i x in let w : View T J D = record { known = u; looks = me.0.looks; stores = stored me.0.stores i READY (Some (Job x)) } in let homes' = set s.homes i (some (Job x)) in
      let e' = posted_one slots r.core x in let behind : t ≤ m = o.behind in let room' : q < slots = room in (
        w,
        gives,
        tt,
        subst (λ (z : List (ℕ × Place J D)). Holding (stepped s i READY id z w gives)) (sym placed)
            (viewed meets task slots s i READY id homes' w
            (coordinator_moved s r i READY id me.0 u (post x) e' homes' (ready m) near at leads ((let g : m < t + slots = omega arith in g), refl)
            leads refl k_taken
            (ap (λ (z : List J). z ++ x ∷ []) (ap (λ (z : Known T J D). z.out) (sym b.1) ∙ r.out_is ∙ ap (λ (z : Known T J D). drop z.taken r.core.posted) b.1)
            ∙ sym (drop-append-le k.taken r.core.posted (x ∷ []) (subst (λ (z : ℕ). z ≤ m) (sym k_taken) behind)))
            (length-set k.notes i Home ∙ notes_long) refl
            (ap (λ (z : ℕ). set r.core.phases z (ready m)) (sym turn'))
            (λ p y e. at_longer r.core.posted (x ∷ []) p y e)
            (length-set s.homes i (some (Job x))) (λ j other. set_else s.homes i j (some (Job x)) other) (λ j other. set_else k.notes i j Home other) (λ j _. refl)
            (get_or-set_same s.words i READY 0 words_long, set_here k.notes i Home (subst (λ (z : ℕ). i < z) (sym notes_long) near), (x, at_last r.core.posted x m refl, set_here s.homes i (some (Job x)) far))
            (λ y e. let h = r.held id k i y at' e in absurd (no_claim id h.0 h.1))
            (λ j p _ e. no_claim j p e))),
        (refl, refl, ap rest placed, refl),
      )

  -- the oldest job stands in its slot
  pub oldest : (s : S) (r : Holding s) (k : Known T J D) → r.coordinator ≡ k → (x : J) (xs : List J) → k.out ≡ x ∷ xs
      → (length r.core.results < length r.core.posted) × (get_elem? r.core.posted (length r.core.results) ≡ some x) × (xs ≡ drop (k.taken + 1) r.core.posted)
  oldest s r k b x xs out = let t : ℕ = length r.core.results in let m : ℕ = length r.core.posted in let long = out_long s r in
      let taken_is : k.taken ≡ t = ap (λ (z : Known T J D). z.taken) (sym b) ∙ r.taken_is in
      let is : x ∷ xs ≡ drop k.taken r.core.posted = sym out ∙ (ap (λ (z : Known T J D). z.out) (sym b) ∙ r.out_is) ∙ ap (λ (z : Known T J D). drop z.taken r.core.posted) b in
      let h = head_at r.core.posted k.taken x xs is in let here : get_elem? r.core.posted t ≡ some x = subst (λ (z : ℕ). get_elem? r.core.posted z ≡ some x) taken_is h.0 in
      (at_inside r.core.posted t x here, here, h.1)

  -- the phase of the oldest job's slot has its number
  pub oldest_phase : (s : S) (r : Holding s) (i : ℕ) → i ≡ length r.core.results % slots → length r.core.results < length r.core.posted → (f : Phase D) → get_elem? r.core.phases i ≡ some f → number f ≡ some (length r.core.results)
  oldest_phase s r i turn some_job f e = let t : ℕ = length r.core.results in let o = good meets task slots s.words s.homes (All s) r in let st = o.stands t (let g : t ≤ t = omega arith in g) some_job in
      ap number (some-injective f st.0 (sym e ∙ subst (λ (z : ℕ). get_elem? r.core.phases z ≡ some st.0) (sym turn) st.1)) ∙ st.2

  -- the coordinator has the oldest job's result, and the slot is free again. It has met DONE there, or has performed the job that it claimed
  pub frees : (n id : ℕ) (me : M) (i : ℕ) (x : J) (xs : List J) (d : D) → me.0.known.leads ≡ true → i ≡ me.0.known.taken % slots → me.0.known.out ≡ x ∷ xs
      → (get_elem? me.0.known.notes i ≡ some (Met d)) ⊎ (Holds me.0.known i x × meets x d)
      → Allows Holding n id me i (λ _. FREE) (λ _ m. became (with_take me.0.known i xs) me.1 i FREE None me m)
  frees n id me i x xs d leads turn out ways s r wide at _ = let all = All s in let at' : get_elem? all id ≡ some me.0.known = at_map known s.views id me.0 at in let k = me.0.known in
      let b = coordinator_of s r id me.0 at leads in let o = good meets task slots s.words s.homes all r in let t : ℕ = length r.core.results in let m : ℕ = length r.core.posted in
      let taken_is : k.taken ≡ t = ap (λ (z : Known T J D). z.taken) (sym b.1) ∙ r.taken_is in let turn' : i ≡ t % slots = turn ∙ ap (λ (z : ℕ). z % slots) taken_is in
      let near : i < slots = subst (λ (z : ℕ). z < slots) (sym turn') (mod-lt t r.some_slot) in
      let words_long : i < length s.words = subst (λ (z : ℕ). i < z) (sym r.wide) (omega arith) in
      let notes_long : length k.notes ≡ slots = ap (λ (z : Known T J D). length z.notes) (sym b.1) ∙ r.notes_long in
      let old = oldest s r k b.1 x xs out in let ph = phase_at meets task slots s.words s.homes all r i near in let num = oldest_phase s r i turn' old.0 ph.0 ph.1 in
      let u = with_take k i xs in let w : View T J D = record { known = u; looks = me.0.looks; stores = stored me.0.stores i FREE None } in let e' = taken_one slots r.core d in
      -- what either way gives: the core's step, the place is out, and nobody else holds the slot
      let Way : Type 0 = core.Steps meets slots r.lead r.core (take d) e' × (get_elem? s.homes i ≡ some none) × ((j p : ℕ) → j ≢ id → get_elem? r.core.phases i ≡ some (taken p j) → ⊥) in
      let way : Way = ⊎_elim
      (λ (h : get_elem? k.notes i ≡ some (Met d)). let g = met_done s.words s.homes r.coordinator.notes all r.core.posted i d (ap (λ (z : Known T J D). get_elem? z.notes i) b.1 ∙ h) ph.0 ph.2 in
      let same : g.0 ≡ t = some-injective g.0 t (ap number (sym g.1) ∙ num) in let phase : get_elem? r.core.phases i ≡ some (done t d) = ph.1 ∙ ap some (g.1 ∙ ap (λ (z : ℕ). done z d) same) in
      ((inl (subst (λ (z : ℕ). get_elem? r.core.phases z ≡ some (done t d)) turn' phase), refl), g.2, λ j p _ e. let z : done t d ≡ taken p j = some-injective (done t d) (taken p j) (sym phase ∙ e) in cc))
      (λ (h : Holds k i x × meets x d). let g = r.held id k i x at' h.0 in let sh = r.shows i (taken g.0 id) g.1 in
      let same : g.0 ≡ t = some-injective g.0 t (oldest_phase s r i turn' old.0 (taken g.0 id) g.1) in
      let phase : get_elem? r.core.phases i ≡ some (taken t r.lead) = g.1 ∙ (ap (λ (z : ℕ). some (taken z id)) same ∙ ap (λ (z : ℕ). some (taken t z)) (sym b.0)) in (
        (inr (subst (λ (z : ℕ). get_elem? r.core.phases z ≡ some (taken t r.lead)) turn' phase, (x, old.1, h.1)), refl),
        sh.2,
        λ j p other e. other (let z : taken g.0 id ≡ taken p j = some-injective (taken g.0 id) (taken p j) (sym g.1 ∙ e) in cc),
      ))
      ways in (
        w,
        keeps,
        tt,
        viewed meets task slots s i FREE id s.homes w
            (coordinator_moved s r i FREE id me.0 u (take d) e' s.homes free near at leads way.0
            leads refl (ap (λ (z : ℕ). z + 1) taken_is ∙ sym (length-append r.core.results (d ∷ []))) old.2
            (length-set k.notes i Spare ∙ notes_long) refl
            (ap (λ (z : ℕ). set r.core.phases z free) (sym turn')) (λ p y e. e) refl (λ j _. refl) (λ j other. set_else k.notes i j Spare other) (λ j other. set_else k.held i j None other)
            (get_or-set_same s.words i FREE 0 words_long, inr (set_here k.notes i Spare (subst (λ (z : ℕ). i < z) (sym notes_long) near), way.1))
            (λ y e. ⊎_elim (λ (t : (i ≡ i) × (None ≡ Some y)). let z : None ≡ Some y = t.1 in cc) (λ (t : (i ≢ i) × (get_elem? k.held i ≡ some (Some y))). absurd (t.0 refl)) (at_set k.held i i None (Some y) e))
            way.2),
        (refl, refl, refl, refl),
      )

  -- a step at which the core stays, and the coordinator takes the place of i and notes it
  pub noted_moved : (s : S) (r : Holding s) (i w id : ℕ) (v : View T J D) (a : Note D) (f : Phase D) → i < slots → get_elem? s.views id ≡ some v → v.known.leads ≡ true → get_elem? r.core.phases i ≡ some f
      → ((j p : ℕ) → f ≡ taken p j → ⊥)
      → Shows (set s.words i w) (set s.homes i none) (set v.known.notes i a) (set (All s) id (with_note v.known i a)) r.core.posted i f
      → Rule meets task slots (set s.words i w) (set s.homes i none) (set (All s) id (with_note v.known i a))
  noted_moved s r i w id v a f near at leads phase free_of here = let b = coordinator_of s r id v at leads in let all = All s in let at' : get_elem? all id ≡ some v.known = at_map known s.views id v at in let k = v.known in let u = with_note k i a in
      let notes_long : length k.notes ≡ slots = ap (λ (z : Known T J D). length z.notes) (sym b.1) ∙ r.notes_long in
      let no_claim : (j p : ℕ) → get_elem? r.core.phases i ≡ some (taken p j) → ⊥ = λ j p e. free_of j p (some-injective f (taken p j) (sym phase ∙ e)) in
      moved meets task slots s.words s.homes all r i w id k u u r.events r.core (set s.homes i none) f near r.after at'
      (subst (λ (z : ℕ). get_elem? (set all id u) z ≡ some u) (sym b.0) (set_here all id u (at_inside all id k at')))
      leads (λ z. z) (ap (λ (z : Known T J D). z.task) (sym b.1) ∙ r.task_is) (ap (λ (z : Known T J D). z.taken) (sym b.1) ∙ r.taken_is)
      (ap (λ (z : Known T J D). z.out) (sym b.1) ∙ r.out_is ∙ ap (λ (z : Known T J D). drop z.taken r.core.posted) b.1) (length-set k.notes i a ∙ notes_long)
      (ap (λ (z : Known T J D). z.stopped) (sym b.1)) (sym (set_again r.core.phases i f phase)) (λ p x e. e) (length-set s.homes i none) (λ j other. set_else s.homes i j none other)
      (λ j other. set_else k.notes i j a other ∙ ap (λ (z : Known T J D). get_elem? z.notes j) (sym b.1)) (λ j _. refl) here
      (λ y e. let h = r.held id k i y at' e in absurd (no_claim id h.0 h.1)) (λ j p _ e. no_claim j p e)

  -- the same, as the two stores tell it
  pub marks_ready : (n id : ℕ) (me : M) (i : ℕ) (x : J) (c : List (ℕ × Place J D)) → me.0.known.leads ≡ true → get_elem? me.0.known.notes i ≡ some Spare
      → i ≡ (me.0.known.taken + length me.0.known.out) % slots → length me.0.known.out < slots → me.1 ≡ (i, Job x) ∷ c
      → Allows Holding n id me i (λ _. READY) (λ _ m. marked_ready (step n i READY 0 none) me READY m)
  marks_ready n id me i x c leads spare turn room placed = tells Holding n id i me (λ _. READY) (λ _ m. became (with_post me.0.known i x) c i READY (Some (Job x)) me m) (λ _ m. marked_ready (step n i READY 0 none) me READY m)
      (posts n id me i x c leads spare turn room placed) (λ y m told. (x, c, placed, told))

  pub marks_free : (n id : ℕ) (me : M) (i : ℕ) (x : J) (xs : List J) (d : D) → me.0.known.leads ≡ true → i ≡ me.0.known.taken % slots → me.0.known.out ≡ x ∷ xs
      → (get_elem? me.0.known.notes i ≡ some (Met d)) ⊎ (Holds me.0.known i x × meets x d)
      → Allows Holding n id me i (λ _. FREE) (λ _ m. marked_free (step n i FREE 0 none) me FREE m)
  marks_free n id me i x xs d leads turn out ways = tells Holding n id i me (λ _. FREE) (λ _ m. became (with_take me.0.known i xs) me.1 i FREE None me m) (λ _ m. marked_free (step n i FREE 0 none) me FREE m)
      (frees n id me i x xs d leads turn out ways) (λ y m told. (x, xs, out, told))
