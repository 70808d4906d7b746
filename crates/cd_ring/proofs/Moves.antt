-- What stays of the ring's rule when one slot and one view move.
use Rattle.std.proofs.Common.{◌≡◌, ℕ, zero, suc, ◌<◌, ◌≢◌, true, List, [], ◌∷◌, map, length, get_or, drop, set, sym, refl, ap, ◌∙◌, subst, inl, inr, ⊎_elim, arith, length-set, get_or-set_other, Some}
use mathlib.Core.Logic.{dite}
use mathlib.Core.Option.{some, some-injective}
use native.Mathlib.Decide.{ℕ_discrete}
use lib.ListN.{get_elem?}
use lib.Seq.{set-get_or, map-set}
use Rattle.atomic_table.specs.Table.{State}
use Rattle.atomic_table.proofs.Lists.{at_set, set_here, set_else, set_again, at_map}
use Rattle.cd_ring.specs.declared.view.Place.{Place}
use Rattle.cd_ring.specs.declared.view.Note.{Note}
use Rattle.cd_ring.specs.declared.view.Known.{Known}
use Rattle.cd_ring.specs.declared.view.View.{View}
use Rattle.cd_ring.specs.Core.{Phase, free, ready, taken, done, Core, Event, After, Ordered}
use Rattle.cd_ring.specs.Rule.{known, Homes, Holds, HeldBy, Shows, Rule, Ring}
use Rattle.cd_ring.proofs.Core.{after_ordered, at_inside}

pub there : {A : Type 0} (l : List A) (k : ℕ) → k < length l → (a : A) × (get_elem? l k ≡ some a)
there [] k h = absurd (omega arith)
there (x ∷ xs) zero h = (x, refl)
there (x ∷ xs) (suc k) h = there xs k (omega arith)

module _ {T J D : Type 0} where
  pub held_stays : (all : List (Known T J D)) (id : ℕ) (v u : Known T J D) (posted posted' : List J) (k p seat : ℕ) → get_elem? all id ≡ some v → get_elem? u.held k ≡ get_elem? v.held k
      → ((x : J) → get_elem? posted p ≡ some x → get_elem? posted' p ≡ some x) → HeldBy all posted k p seat → HeldBy (set all id u) posted' k p seat
  held_stays all id v u posted posted' k p seat at same more h = dite (ℕ_discrete seat id)
      (λ is. let here : get_elem? all id ≡ some h.0 = subst (λ (z : ℕ). get_elem? all z ≡ some h.0) is h.2 in let old : h.0 ≡ v = some-injective h.0 v (sym here ∙ at) in
      (u, h.1, subst (λ (z : ℕ). get_elem? (set all id u) z ≡ some u) (sym is) (set_here all id u (at_inside all id v at)), same ∙ subst (λ (z : Known T J D). Holds z k h.1) old h.3, more h.1 h.4))
      (λ other. (h.0, h.1, set_else all id seat u other ∙ h.2, h.3, more h.1 h.4))

  pub shows_stays : (words words' : List ℕ) (homes homes' : Homes J D) (notes notes' : List (Note D)) (all all' : List (Known T J D)) (posted posted' : List J) (k : ℕ)
      → get_or words' k 0 ≡ get_or words k 0 → get_elem? homes' k ≡ get_elem? homes k → get_elem? notes' k ≡ get_elem? notes k
      → ((p : ℕ) (x : J) → get_elem? posted p ≡ some x → get_elem? posted' p ≡ some x)
      → ((p seat : ℕ) → HeldBy all posted k p seat → HeldBy all' posted' k p seat)
      → (f : Phase D) → Shows words homes notes all posted k f → Shows words' homes' notes' all' posted' k f
  shows_stays words words' homes homes' notes notes' all all' posted posted' k w h n more held free s = (w ∙ s.0, ⊎_elim (λ t. inl (n ∙ t.0, h ∙ t.1)) (λ t. inr (n ∙ t.0, h ∙ t.1)) s.1)
  shows_stays words words' homes homes' notes notes' all all' posted posted' k w h n more held (ready p) s = (w ∙ s.0, n ∙ s.1, (s.2.0, more p s.2.0 s.2.1, h ∙ s.2.2))
  shows_stays words words' homes homes' notes notes' all all' posted posted' k w h n more held (taken p seat) s = (w ∙ s.0, n ∙ s.1, h ∙ s.2, held p seat s.3)
  shows_stays words words' homes homes' notes notes' all all' posted posted' k w h n more held (done p d) s = (w ∙ s.0, ⊎_elim (λ t. inl (n ∙ t.0, h ∙ t.1)) (λ t. inr (n ∙ t.0, h ∙ t.1)) s.1)

module _ {T J D : Type 0} (meets : J → D → Type 0) (task : T) (slots : ℕ) where
  abbrev L : Type 0
  L = Known T J D

  abbrev R : List ℕ → Homes J D → List L → Type 0
  R = Rule meets task slots

  pub good : (words : List ℕ) (homes : Homes J D) (all : List L) (r : R words homes all) → Ordered meets slots r.lead r.core
  good words homes all r = after_ordered meets slots r.lead r.some_slot r.events r.core r.after

  -- the phase of a slot, and what it shows
  pub phase_at : (words : List ℕ) (homes : Homes J D) (all : List L) (r : R words homes all) (i : ℕ) → i < slots
      → (f : Phase D) × (get_elem? r.core.phases i ≡ some f) × Shows words homes r.coordinator.notes all r.core.posted i f
  phase_at words homes all r i near = let o = good words homes all r in let at = there r.core.phases i (subst (λ (z : ℕ). i < z) (sym o.long) near) in (at.0, at.1, r.shows i at.0 at.1)

  -- the slot i goes on to the phase f, and the seat id from the view v to u. The coordinator's view is then `coordinator`
  pub moved : (words : List ℕ) (homes : Homes J D) (all : List L) (r : R words homes all) (i w id : ℕ) (v u coordinator : L) (es : List (Event J D)) (c : Core J D) (homes' : Homes J D) (f : Phase D)
      → i < slots → After meets slots r.lead es c → get_elem? all id ≡ some v
      → get_elem? (set all id u) r.lead ≡ some coordinator → coordinator.leads ≡ true → (u.leads ≡ true → v.leads ≡ true) → coordinator.task ≡ Some task → coordinator.taken ≡ length c.results → coordinator.out ≡ drop coordinator.taken c.posted
      → length coordinator.notes ≡ slots → coordinator.stopped ≡ r.coordinator.stopped
      → c.phases ≡ set r.core.phases i f → ((p : ℕ) (x : J) → get_elem? r.core.posted p ≡ some x → get_elem? c.posted p ≡ some x)
      → length homes' ≡ length homes → ((k : ℕ) → k ≢ i → get_elem? homes' k ≡ get_elem? homes k)
      → ((k : ℕ) → k ≢ i → get_elem? coordinator.notes k ≡ get_elem? r.coordinator.notes k) → ((k : ℕ) → k ≢ i → get_elem? u.held k ≡ get_elem? v.held k)
      → Shows (set words i w) homes' coordinator.notes (set all id u) c.posted i f
      → ((x : J) → get_elem? u.held i ≡ some (Some x) → (p : ℕ) × (f ≡ taken p id) × (get_elem? c.posted p ≡ some x))
      → ((j p : ℕ) → j ≢ id → get_elem? r.core.phases i ≡ some (taken p j) → ⊥)
      → R (set words i w) homes' (set all id u)
  moved words homes all r i w id v u coordinator es c homes' f near after at leads led mine task_is taken_is out_is notes_long stops phases more as_long home note hold here own theirs = record {
    core = c;
    lead = r.lead;
    coordinator = coordinator;
    events = es;
    after = after;
    some_slot = r.some_slot;
    wide = length-set words i w ∙ r.wide;
    places = as_long ∙ r.places;
    leads = leads;
    coordinator_leads = led;
    only = λ j x e is. ⊎_elim
        (λ (t : (j ≡ id) × (u ≡ x)). t.0 ∙ r.only id v at (mine (ap (λ (z : L). z.leads) t.1 ∙ is)))
        (λ (t : (j ≢ id) × (get_elem? all j ≡ some x)). r.only j x t.1 is)
        (at_set all id j u x e);
    task_is = task_is;
    taken_is = taken_is;
    out_is = out_is;
    notes_long = notes_long;
    shows = λ k g e. ⊎_elim
        (λ (t : (k ≡ i) × (f ≡ g)). subst (λ (z : ℕ × Phase D). Shows (set words i w) homes' coordinator.notes (set all id u) c.posted z.0 z.1) (λ l. (sym t.0 l, t.1 l)) here)
        (λ (t : (k ≢ i) × (get_elem? r.core.phases k ≡ some g)). shows_stays words (set words i w) homes homes' r.coordinator.notes coordinator.notes all (set all id u) r.core.posted c.posted k
        (get_or-set_other words i k w 0 t.0) (home k t.0) (note k t.0) more
        (λ p seat. held_stays all id v u r.core.posted c.posted k p seat at (hold k t.0) (more p)) g (r.shows k g t.1))
        (at_set r.core.phases i k f g (sym (ap (λ (z : List (Phase D)). get_elem? z k) phases) ∙ e));
    held = λ j x k y e h. ⊎_elim
        (λ (t : (j ≡ id) × (u ≡ x)). let h' : get_elem? u.held k ≡ some (Some y) = subst (λ (z : L). get_elem? z.held k ≡ some (Some y)) (sym t.1) h in dite (ℕ_discrete k i)
        (λ is. let o = own y (subst (λ (z : ℕ). get_elem? u.held z ≡ some (Some y)) is h') in
        (o.0, now k (taken o.0 j) (subst (λ (z : ℕ × Phase D). get_elem? (set r.core.phases i f) z.0 ≡ some z.1) (λ l. (sym is l, (o.1 ∙ ap (taken o.0) (sym t.0)) l)) (fresh f)), o.2))
        (λ other. let old = r.held id v k y at (sym (hold k other) ∙ h') in
        (old.0, now k (taken old.0 j) (set_else r.core.phases i k f other ∙ old.1 ∙ ap (λ (z : ℕ). some (taken old.0 z)) (sym t.0)), more old.0 y old.2)))
        (λ (t : (j ≢ id) × (get_elem? all j ≡ some x)). let old = r.held j x k y t.1 h in
        (old.0, now k (taken old.0 j) (set_else r.core.phases i k f (λ is. theirs j old.0 t.0 (subst (λ (z : ℕ). get_elem? r.core.phases z ≡ some (taken old.0 j)) is old.1)) ∙ old.1), more old.0 y old.2))
        (at_set all id j u x e);
    stop = let same = get_or-set_other words i slots w 0 (λ e. omega arith) in (λ is. stops ∙ r.stop.0 (sym same ∙ is), λ is. same ∙ r.stop.1 (sym stops ∙ is));
  }
    where
      now : (k : ℕ) (g : Phase D) → get_elem? (set r.core.phases i f) k ≡ some g → get_elem? c.phases k ≡ some g
      now k g e = ap (λ (z : List (Phase D)). get_elem? z k) phases ∙ e

      fresh : (g : Phase D) → get_elem? (set r.core.phases i g) i ≡ some g
      fresh g = set_here r.core.phases i g (subst (λ (z : ℕ). i < z) (sym (good words homes all r).long) near)

  -- a step that changes no word, no place and nothing that the seat knows
  pub unmoved : (s : State (Place J D) (View T J D)) → Ring meets task slots s → (i id : ℕ) (v w : View T J D) → get_elem? s.views id ≡ some v → w.known ≡ v.known
      → Ring meets task slots record { words = set s.words i (get_or s.words i 0); homes = s.homes; views = set s.views id w }
  unmoved s r i id v w at same = subst (λ (z : List ℕ × List L). R z.0 s.homes z.1)
      (λ l. (sym (set-get_or s.words i 0) l, sym (map-set known s.views id w ∙ (ap (set (map known s.views) id) same ∙ set_again (map known s.views) id v.known (at_map known s.views id v at))) l)) r
