-- What the coordinator's seat is once the oldest job is taken.
use Rattle.std.proofs.Common.{◌≡◌, ℕ, ◌+◌, ◌≢◌, List, ◌∷◌, length, set, sym, ap, ◌∙◌, ⊎_elim, length-set, set-set, Option, Some, None}
use mathlib.Core.Option.{some}
use lib.ListN.{get_elem?}
use Rattle.atomic_table.proofs.Lists.{at_set}
use Rattle.cd_ring.specs.declared.view.Note.TheVariants.{Spare, Met}
use Rattle.cd_ring.specs.declared.view.Look.{Look}
use Rattle.cd_ring.specs.declared.view.Store.{Store}
use Rattle.cd_ring.specs.declared.view.Known.{Known}
use Rattle.cd_ring.specs.Kinds.{Seated, stored, with_take, became}
use Rattle.cd_ring.specs.Rule.{FREE}
use Rattle.cd_ring.specs.Rest.{FoundJob, FoundResult, Took}

module _ {T J D : Type 0} (meets : J → D → Type 0) where
  abbrev pub Freed : Seated T J D → ℕ → Seated T J D → Type 0
  Freed n i p = (x : J) × (xs : List J) × (n.0.known.out ≡ x ∷ xs) × became (with_take n.0.known i xs) n.1 i FREE None n p

  not_held : (k : Known T J D) (i : ℕ) (h : Option J) → ((j : ℕ) (y : J) → j ≢ i → get_elem? k.held j ≡ some (Some y) → ⊥)
      → (j : ℕ) (y : J) → get_elem? (set k.held i None) j ≡ some (Some y) → ⊥
  not_held k i h none j y e = ⊎_elim
      (λ (t : (j ≡ i) × (None ≡ Some y)). let z : None ≡ Some y = t.1 in cc)
      (λ (t : (j ≢ i) × (get_elem? k.held j ≡ some (Some y))). none j y t.0 t.1)
      (at_set k.held i j None (Some y) e)

  pub took_job : (m n p : Seated T J D) (i : ℕ) (x : J) (d : D) → FoundJob m i x n → Freed n i p → meets x d → Took meets m i d p
  took_job m n p i x d found freed met = let known = found.2.0 in let to = freed.3.0 in
      let both : freed.0 ∷ freed.1 ≡ x ∷ found.0 = sym freed.2 ∙ (ap (λ (k : Known T J D). k.out) known ∙ found.1) in let same : freed.1 ≡ found.0 = cc in record {
        x = x;
        xs = found.0;
        out = found.1;
        met = met;
        leads = ap (λ (k : Known T J D). k.leads) to ∙ ap (λ (k : Known T J D). k.leads) known;
        task = ap (λ (k : Known T J D). k.task) to ∙ ap (λ (k : Known T J D). k.task) known;
        stopped = ap (λ (k : Known T J D). k.stopped) to ∙ ap (λ (k : Known T J D). k.stopped) known;
        left = ap (λ (k : Known T J D). k.out) to ∙ same;
        taken = ap (λ (k : Known T J D). k.taken) to ∙ ap (λ (k : Known T J D). k.taken + 1) known;
        held_long = ap (λ (k : Known T J D). length k.held) to ∙ (length-set n.0.known.held i None ∙ (ap (λ (k : Known T J D). length k.held) known ∙ length-set m.0.known.held i (Some x)));
        no_claim = λ none j y e. not_held n.0.known i None
            (λ z w other h. ⊎_elim
            (λ (t : (z ≡ i) × (Some x ≡ Some w)). other t.0)
            (λ (t : (z ≢ i) × (get_elem? m.0.known.held z ≡ some (Some w))). none z w t.1)
            (at_set m.0.known.held i z (Some x) (Some w) (sym (ap (λ (k : Known T J D). get_elem? k.held z) known) ∙ h)))
            j y (sym (ap (λ (k : Known T J D). get_elem? k.held j) to) ∙ e);
        notes = ap (λ (k : Known T J D). k.notes) to ∙ ap (λ (k : Known T J D). set k.notes i Spare) known;
        place = freed.3.2 ∙ found.2.1;
        looks_long = ap (λ (l : List Look). length l) (freed.3.1 ∙ found.2.2.0) ∙ length-set m.0.looks i _;
        stores = freed.3.3 ∙ ap (λ (l : List (Store J D)). stored l i FREE None) found.2.2.1;
      }

  pub took_result : (m n p : Seated T J D) (i : ℕ) (d : D) → FoundResult meets m i d n → Freed n i p → Took meets m i d p
  took_result m n p i d found freed = let known = found.4 in let to = freed.3.0 in
      let both : freed.0 ∷ freed.1 ≡ found.0 ∷ found.1 = sym freed.2 ∙ (ap (λ (k : Known T J D). k.out) known ∙ found.2) in let same : freed.1 ≡ found.1 = cc in record {
        x = found.0;
        xs = found.1;
        out = found.2;
        met = found.3;
        leads = ap (λ (k : Known T J D). k.leads) to ∙ ap (λ (k : Known T J D). k.leads) known;
        task = ap (λ (k : Known T J D). k.task) to ∙ ap (λ (k : Known T J D). k.task) known;
        stopped = ap (λ (k : Known T J D). k.stopped) to ∙ ap (λ (k : Known T J D). k.stopped) known;
        left = ap (λ (k : Known T J D). k.out) to ∙ same;
        taken = ap (λ (k : Known T J D). k.taken) to ∙ ap (λ (k : Known T J D). k.taken + 1) known;
        held_long = ap (λ (k : Known T J D). length k.held) to ∙ (length-set n.0.known.held i None ∙ ap (λ (k : Known T J D). length k.held) known);
        no_claim = λ none j y e. not_held n.0.known i None
            (λ z w other h. none z w (sym (ap (λ (k : Known T J D). get_elem? k.held z) known) ∙ h))
            j y (sym (ap (λ (k : Known T J D). get_elem? k.held j) to) ∙ e);
        notes = ap (λ (k : Known T J D). k.notes) to ∙ (ap (λ (k : Known T J D). set k.notes i Spare) known ∙ set-set m.0.known.notes i (Met d) Spare);
        place = freed.3.2 ∙ found.5;
        looks_long = ap (λ (l : List Look). length l) (freed.3.1 ∙ found.6.1.0) ∙ length-set m.0.looks i _;
        stores = freed.3.3 ∙ ap (λ (l : List (Store J D)). stored l i FREE None) found.6.1.1;
      }
