-- How seats come and go, and how the ring begins and stops.
use Rattle.std.proofs.Common.{◌≡◌, ℕ, zero, suc, ◌+◌, ◌<◌, ◌≢◌, true, false, List, [], ◌∷◌, ◌++◌, map, length, get_or, drop, set, replicate, sym, refl, ap, ◌∙◌, subst, inl, ⊎_elim, arith, length-set, get_or-set_same, get_or-set_other, Some, None}
use mathlib.Core.Option.{none, some, some-injective, some-ne-none}
use mathlib.Core.List.{map-append}
use lib.ListN.{get_elem?, length-map, length-replicate}
use lib.Seq.{map-set}
use Rattle.atomic_table.specs.Table.{State, step, keeps, Allows, Splits, Joins, opening}
use Rattle.atomic_table.proofs.Lists.{at_set, at_snoc, set_here, set_else, set_again, at_map, at_longer}
use Rattle.cd_ring.specs.declared.view.Place.{Place}
use Rattle.cd_ring.specs.declared.view.Place.TheVariants.{Empty}
use Rattle.cd_ring.specs.declared.view.Note.TheVariants.{Home}
use Rattle.cd_ring.specs.declared.view.Known.{Known}
use Rattle.cd_ring.specs.declared.view.View.{View}
use Rattle.cd_ring.specs.Core.{Phase, free, start}
use Rattle.cd_ring.specs.Rule.{known, Homes, Holds, Shows, Rule, Ring}
use Rattle.cd_ring.specs.Kinds.{opening_view, stored, Seated, with_stop, set_stop, spent_view}
use Rattle.cd_ring.proofs.Core.{at_inside, at_replicate}
use Rattle.cd_ring.proofs.Moves.{good, shows_stays, held_stays}
use Rattle.cd_ring.proofs.WordSteps.{viewed}
use Rattle.cd_ring.proofs.CoordinatorSteps.{coordinator_of}

module _ {T J D : Type 0} (full : T → J → D → Type 0) (task : T) (slots : ℕ) where
  abbrev S : Type 0
  S = State (Place J D) (View T J D)

  abbrev M : Type 0
  M = Seated T J D

  abbrev meets : J → D → Type 0
  meets = full task

  abbrev Holding : S → Type 0
  Holding = Ring meets task slots

  abbrev All : S → List (Known T J D)
  All s = map known s.views

  abbrev Told : M → ℕ → ℕ → M → Type 0
  Told me n i = λ m. Unit {0}

  -- the coordinator sets the stop word
  pub stops : (n id : ℕ) (me : M) → me.0.known.leads ≡ true → Allows Holding n id me slots (λ _. 1) (λ _ m. set_stop (step n slots 1 0 none) me 1 m)
  stops n id me leads s r wide at _ = let b = coordinator_of meets task slots s r id me.0 at leads in let k = me.0.known in let u = with_stop k in let w : View T J D = record { known = u; looks = me.0.looks; stores = stored me.0.stores slots 1 None } in let all = All s in
      let at' : get_elem? all id ≡ some k = at_map known s.views id me.0 at in let o = good meets task slots s.words s.homes all r in (
        w,
        keeps,
        tt,
        viewed meets task slots s slots 1 id s.homes w record {
          core = r.core;
          lead = r.lead;
          coordinator = u;
          events = r.events;
          after = r.after;
          some_slot = r.some_slot;
          wide = length-set s.words slots 1 ∙ r.wide;
          places = r.places;
          leads = subst (λ (z : ℕ). get_elem? (set all id u) z ≡ some u) (sym b.0) (set_here all id u (at_inside all id k at'));
          coordinator_leads = leads;
          only = λ j x e is. ⊎_elim
              (λ (t : (j ≡ id) × (u ≡ x)). t.0 ∙ sym b.0)
              (λ (t : (j ≢ id) × (get_elem? all j ≡ some x)). r.only j x t.1 is)
              (at_set all id j u x e);
          task_is = ap (λ (z : Known T J D). z.task) (sym b.1) ∙ r.task_is;
          taken_is = ap (λ (z : Known T J D). z.taken) (sym b.1) ∙ r.taken_is;
          out_is = ap (λ (z : Known T J D). z.out) (sym b.1) ∙ r.out_is ∙ ap (λ (z : Known T J D). drop z.taken r.core.posted) b.1;
          notes_long = ap (λ (z : Known T J D). length z.notes) (sym b.1) ∙ r.notes_long;
          shows = λ i f e. let near : i < slots = subst (λ (z : ℕ). i < z) o.long (at_inside r.core.phases i f e) in
              shows_stays s.words (set s.words slots 1) s.homes s.homes r.coordinator.notes k.notes all (set all id u) r.core.posted r.core.posted i
              (get_or-set_other s.words slots i 1 0 (λ z. omega arith)) refl (ap (λ (z : Known T J D). get_elem? z.notes i) (sym b.1)) (λ p x z. z)
              (λ p seat. held_stays all id k u r.core.posted r.core.posted i p seat at' refl (λ x z. z)) f (r.shows i f e);
          held = λ j x i y e h. ⊎_elim
              (λ (t : (j ≡ id) × (u ≡ x)). r.held j k i y (subst (λ (z : ℕ). get_elem? all z ≡ some k) (sym t.0) at') (subst (λ (z : Known T J D). Holds z i y) (sym t.1) h))
              (λ (t : (j ≢ id) × (get_elem? all j ≡ some x)). r.held j x i y t.1 h)
              (at_set all id j u x e);
          stop = (λ _. refl, λ _. get_or-set_same s.words slots 1 0 (subst (λ (z : ℕ). slots < z) (sym r.wide) (omega arith)));
        },
        (refl, refl, refl, refl),
      )

  pub stops_at : (n id : ℕ) (me : M) (i : ℕ) → i ≡ slots → me.0.known.leads ≡ true → Allows Holding n id me i (λ _. 1) (λ _ m. set_stop (step n i 1 0 none) me 1 m)
  stops_at n id me i is leads = subst (λ (z : ℕ). Allows Holding n id me z (λ _. 1) (λ _ m. set_stop (step n z 1 0 none) me 1 m)) (sym is) (stops n id me leads)

  -- a seat that knows nothing and holds nothing
  abbrev pub Idle : Known T J D → Type 0
  Idle k = (k.leads ≡ false) × ((i : ℕ) (x : J) → get_elem? k.held i ≡ some (Some x) → ⊥)

  pub arrived : (words : List ℕ) (homes : Homes J D) (all : List (Known T J D)) → Rule meets task slots words homes all → (k : Known T J D) → Idle k → Rule meets task slots words homes (all ++ k ∷ [])
  arrived words homes all r k idle = record {
    core = r.core;
    lead = r.lead;
    coordinator = r.coordinator;
    events = r.events;
    after = r.after;
    some_slot = r.some_slot;
    wide = r.wide;
    places = r.places;
    leads = at_longer all (k ∷ []) r.lead r.coordinator r.leads;
    coordinator_leads = r.coordinator_leads;
    only = λ j x e is. ⊎_elim
        (λ (t : get_elem? all j ≡ some x). r.only j x t is)
        (λ (t : k ≡ x). let z : false ≡ true = sym idle.0 ∙ (ap (λ (q : Known T J D). q.leads) t ∙ is) in cc)
        (at_snoc all k x j e);
    task_is = r.task_is;
    taken_is = r.taken_is;
    out_is = r.out_is;
    notes_long = r.notes_long;
    shows = λ i f e. shows_stays words words homes homes r.coordinator.notes r.coordinator.notes all (all ++ k ∷ []) r.core.posted r.core.posted i refl refl refl (λ p x z. z)
        (λ p seat h. (h.0, h.1, at_longer all (k ∷ []) seat h.0 h.2, h.3, h.4)) f (r.shows i f e);
    held = λ j x i y e h. ⊎_elim
        (λ (t : get_elem? all j ≡ some x). r.held j x i y t h)
        (λ (t : k ≡ x). absurd (idle.1 i y (subst (λ (z : Known T J D). Holds z i y) (sym t) h)))
        (at_snoc all k x j e);
    stop = r.stop;
  }

  pub splits : (id : ℕ) (v w : View T J D) → Idle w.known → Splits Holding id v v w
  splits id v w idle s r at = subst (Rule meets task slots s.words s.homes) (sym (map-append known (set s.views id v) (w ∷ [])))
      (arrived s.words s.homes (map known (set s.views id v)) (subst (λ (z : List (View T J D)). Rule meets task slots s.words s.homes (map known z)) (sym (set_again s.views id v at)) r) w.known idle)

  replaced : (words : List ℕ) (homes : Homes J D) (all : List (Known T J D)) → Rule meets task slots words homes all → (other : ℕ) (w k : Known T J D) → get_elem? all other ≡ some w → Idle w → Idle k
      → Rule meets task slots words homes (set all other k)
  replaced words homes all r other w k at was idle =
      let apart : (seat : ℕ) (x : Known T J D) → get_elem? all seat ≡ some x → ((i : ℕ) (y : J) → Holds x i y → seat ≢ other) = λ seat x e i y h is.
      absurd (was.1 i y (subst (λ (z : Known T J D). Holds z i y) (some-injective x w (sym e ∙ subst (λ (z : ℕ). get_elem? all z ≡ some w) (sym is) at)) h)) in
      let led : r.lead ≢ other = λ is. let same : r.coordinator ≡ w = some-injective r.coordinator w (sym r.leads ∙ subst (λ (z : ℕ). get_elem? all z ≡ some w) (sym is) at) in
      let z : true ≡ false = sym r.coordinator_leads ∙ (ap (λ (q : Known T J D). q.leads) same ∙ was.0) in cc in record {
        core = r.core;
        lead = r.lead;
        coordinator = r.coordinator;
        events = r.events;
        after = r.after;
        some_slot = r.some_slot;
        wide = r.wide;
        places = r.places;
        leads = set_else all other r.lead k led ∙ r.leads;
        coordinator_leads = r.coordinator_leads;
        only = λ j x e is. ⊎_elim
            (λ (t : (j ≡ other) × (k ≡ x)). let z : false ≡ true = sym idle.0 ∙ (ap (λ (q : Known T J D). q.leads) t.1 ∙ is) in cc)
            (λ (t : (j ≢ other) × (get_elem? all j ≡ some x)). r.only j x t.1 is)
            (at_set all other j k x e);
        task_is = r.task_is;
        taken_is = r.taken_is;
        out_is = r.out_is;
        notes_long = r.notes_long;
        shows = λ i f e. shows_stays words words homes homes r.coordinator.notes r.coordinator.notes all (set all other k) r.core.posted r.core.posted i refl refl refl (λ p x z. z)
            (λ p seat h. (h.0, h.1, set_else all other seat k (apart seat h.0 h.2 i h.1 h.3) ∙ h.2, h.3, h.4)) f (r.shows i f e);
        held = λ j x i y e h. ⊎_elim
            (λ (t : (j ≡ other) × (k ≡ x)). absurd (idle.1 i y (subst (λ (z : Known T J D). Holds z i y) (sym t.1) h)))
            (λ (t : (j ≢ other) × (get_elem? all j ≡ some x)). r.held j x i y t.1 h)
            (at_set all other j k x e);
        stop = r.stop;
      }

  pub spent_idle : Idle (spent_view {T = T} {J = J} {D = D}).known
  spent_idle = (refl, λ i x e. some-ne-none (Some x) (sym e))

  pub joins : (id : ℕ) (v : View T J D) (other : ℕ) (w k : View T J D) → Idle w.known → Idle k.known → Joins Holding id v other w v k
  joins id v other w k was idle s r at two at' = let vs = set s.views id v in subst (Rule meets task slots s.words s.homes) (sym (map-set known vs other k))
      (replaced s.words s.homes (map known vs) (subst (λ (z : List (View T J D)). Rule meets task slots s.words s.homes (map known z)) (sym (set_again s.views id v at)) r) other w.known k.known (at_map known vs other w at') was idle)

at_zeros : (n i : ℕ) → ◌≡◌ {A = ℕ} (get_or (replicate n 0) i 0) 0
at_zeros zero i = refl
at_zeros (suc n) zero = refl
at_zeros (suc n) (suc i) = at_zeros n i

pub at_all : {A : Type 0} (n i : ℕ) (a : A) → i < n → get_elem? (replicate n a) i ≡ some a
at_all zero i a near = absurd (omega arith)
at_all (suc n) zero a near = refl
at_all (suc n) (suc i) a near = at_all n i a (omega arith)

-- the ring at the start
pub begins : {T J D : Type 0} (meets : J → D → Type 0) (task : T) (slots : ℕ) (ws : List ℕ) (xs : List (Place J D)) → 0 < slots → ws ≡ replicate (slots + 1) 0 → xs ≡ replicate slots Empty
    → Ring meets task slots (opening ws xs (opening_view task slots))
begins {T} {J} {D} meets task slots ws xs some_slot zeros empty = let b : Known T J D = (opening_view {J = J} {D = D} task slots).known in record {
  core = start slots;
  lead = 0;
  coordinator = b;
  events = [];
  after = refl;
  some_slot = some_slot;
  wide = ap length zeros ∙ length-replicate (slots + 1) 0;
  places = length-map xs some ∙ (ap length empty ∙ length-replicate slots Empty);
  leads = refl;
  coordinator_leads = refl;
  only = λ j v e is. one j v e;
  task_is = refl;
  taken_is = refl;
  out_is = refl;
  notes_long = length-replicate slots Home;
  shows = λ i f e. let near : i < slots = subst (λ (z : ℕ). i < z) (length-replicate slots free) (at_inside (replicate slots free) i f e) in
      subst (λ (g : Phase D). Shows ws (map some xs) b.notes (b ∷ []) [] i g) (at_replicate slots i free f e)
      (ap (λ (z : List ℕ). get_or z i 0) zeros ∙ at_zeros (slots + 1) i, inl (at_all slots i Home near, at_map some xs i Empty (ap (λ (z : List (Place J D)). get_elem? z i) empty ∙ at_all slots i Empty near)));
  held = λ j v i x e h. let same : b ≡ v = first j v e in let z : None ≡ Some x = at_replicate slots i None (Some x) (subst (λ (q : Known T J D). Holds q i x) (sym same) h) in cc;
  stop = (λ e. let z : 0 ≡ 1 = sym (ap (λ (q : List ℕ). get_or q slots 0) zeros ∙ at_zeros (slots + 1) slots) ∙ e in absurd (omega arith), λ e. let z : false ≡ true = e in cc);
}
  where
    one : (j : ℕ) (v : Known T J D) → get_elem? ((opening_view {J = J} {D = D} task slots).known ∷ []) j ≡ some v → j ≡ 0
    one zero v e = refl
    one (suc j) v e = absurd (some-ne-none v (sym e))

    first : (j : ℕ) (v : Known T J D) → get_elem? ((opening_view {J = J} {D = D} task slots).known ∷ []) j ≡ some v → (opening_view {J = J} {D = D} task slots).known ≡ v
    first zero v e = some-injective _ v e
    first (suc j) v e = absurd (some-ne-none v (sym e))
