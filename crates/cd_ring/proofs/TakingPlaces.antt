-- The coordinator takes the places of all slots.
use Rattle.std.proofs.Common.{◌≡◌, ℕ, zero, suc, ◌+◌, ◌-◌, ◌%◌, ◌<◌, ◌≤◌, List, [], ◌∷◌, length, map, set, sym, refl, ap, ap₂, ◌∙◌, subst, arith, length-set, mod-eq_of_lt, Option, Some, None}
use mathlib.Core.Logic.{dite}
use mathlib.Core.Option.{some, some-injective, some-ne-none}
use native.Mathlib.Decide.{ℕ_discrete}
use lib.ListN.{get_elem?, length-replicate}
use Rattle.atomic_table.proofs.Lists.{set_here, set_else}
use Rattle.cd_ring.specs.declared.view.Place.{Place}
use Rattle.cd_ring.specs.declared.view.Place.TheVariants.{Empty}
use Rattle.cd_ring.specs.declared.view.Note.TheVariants.{Home, Spare}
use Rattle.cd_ring.specs.declared.view.Known.{Known}
use Rattle.cd_ring.specs.Kinds.{Seated, opening_view, no_look, no_store, with_note}
use Rattle.cd_ring.specs.Rest.{spares, AtRest}
use Rattle.cd_ring.specs.Opening.{IsTakingPlaces}
use Rattle.cd_ring.proofs.Core.{at_replicate}
use Rattle.cd_ring.proofs.SeatSteps.{at_all}
use Rattle.cd_ring.proofs.Rests.{spares_one}

pub none_held : {J : Type 0} (l : List (Option J)) (i : ℕ) (x : J) → let z : Option J = None in (get_elem? (map (λ (_ : Option J). z) l) i ≡ some (Some x) → ⊥)
none_held [] i x e = some-ne-none _ (sym e)
none_held (y ∷ l) zero x e = let z : None ≡ Some x = some-injective None (Some x) e in cc
none_held (y ∷ l) (suc i) x e = none_held l i x e

module _ {T J D : Type 0} (task : T) (slots : ℕ) where
  pub takes_first_place : (m : Seated T J D) → m ≡ (opening_view task slots, []) → IsTakingPlaces task slots slots m
  takes_first_place m is = subst (IsTakingPlaces task slots slots) (sym is) record {
    leads = refl;
    task_is = refl;
    out_is = refl;
    taken_is = refl;
    held_is = refl;
    stopped_is = refl;
    notes_long = length-replicate slots Home;
    looks_long = length-replicate (slots + 1) no_look;
    stores_long = length-replicate (slots + 1) no_store;
    low = omega arith;
    home = λ k near. at_all slots k Home near;
    spare = λ k a b. absurd (omega arith);
    places = ap (λ (z : ℕ). spares {J = J} {D = D} slots slots z) (let h : zero ≡ slots - slots = omega arith in h);
  }

  pub takes_one_place : (left : ℕ) (m n : Seated T J D) → IsTakingPlaces task slots (left + 1) m → n.0.known ≡ with_note m.0.known left Spare → n.1 ≡ (left, Empty) ∷ m.1 → length n.0.looks ≡ length m.0.looks → length n.0.stores ≡ length m.0.stores
      → IsTakingPlaces task slots left n
  takes_one_place left m n f e p g h = let low : left + 1 ≤ slots = f.low in let near : left < slots = omega arith in let note : (k : ℕ) → get_elem? n.0.known.notes k ≡ get_elem? (set m.0.known.notes left Spare) k = λ k. ap (λ (z : Known T J D). get_elem? z.notes k) e in record {
    leads = ap (λ (z : Known T J D). z.leads) e ∙ f.leads;
    task_is = ap (λ (z : Known T J D). z.task) e ∙ f.task_is;
    out_is = ap (λ (z : Known T J D). z.out) e ∙ f.out_is;
    taken_is = ap (λ (z : Known T J D). z.taken) e ∙ f.taken_is;
    held_is = ap (λ (z : Known T J D). z.held) e ∙ f.held_is;
    stopped_is = ap (λ (z : Known T J D). z.stopped) e ∙ f.stopped_is;
    notes_long = ap (λ (z : Known T J D). length z.notes) e ∙ (length-set m.0.known.notes left Spare ∙ f.notes_long);
    looks_long = g ∙ f.looks_long;
    stores_long = h ∙ f.stores_long;
    low = omega arith;
    home = λ k below. note k ∙ (set_else m.0.known.notes left k Spare (λ z. omega arith) ∙ f.home k (omega arith));
    spare = λ k above below. dite (ℕ_discrete k left)
        (λ is. note k ∙ subst (λ (z : ℕ). get_elem? (set m.0.known.notes left Spare) z ≡ some Spare) (sym is) (set_here m.0.known.notes left Spare (subst (λ (z : ℕ). left < z) (sym f.notes_long) near)))
        (λ other. note k ∙ (set_else m.0.known.notes left k Spare other ∙ f.spare k (omega arith) below));
    places = let y : Place J D = Empty in p ∙ (ap₂ (λ (a : ℕ) (l : List (ℕ × Place J D)). (a, y) ∷ l) (sym (mod-eq_of_lt near)) f.places ∙ sym (spares_one slots left (slots - left) (slots - (left + 1)) (omega arith)));
  }

  pub all_places_taken : (m : Seated T J D) → 0 < slots → IsTakingPlaces task slots 0 m → AtRest slots 0 0 m
  all_places_taken m pos f = let zero_taken : m.0.known.taken ≡ 0 = f.taken_is in let slot : (k : ℕ) → k < slots → k ≡ (m.0.known.taken + k) % slots = λ k near. sym (mod-eq_of_lt near) ∙ ap (λ (z : ℕ). z % slots) (let t : ℕ = m.0.known.taken in let h : k ≡ t + k = omega arith in h) in record {
    leads = f.leads;
    count_is = ap length f.out_is;
    next_is = slot 0 pos ∙ ap (λ (z : ℕ). z % slots) (let t : ℕ = m.0.known.taken in let h : t + 0 ≡ t = omega arith in h);
    some_slot = pos;
    within = omega arith;
    held_long = ap length f.held_is ∙ length-replicate slots None;
    looks_long = f.looks_long;
    stores_long = f.stores_long;
    notes_long = f.notes_long;
    no_claim = λ i x e. let z : None ≡ Some x = at_replicate slots i None (Some x) (sym (ap (λ (l : List (Option J)). get_elem? l i) f.held_is) ∙ e) in cc;
    home = λ k none. absurd (omega arith);
    spare = λ k above below. subst (λ (z : ℕ). get_elem? m.0.known.notes z ≡ some Spare) (slot k below) (f.spare k above below);
    places = f.places ∙ ap (λ (z : ℕ). spares {J = J} {D = D} slots z (slots - 0)) (let t : ℕ = m.0.known.taken in let h : 0 ≡ t + 0 = omega arith in h);
  }
