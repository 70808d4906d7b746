-- A worker's seat between two calls.
use Rattle.std.proofs.Common.{◌≡◌, ℕ, zero, suc, ◌+◌, ◌<◌, true, List, [], ◌∷◌, ◌++◌, map, length, get_or, set, sym, refl, ap, ◌∙◌, subst, arith, length-set, set-set, Option, Some, None, IfSome, IfNone, All}
use mathlib.Core.Option.{some}
use lib.ListN.{get_elem?, length-map}
use Rattle.atomic_table.proofs.Lists.{set_here, set_again}
use Rattle.cd_ring.specs.declared.view.Place.{Place}
use Rattle.cd_ring.specs.declared.view.Place.TheVariants.{Empty}
use Rattle.cd_ring.specs.declared.view.Known.{Known}
use Rattle.cd_ring.specs.declared.view.View.{View}
use Rattle.cd_ring.specs.declared.work.Claim.{Claim}
use Rattle.cd_ring.specs.Claims.{holds_none, are_places_of}
use Rattle.cd_ring.specs.Kinds.{Seated, with_held, worker_view, no_look, no_store}
use Rattle.cd_ring.specs.Rest.{IsWorker}
use Rattle.cd_ring.proofs.Core.{at_inside}
use Rattle.cd_ring.proofs.Bringing.{first_place, before_places}

-- what holds of each element holds of the last one
pub last_holds : {A : Type 0} (P : A → Type 0) (others : List A) (x : A) → All P (others ++ x ∷ []) → P x
last_holds P [] x all = all 0 x (omega arith)
last_holds P (y ∷ others) x all = last_holds P others x (λ k d near. all (suc k) d (omega arith))

-- and of the others
pub others_hold : {A : Type 0} (P : A → Type 0) (others : List A) (x : A) → All P (others ++ x ∷ [])
    → (k : ℕ) (d : A) → k < length others → P (get_or others k d)
others_hold P [] x all k d near = absurd (omega arith)
others_hold P (y ∷ others) x all zero d near = all 0 d (omega arith)
others_hold P (y ∷ others) x all (suc k) d near = others_hold P others x (λ j e close. all (suc j) e (omega arith)) k d (omega arith)

pub all_none : {J : Type 0} (held : List (Option J)) → let z : Option J = None in holds_none (map (λ (_ : Option J). z) held) ≡ true
all_none [] = refl
all_none (x ∷ held) = all_none held

module _ {T J D : Type 0} (slots : ℕ) where
  pub new_worker : (v : View T J D) (m : Seated T J D) → length v.known.held ≡ slots → length v.looks ≡ slots + 1 → length v.stores ≡ slots + 1 → m ≡ (worker_view v, []) → IsWorker slots m
  new_worker v m held looks stores is = subst (IsWorker slots) (sym is) record {
    follows = refl;
    held_long = length-map v.known.held (λ _. None) ∙ held;
    looks_long = length-map v.looks (λ _. no_look) ∙ looks;
    stores_long = length-map v.stores (λ _. no_store) ∙ stores;
    places = all_none v.known.held;
  }

  pub same_worker : (m n : Seated T J D) → IsWorker slots m → n.0.known ≡ m.0.known → n.1 ≡ m.1 → length n.0.looks ≡ length m.0.looks → n.0.stores ≡ m.0.stores → IsWorker slots n
  same_worker m n r e f g h = record {
    follows = ap (λ (k : Known T J D). k.leads) e ∙ r.follows;
    held_long = ap (λ (k : Known T J D). length k.held) e ∙ r.held_long;
    looks_long = g ∙ r.looks_long;
    stores_long = ap length h ∙ r.stores_long;
    places = subst (λ (z : List (ℕ × Place J D) × Known T J D). are_places_of z.0 z.1.held ≡ true) (λ l. (sym f l, sym e l)) r.places;
  }

  -- a worker that has claimed the slot i
  pub claimed_worker : (m n : Seated T J D) (i : ℕ) (x : J) → IsWorker slots m → get_elem? m.0.known.held i ≡ some None → n.0.known ≡ with_held m.0.known i (Some x) → n.1 ≡ (i, Empty) ∷ m.1
      → length n.0.looks ≡ length m.0.looks → n.0.stores ≡ m.0.stores → IsWorker slots n
  claimed_worker m n i x r free e f g h = let held = m.0.known.held in let y : Place J D = Empty in record {
    follows = ap (λ (k : Known T J D). k.leads) e ∙ r.follows;
    held_long = ap (λ (k : Known T J D). length k.held) e ∙ (length-set held i (Some x) ∙ r.held_long);
    looks_long = g ∙ r.looks_long;
    stores_long = ap length h ∙ r.stores_long;
    places = subst (λ (z : List (ℕ × Place J D) × Known T J D). are_places_of z.0 z.1.held ≡ true) (λ l. (sym f l, sym e l))
        (before_places i y m.1 (set held i (Some x)) x refl (set_here held i (Some x) (at_inside held i None free))
        (subst (λ (z : List (Option J)). are_places_of m.1 z ≡ true) (sym (set-set held i (Some x) None ∙ set_again held i None free)) r.places));
  }

  -- a worker after a walk over the slots
  pub walked : (m n : Seated T J D) (result : Option (Claim J)) (P : Claim J → Type 0) (Q : Type 0) → IsWorker slots m → length n.0.looks ≡ length m.0.looks → n.0.stores ≡ m.0.stores
      → IfSome result (λ c. P c × (get_elem? m.0.known.held c.slot ≡ some None) × (n.0.known ≡ with_held m.0.known c.slot (Some c.job)) × (n.1 ≡ (c.slot, Empty) ∷ m.1))
      → IfNone result ((n.0.known ≡ m.0.known) × (n.1 ≡ m.1) × Q) → IsWorker slots n
  walked m n (Some c) P Q r g h found missed = claimed_worker m n c.slot c.job r found.1 found.2 found.3 g h
  walked m n None P Q r g h found missed = same_worker m n r missed.0 missed.1 g h

  -- a worker that has given up the slot i, whose place was before its others
  pub finished_worker : (m b n : Seated T J D) (i : ℕ) (places : List (ℕ × Place J D)) → IsWorker slots m → b.0.known ≡ m.0.known → b.1 ≡ (i, Empty) ∷ places → are_places_of b.1 m.0.known.held ≡ true
      → n.0.known ≡ with_held b.0.known i None → n.1 ≡ places → length n.0.looks ≡ length m.0.looks → length n.0.stores ≡ length m.0.stores → IsWorker slots n
  finished_worker m b n i places r same at own e f g h = let held = m.0.known.held in let y : Place J D = Empty in
      let k : n.0.known ≡ with_held m.0.known i None = e ∙ ap (λ (z : Known T J D). with_held z i None) same in record {
        follows = ap (λ (k : Known T J D). k.leads) k ∙ r.follows;
        held_long = ap (λ (k : Known T J D). length k.held) k ∙ (length-set held i None ∙ r.held_long);
        looks_long = g ∙ r.looks_long;
        stores_long = h ∙ r.stores_long;
        places = subst (λ (z : List (ℕ × Place J D) × Known T J D). are_places_of z.0 z.1.held ≡ true) (λ l. (sym f l, sym k l))
            (first_place (i, y) places held (subst (λ (z : List (ℕ × Place J D)). are_places_of z held ≡ true) at own)).2;
      }
