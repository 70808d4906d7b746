-- A worker's load that puts the place of a slot that it holds before its others.
use Rattle.std.proofs.Common.{◌≡◌, ℕ, zero, suc, ◌<◌, ◌≢◌, Bool, true, false, ◌&&◌, List, [], ◌∷◌, map, length, get_or, set, sym, refl, ap, ap₂, ◌∙◌, subst, ⊎_elim, set-set, Option, Some, None}
use mathlib.Core.Logic.{dite}
use mathlib.Core.Option.{none, some, some-injective, some-ne-none}
use mathlib.Core.Option as maybe
use native.Mathlib.Decide.{ℕ_discrete}
use lib.ListN.{get_elem?}
use Rattle.atomic_table.specs.Table.{Act, keeps, takes, gives, chain, Valid, carried_after, homes_after, step, Allows}
use Rattle.atomic_table.proofs.Lists.{at_set, set_here, set_else, set_again, at_map}
use Rattle.cd_ring.specs.declared.view.Place.{Place}
use Rattle.cd_ring.specs.declared.view.Place.TheVariants.{Empty, Job, Result}
use Rattle.cd_ring.specs.Claims.{HasNoClaim, holds_none, is_empty, is_held, are_places_of}
use Rattle.cd_ring.specs.Core.{taken}
use Rattle.cd_ring.specs.Rule.{known, Homes, Holds, Ring}
use Rattle.cd_ring.specs.Kinds.{Seated, brought}
use Rattle.cd_ring.proofs.Core.{at_inside}
use Rattle.cd_ring.proofs.Moves.{unmoved}
use Rattle.cd_ring.proofs.WordSteps.{seen}

both_true : (a b : Bool) → (a && b) ≡ true → (a ≡ true) × (b ≡ true)
both_true true b e = (refl, e)
both_true false b e = let z : false ≡ true = e in cc

-- two writes at two places
pub set_swap : {A : Type 0} (l : List A) (i j : ℕ) (a b : A) → i ≢ j → set (set l i a) j b ≡ set (set l j b) i a
set_swap [] i j a b other = refl
set_swap (x ∷ l) zero zero a b other = absurd (other refl)
set_swap (x ∷ l) zero (suc j) a b other = refl
set_swap (x ∷ l) (suc i) zero a b other = refl
set_swap {A} (x ∷ l) (suc i) (suc j) a b other = ap (λ (z : List A). x ∷ z) (set_swap l i j a b (λ e. other (ap suc e)))

module _ {J : Type 0} where
  held_is : (o : maybe.Option (Option J)) → is_held o ≡ true → (x : J) × (o ≡ some (Some x))
  held_is none e = let z : false ≡ true = e in cc
  held_is (some None) e = let z : false ≡ true = e in cc
  held_is (some (Some x)) e = (x, refl)

  pub none_held : (held : List (Option J)) → holds_none held ≡ true → HasNoClaim held
  none_held [] e i x h = some-ne-none (Some x) (sym h)
  none_held (None ∷ held) e zero x h = let z : None ≡ Some x = some-injective None (Some x) h in cc
  none_held (None ∷ held) e (suc i) x h = none_held held e i x h
  none_held (Some y ∷ held) e i x h = let z : false ≡ true = e in cc

module _ {J D : Type 0} where
  empty_is : (y : Place J D) → is_empty y ≡ true → y ≡ Empty
  empty_is Empty e = refl
  empty_is (Job x) e = let z : false ≡ true = e in cc
  empty_is (Result d) e = let z : false ≡ true = e in cc

  -- what is said of the first place and of the others
  pub first_place : (p : ℕ × Place J D) (places : List (ℕ × Place J D)) (held : List (Option J)) → are_places_of (p ∷ places) held ≡ true
      → (p.1 ≡ Empty) × ((x : J) × (get_elem? held p.0 ≡ some (Some x))) × (are_places_of places (set held p.0 None) ≡ true)
  first_place p places held e = let h = both_true (is_empty p.1) (is_held (get_elem? held p.0) && are_places_of places (set held p.0 None)) e in
      let g = both_true (is_held (get_elem? held p.0)) (are_places_of places (set held p.0 None)) h.1 in (empty_is p.1 h.0, held_is (get_elem? held p.0) g.0, g.1)

  pub before_places : (i : ℕ) (y : Place J D) (places : List (ℕ × Place J D)) (held : List (Option J)) (x : J) → y ≡ Empty → get_elem? held i ≡ some (Some x) → are_places_of places (set held i None) ≡ true
      → are_places_of ((i, y) ∷ places) held ≡ true
  before_places i y places held x e h own = ap₂ (λ (a b : Bool). a && b) (ap is_empty e) (ap₂ (λ (a b : Bool). a && b) (ap is_held h) own)

  -- a seat that holds no slot has no place
  pub no_places : (places : List (ℕ × Place J D)) (held : List (Option J)) → are_places_of places held ≡ true → HasNoClaim held → places ≡ []
  no_places [] held e free = refl
  no_places (p ∷ places) held e free = let h = first_place p places held e in absurd (free p.0 h.1.0 h.1.1)

  abbrev AllOut : Homes J D → List (Option J) → Type 0
  AllOut homes held = (k : ℕ) (x : J) → get_elem? held k ≡ some (Some x) → get_elem? homes k ≡ some none

  -- an act that leaves the places at home as they are, and the place of the slot i before the others
  abbrev Brought : Homes J D → List (ℕ × Place J D) → List (Option J) → ℕ → Type 0
  Brought homes places held i = (a : Act (Place J D)) × (others : List (ℕ × Place J D)) × Valid homes places a × (homes_after homes places a ≡ homes)
      × (carried_after places a ≡ (i, Empty) ∷ others) × (are_places_of ((i, Empty) ∷ others) held ≡ true)

  -- the homes once the place of j was given back, that of i was, and both were taken again
  same_homes : (homes : Homes J D) (i j : ℕ) (y z : Place J D) → i ≢ j → get_elem? homes i ≡ some none → get_elem? homes j ≡ some none
      → set (set (set (set homes j (some y)) i (some z)) j none) i none ≡ homes
  same_homes homes i j y z other at_i at_j = ap (λ (l : Homes J D). set l i none) (set_swap (set homes j (some y)) i j (some z) none other)
      ∙ set-set (set (set homes j (some y)) j none) i (some z) none
      ∙ ap (λ (l : Homes J D). set l i none) (set-set homes j (some y) none ∙ set_again homes j none at_j)
      ∙ set_again homes i none at_i

  brings : (places : List (ℕ × Place J D)) (homes : Homes J D) (held : List (Option J)) (i : ℕ) (x : J) → are_places_of places held ≡ true → get_elem? held i ≡ some (Some x) → AllOut homes held
      → Brought homes places held i
  brings [] homes held i x own has out = absurd (none_held held own i x has)
  brings (p ∷ places) homes held i x own has out = let f = first_place p places held own in dite (ℕ_discrete i p.0)
      (λ is. (
        keeps,
        places,
        tt,
        refl,
        ap₂ (λ (k : ℕ) (y : Place J D). (k, y) ∷ places) (sym is) f.0,
        before_places i Empty places held x refl has (subst (λ (k : ℕ). are_places_of places (set held k None) ≡ true) (sym is) f.2),
      ))
      (λ other. let j : ℕ = p.0 in let y : Place J D = p.1 in let homes' = set homes j (some y) in let held' = set held j None in
      let has' : get_elem? held' i ≡ some (Some x) = set_else held j i None other ∙ has in
      let at_i : get_elem? homes i ≡ some none = out i x has in let at_j : get_elem? homes j ≡ some none = out j f.1.0 f.1.1 in
      let apart : j ≢ i = λ e. other (sym e) in
      let out' : AllOut homes' held' = λ k z e. ⊎_elim
      (λ (t : (k ≡ j) × (None ≡ Some z)). let bad : None ≡ Some z = t.1 in cc)
      (λ (t : (k ≢ j) × (get_elem? held k ≡ some (Some z))). set_else homes j k (some y) t.0 ∙ out k z t.1)
      (at_set held j k None (Some z) e) in
      let b = brings places homes' held' i x f.2 has' out' in
      let last : Act (Place J D) = chain gives (chain (takes j y) (takes i Empty)) in
      let at_end : (homes_after homes' places b.0, carried_after places b.0) ≡ (homes', (i, Empty) ∷ b.1) = λ l. (b.3 l, b.4 l) in
      let near_j : j < length homes = at_inside homes j none at_j in
      let near_i : i < length homes' = at_inside homes' i none (set_else homes j i (some y) other ∙ at_i) in
      let last_valid : Valid homes' ((i, Empty) ∷ b.1) last = (
        tt,
        (
          set_else homes' i j (some Empty) apart ∙ set_here homes j (some y) near_j,
          set_else (set homes' i (some Empty)) j i none other ∙ set_here homes' i (some Empty) near_i,
        ),
      ) in
      let g = first_place (i, Empty) b.1 held' b.5 in (
        chain gives (chain b.0 last),
        (j, y) ∷ b.1,
        (tt, (b.2, subst (λ (z : Homes J D × List (ℕ × Place J D)). Valid z.0 z.1 last) (sym at_end) last_valid)),
        ap (λ (z : Homes J D × List (ℕ × Place J D)). homes_after z.0 z.1 last) at_end ∙ same_homes homes i j y Empty other at_i at_j,
        ap (λ (z : Homes J D × List (ℕ × Place J D)). carried_after z.1 last) at_end,
        before_places i Empty ((j, y) ∷ b.1) held x refl has
            (before_places j y b.1 (set held i None) f.1.0 f.0 (set_else held i j None apart ∙ f.1.1)
            (subst (λ (z : List (Option J)). are_places_of b.1 z ≡ true) (set_swap held j i None None apart) g.2)),
      ))

module _ {T J D : Type 0} (meets : J → D → Type 0) (task : T) (slots : ℕ) where
  -- such a load keeps the rule
  pub brings_place : (n id : ℕ) (me : Seated T J D) (i : ℕ) (x : J) → Holds me.0.known i x → are_places_of me.1 me.0.known.held ≡ true
      → Allows (Ring meets task slots) n id me i (λ y. y) (brought (step n i 0 0 none) me)
  brings_place n id me i x has own s r wide at _ = let k = me.0.known in let at' : get_elem? (map known s.views) id ≡ some k = at_map known s.views id me.0 at in
      let old = r.held id k i x at' has in let sh = r.shows i (taken old.0 id) old.1 in
      let out : AllOut s.homes k.held = λ j y h. let o = r.held id k j y at' h in (r.shows j (taken o.0 id) o.1).2 in
      let b = brings me.1 s.homes k.held i x own has out in let w = seen meets task slots me.0 i (get_or s.words i 0) k in (
        w,
        b.0,
        b.2,
        subst (λ (z : Homes J D). Ring meets task slots record { words = set s.words i (get_or s.words i 0); homes = z; views = set s.views id w }) (sym b.3) (unmoved meets task slots s r i id me.0 w at refl),
        ((refl, refl), sh.0, refl, (b.1, b.4), subst (λ (z : List (ℕ × Place J D)). are_places_of z k.held ≡ true) (sym b.4) b.5),
      )
