-- What calls keep of the slots.
use Rattle.std.proofs.Common.{◌≡◌, ℕ, zero, suc, ◌<◌, ◌+◌, ◌^◌, eqb, List, [], ◌∷◌, length, set, get_or, cond, Option, Some, None, refl, ap, sym, ◌∙◌, subst, arith, inl, inr}
use Rattle.std.specs.Prelude.{IsSome}
use Rattle.std.proofs.lemmas.Bool.{cases_lt, cases_eq, eq-eqb, ne_eqb, both_ways}
use Rattle.std.proofs.lemmas.Option.{none-some}
use Rattle.std.proofs.lemmas.List.{get_or-set_same, get_or-set_other, get_or_past, map-set, length-map, length-set}
use Rattle.cd_chain.specs.declared.link.Link.{Link}
use Rattle.cd_chain.specs.declared.slot.Slot.{Slot}
use Rattle.cd_chain.specs.declared.slot.Place.{Place}
use Rattle.cd_chain.specs.declared.slot.Place.TheVariants.{Used, Vacant}
use Rattle.cd_chain.specs.declared.lane.Lanes.{Lanes}
use Rattle.cd_chain.specs.Lanes.{rows_in, free_in}
use Rattle.cd_chain.specs.Cells.{cell_at, free_from, AreFree, used_cells, place_cell, place_cells, row_cells}
use Rattle.cd_chain.specs.Links.{link_in, places_of}
use Rattle.cd_chain.specs.Lists.{AreLists, Relinks}
use Rattle.cd_chain.specs.Contents.{Contents, value_of, values_of, value_at, used_slots, seen_of}
use Rattle.cd_chain.specs.Holds.{SlotsHold, Holds}
use Rattle.cd_chain.specs.Calls.{PutsValue, TakesValue}
use Rattle.cd_chain.proofs.FreeNumbers.{Frees, took, gave, used_took, used_gave, head_there, head_free}
use Rattle.cd_chain.proofs.Seeing.{places_used}

-- a slot that is free holds no value
pub free_value : {T : Type 0} (places : List (Place T)) (s : ℕ) → IsSome (cell_at (place_cells places) s) → get_or (values_of places) s None ≡ None
free_value [] s h = absurd (both_ways _ refl h)
free_value (Used value ∷ ps) zero h = absurd (both_ways _ refl h)
free_value (Vacant next ∷ ps) zero h = refl
free_value (p ∷ ps) (suc s) h = free_value ps s h

-- a slot that holds a value is not free
pub used_cell : {T : Type 0} (places : List (Place T)) (s : ℕ) → IsSome (get_or (values_of places) s None) → cell_at (place_cells places) s ≡ None
used_cell [] s h = absurd (both_ways _ refl h)
used_cell (Used value ∷ ps) zero h = refl
used_cell (Vacant next ∷ ps) zero h = absurd (both_ways _ refl h)
used_cell (p ∷ ps) (suc s) h = used_cell ps s h

pub value_within : {T : Type 0} (places : List (Place T)) (s : ℕ) → IsSome (get_or (values_of places) s None) → s < length places
value_within {T} places s h = elim (cases_lt s (length places)) [
  | inl lt ↦ lt
  | inr le ↦ absurd (both_ways _ refl (subst (λ (o : Option T). IsSome o) (get_or_past (values_of places) s None (rw length-map le)) h))
]

-- a slot below their number that is not free holds a value
pub not_free_value : {T : Type 0} (places : List (Place T)) (s : ℕ) → s < length places → (IsSome (cell_at (place_cells places) s) → ⊥) → IsSome (get_or (values_of places) s None)
not_free_value [] s lt h = absurd (omega arith)
not_free_value (Used value ∷ ps) zero lt h = refl
not_free_value (Vacant next ∷ ps) zero lt h = absurd (h refl)
not_free_value (p ∷ ps) (suc s) lt h = not_free_value ps s (omega arith) h

some_is : {X : Type 0} (o : Option X) (x : X) → o ≡ Some x → IsSome o
some_is {X} o x e = subst (λ (y : Option X). IsSome y) (sym e) refl

none_is : {X : Type 0} (o : Option X) → o ≡ None → IsSome o → ⊥
none_is {X} o e h = both_ways _ refl (subst (λ (y : Option X). IsSome y) e h)

set_none : (cells : List (Option (Option ℕ))) (s : ℕ) → cell_at (set cells s None) s ≡ None
set_none cells s = elim (cases_lt s (length cells)) [
  | inl lt ↦ get_or-set_same cells s None None lt
  | inr le ↦ get_or_past (set cells s None) s None (rw length-set le)
]

-- a slot that stands in a list is used
pub listed_used : {T : Type 0} (at : ℕ → ℕ → Link) (places : List (Place T)) (free : Option ℕ) (spare l s k : ℕ) → SlotsHold at places free spare → s < length places → (at l s).list ≡ Some k → IsSome (get_or (values_of places) s None)
listed_used at places free spare l s k H lt e = not_free_value places s lt (λ h. none-some k (sym (H.apart l s h) ∙ e))

-- lists changed, and no slot is free that was not
pub slots_after : {T : Type 0} (at at2 : ℕ → ℕ → Link) (places places2 : List (Place T)) (free : Option ℕ) (spare s : ℕ) → SlotsHold at places free spare → places2 ≡ places → ((l t : ℕ) → (t ≡ s → ⊥) → (at2 l t).list ≡ (at l t).list) → (IsSome (cell_at (place_cells places) s) → ⊥) →
    SlotsHold at2 places2 free spare
slots_after {T} at at2 places places2 free spare s H e others used = subst (λ (ps : List (Place T)). SlotsHold at2 ps free spare) (sym e) (record {
  frees = H.frees;
  spares = H.spares;
  counted = H.counted;
  few = H.few;
  apart = λ l t h. elim (cases_eq t s) [
    | inl q ↦ absurd (used (subst (λ (x : ℕ). IsSome (cell_at (place_cells places) x)) q h))
    | inr ne ↦ others l t ne ∙ H.apart l t h
  ];
})

-- a free slot is filled, and may be linked
pub slots_filled : {T : Type 0} (at at2 : ℕ → ℕ → Link) (places places2 : List (Place T)) (free next : Option ℕ) (spare spare2 s : ℕ) (value : T) → SlotsHold at places free spare → free ≡ Some s → cell_at (place_cells places) s ≡ Some next → spare ≡ spare2 + 1 →
    places2 ≡ set places s (Used value) → ((l t : ℕ) → (t ≡ s → ⊥) → (at2 l t).list ≡ (at l t).list) → SlotsHold at2 places2 next spare2
slots_filled {T} at at2 places places2 free next spare spare2 s value H ef ec es ep others =
    let cells : place_cells (set places s (Used value)) ≡ set (place_cells places) s None = map-set (λ (p : Place T). place_cell p) places s (Used value) in
    let R : AreFree (place_cells places) (Some s) = subst (λ (h : Option ℕ). AreFree (place_cells places) h) ef H.frees in
    let many : length (free_from (place_cells places) (Some s)) ≡ spare2 + 1 = ap (λ (h : Option ℕ). length (free_from (place_cells places) h)) (sym ef) ∙ H.spares ∙ es in
    let F : Frees (place_cells (set places s (Used value))) next spare2 = subst (λ (cs : List (Option (Option ℕ))). Frees cs next spare2) (sym cells) (took (place_cells places) s next spare2 many ec R) in
    let counted : used_cells (place_cells places) + spare ≡ length places = H.counted in
    let used : used_cells (place_cells (set places s (Used value))) ≡ used_cells (place_cells places) + 1 = ap used_cells cells ∙ used_took (place_cells places) s next ec in
    let long : length (set places s (Used value)) ≡ length places = length-set places s (Used value) in
    let few : length places < 2 ^ 31 = H.few in
    subst (λ (ps : List (Place T)). SlotsHold at2 ps next spare2) (sym ep) (record {
      frees = F.are;
      spares = F.count;
      counted = omega arith;
      few = rw long few;
      apart = λ l t h. elim (cases_eq t s) [
        | inl q ↦ absurd (none_is _ (ap (λ (cs : List (Option (Option ℕ))). cell_at cs t) cells ∙ ap (λ (x : ℕ). cell_at (set (place_cells places) s None) x) q ∙ set_none (place_cells places) s) h)
        | inr ne ↦ others l t ne ∙ H.apart l t (subst (λ (o : Option (Option ℕ)). IsSome o) (ap (λ (cs : List (Option (Option ℕ))). cell_at cs t) cells ∙ get_or-set_other (place_cells places) s t None None ne) h)
      ];
    })

-- a used slot that stands in no list is emptied
pub slots_emptied : {T : Type 0} (at at2 : ℕ → ℕ → Link) (places places2 : List (Place T)) (free : Option ℕ) (spare s : ℕ) → SlotsHold at places free spare → IsSome (get_or (values_of places) s None) →
    places2 ≡ set places s (Vacant free) → ((l : ℕ) → (at2 l s).list ≡ None) → ((l t : ℕ) → (t ≡ s → ⊥) → (at2 l t).list ≡ (at l t).list) → SlotsHold at2 places2 (Some s) (spare + 1)
slots_emptied {T} at at2 places places2 free spare s H h ep out others =
    let lt : s < length places = value_within places s h in
    let cells : place_cells (set places s (Vacant free)) ≡ set (place_cells places) s (Some free) = map-set (λ (p : Place T). place_cell p) places s (Vacant free) in
    let ec : cell_at (place_cells places) s ≡ None = used_cell places s h in
    let lc : s < length (place_cells places) = rw length-map lt in
    let F : Frees (place_cells (set places s (Vacant free))) (Some s) (spare + 1) = subst (λ (cs : List (Option (Option ℕ))). Frees cs (Some s) (spare + 1)) (sym cells) (gave (place_cells places) s free spare H.spares lc ec H.frees) in
    let counted : used_cells (place_cells places) + spare ≡ length places = H.counted in
    let used : used_cells (place_cells (set places s (Vacant free))) + 1 ≡ used_cells (place_cells places) = ap (λ (n : ℕ). n + 1) (ap used_cells cells) ∙ used_gave (place_cells places) s free lc ec in
    let long : length (set places s (Vacant free)) ≡ length places = length-set places s (Vacant free) in
    let few : length places < 2 ^ 31 = H.few in
    subst (λ (ps : List (Place T)). SlotsHold at2 ps (Some s) (spare + 1)) (sym ep) (record {
      frees = F.are;
      spares = F.count;
      counted = omega arith;
      few = rw long few;
      apart = λ l t i. elim (cases_eq t s) [
        | inl q ↦ ap (λ (x : ℕ). (at2 l x).list) q ∙ out l
        | inr ne ↦ others l t ne ∙ H.apart l t (subst (λ (o : Option (Option ℕ)). IsSome o) (ap (λ (cs : List (Option (Option ℕ))). cell_at cs t) cells ∙ get_or-set_other (place_cells places) s t (Some free) None ne) i)
      ];
    })

value_after : {T : Type 0} (vs : List (Option T)) (s t : ℕ) (v : Option T) → s < length vs → get_or (set vs s v) t None ≡ cond (eqb t s) v (get_or vs t None)
value_after {T} vs s t v lt = elim (cases_eq t s) [
  | inl q ↦ rw (eq-eqb t s q) (ap (λ (x : ℕ). get_or (set vs s v) x None) q ∙ get_or-set_same vs s v None lt)
  | inr ne ↦ rw (ne_eqb t s ne) (get_or-set_other vs s t v None ne)
]

-- what is seen where a free slot is filled
pub puts_value : {T : Type 0} (slots slots2 : List (Slot T)) (lanes lanes2 : Lanes) (spare spare2 s : ℕ) (next : Option ℕ) (value : T) (it : Contents T) → seen_of slots lanes spare ≡ it → cell_at (place_cells (places_of slots)) s ≡ Some next → s < length (places_of slots) →
    places_of slots2 ≡ set (places_of slots) s (Used value) → PutsValue it (seen_of slots2 lanes2 spare2) s value
puts_value {T} slots slots2 lanes lanes2 spare spare2 s next value it seen ec lt ep =
    let ps : List (Place T) = places_of slots in
    let vs : values_of (places_of slots2) ≡ set (values_of (places_of slots)) s (Some value) = ap (λ (qs : List (Place T)). values_of qs) ep ∙ map-set (λ (p : Place T). value_of p) (places_of slots) s (Used value) in
    let cells : place_cells (places_of slots2) ≡ set (place_cells (places_of slots)) s None = ap (λ (qs : List (Place T)). place_cells qs) ep ∙ map-set (λ (p : Place T). place_cell p) (places_of slots) s (Used value) in
    let lv : s < length (values_of (places_of slots)) = rw (length-map (places_of slots) (λ (p : Place T). value_of p)) lt in
    record {
      fresh = ap (λ (x : Contents T). value_at x s) (sym seen) ∙ free_value (places_of slots) s (some_is _ next ec);
      values = λ t. ap (λ (ws : List (Option T)). get_or ws t None) vs ∙ value_after (values_of (places_of slots)) s t (Some value) lv ∙ ap (λ (x : Contents T). cond (eqb t s) (Some value) (value_at x t)) seen;
      used = places_used (places_of slots2) ∙ ap used_cells cells ∙ used_took (place_cells (places_of slots)) s next ec ∙ ap (λ (n : ℕ). n + 1) (sym (places_used (places_of slots)) ∙ ap (λ (x : Contents T). used_slots x) seen);
    }

-- what is seen where a used slot is emptied
pub takes_value : {T : Type 0} (slots slots2 : List (Slot T)) (lanes lanes2 : Lanes) (spare spare2 s : ℕ) (free : Option ℕ) (value : T) (it : Contents T) → seen_of slots lanes spare ≡ it → get_or (values_of (places_of slots)) s None ≡ Some value →
    places_of slots2 ≡ set (places_of slots) s (Vacant free) → TakesValue it (seen_of slots2 lanes2 spare2) s value
takes_value {T} slots slots2 lanes lanes2 spare spare2 s free value it seen ev ep =
    let h : IsSome (get_or (values_of (places_of slots)) s None) = some_is _ value ev in
    let lt : s < length (places_of slots) = value_within (places_of slots) s h in
    let vs : values_of (places_of slots2) ≡ set (values_of (places_of slots)) s None = ap (λ (qs : List (Place T)). values_of qs) ep ∙ map-set (λ (p : Place T). value_of p) (places_of slots) s (Vacant free) in
    let cells : place_cells (places_of slots2) ≡ set (place_cells (places_of slots)) s (Some free) = ap (λ (qs : List (Place T)). place_cells qs) ep ∙ map-set (λ (p : Place T). place_cell p) (places_of slots) s (Vacant free) in
    let lv : s < length (values_of (places_of slots)) = rw (length-map (places_of slots) (λ (p : Place T). value_of p)) lt in
    let lc : s < length (place_cells (places_of slots)) = rw (length-map (places_of slots) (λ (p : Place T). place_cell p)) lt in
    record {
      was = ap (λ (x : Contents T). value_at x s) (sym seen) ∙ ev;
      values = λ t. ap (λ (ws : List (Option T)). get_or ws t None) vs ∙ value_after (values_of (places_of slots)) s t None lv ∙ ap (λ (x : Contents T). cond (eqb t s) None (value_at x t)) seen;
      used = ap (λ (n : ℕ). n + 1) (places_used (places_of slots2) ∙ ap used_cells cells) ∙ used_gave (place_cells (places_of slots)) s free lc (used_cell (places_of slots) s h) ∙ sym (places_used (places_of slots)) ∙ ap (λ (x : Contents T). used_slots x) seen;
    }

-- what is kept of lists and numbers, where slots are linked anew
pub relinked_holds : {T : Type 0} (slots slots2 : List (Slot T)) (lanes lanes2 : Lanes) (free free2 : Option ℕ) (spare spare2 s : ℕ) (change : ℕ → ℕ → Option (List ℕ) → Option (List ℕ)) → Holds slots (rows_in lanes) (free_in lanes) free spare →
    Relinks (link_in slots) (link_in slots2) (length slots) s (rows_in lanes) (rows_in lanes2) change → length slots2 ≡ length slots → ((l : ℕ) → free_in lanes2 l ≡ free_in lanes l) → SlotsHold (link_in slots2) (places_of slots2) free2 spare2 → Holds slots2 (rows_in lanes2) (free_in lanes2) free2 spare2
relinked_holds slots slots2 lanes lanes2 free free2 spare spare2 s change H R e heads S = record {
  lists = λ l. subst (λ (n : ℕ). AreLists (link_in slots2 l) n (rows_in lanes2 l)) (sym e) (R l).lists;
  numbers = λ l. subst (λ (h : Option ℕ). AreFree (row_cells (rows_in lanes2 l)) h) (sym (heads l)) (subst (λ (cs : List (Option (Option ℕ))). AreFree cs (free_in lanes l)) (sym (R l).numbers) (H.numbers l));
  slots_hold = S;
}

-- where a slot is spare, there is a first one
pub spare_there : {T : Type 0} (at : ℕ → ℕ → Link) (places : List (Place T)) (free : Option ℕ) (spare : ℕ) → SlotsHold at places free spare → 0 < spare → IsSome free
spare_there at places free spare H lt = head_there (place_cells places) free (rw H.spares lt) H.frees

-- the first spare slot is free
pub first_spare : {T : Type 0} (at : ℕ → ℕ → Link) (places : List (Place T)) (free : Option ℕ) (spare s : ℕ) → SlotsHold at places free spare → free ≡ Some s → IsSome (cell_at (place_cells places) s)
first_spare at places free spare s H e = head_free (place_cells places) s (subst (λ (h : Option ℕ). AreFree (place_cells places) h) e H.frees)
