-- What is in the places of slots.
use Rattle.std.proofs.Common.{◌≡◌, ℕ, ◌<◌, List, length, get_or, Option, Some, None, refl, ap, sym, ◌∙◌, subst}
use Rattle.std.specs.Prelude.{IsSome}
use Rattle.std.proofs.lemmas.Bool.{both_ways}
use Rattle.std.proofs.lemmas.List.{get_or-map, length-map}
use Rattle.cd_chain.specs.declared.slot.Slot.{Slot}
use Rattle.cd_chain.specs.declared.slot.Place.{Place}
use Rattle.cd_chain.specs.declared.slot.Place.TheVariants.{Used, Vacant}
use Rattle.cd_chain.specs.Cells.{cell_at, place_cell, place_cells}
use Rattle.cd_chain.specs.Links.{places_of}
use Rattle.cd_chain.specs.Contents.{value_of, values_of}

-- the value of a slot
pub value_is : {T : Type 0} (slots : List (Slot T)) (s : ℕ) (x : Slot T) → s < length slots → get_or (values_of (places_of slots)) s None ≡ value_of (get_or slots s x).place
value_is {T} slots s x i =
    get_or-map (λ (p : Place T). value_of p) (places_of slots) s x.place None (rw length-map i)
    ∙ ap (λ (p : Place T). value_of p) (get_or-map (λ (y : Slot T). y.place) slots s x x.place i)

-- whether a slot is free
pub cell_is : {T : Type 0} (slots : List (Slot T)) (s : ℕ) (x : Slot T) → s < length slots → cell_at (place_cells (places_of slots)) s ≡ place_cell (get_or slots s x).place
cell_is {T} slots s x i =
    get_or-map (λ (p : Place T). place_cell p) (places_of slots) s x.place None (rw length-map i)
    ∙ ap (λ (p : Place T). place_cell p) (get_or-map (λ (y : Slot T). y.place) slots s x x.place i)

-- a slot in whose place a value is expected holds one
pub used_not_vacant : {T : Type 0} (slots : List (Slot T)) (s : ℕ) (x : Slot T) (p : Place T) (next : Option ℕ) → s < length slots → IsSome (get_or (values_of (places_of slots)) s None) → p ≡ (get_or slots s x).place → p ≡ Vacant next → ⊥
used_not_vacant {T} slots s x p next i h e v = both_ways _ refl (subst (λ (o : Option T). IsSome o) (value_is slots s x i ∙ ap (λ (q : Place T). value_of q) (sym e ∙ v)) h)

pub free_not_used : {T : Type 0} (slots : List (Slot T)) (s : ℕ) (x : Slot T) (p : Place T) (value : T) → s < length slots → IsSome (cell_at (place_cells (places_of slots)) s) → p ≡ (get_or slots s x).place → p ≡ Used value → ⊥
free_not_used {T} slots s x p value i h e v = both_ways _ refl (subst (λ (o : Option (Option ℕ)). IsSome o) (cell_is slots s x i ∙ ap (λ (q : Place T). place_cell q) (sym e ∙ v)) h)

pub value_found : {T : Type 0} (slots : List (Slot T)) (s : ℕ) (x : Slot T) (p : Place T) (value : T) → s < length slots → p ≡ (get_or slots s x).place → p ≡ Used value → get_or (values_of (places_of slots)) s None ≡ Some value
value_found {T} slots s x p value i e v = value_is slots s x i ∙ ap (λ (q : Place T). value_of q) (sym e ∙ v)

pub cell_found : {T : Type 0} (slots : List (Slot T)) (s : ℕ) (x : Slot T) (p : Place T) (next : Option ℕ) → s < length slots → p ≡ (get_or slots s x).place → p ≡ Vacant next → cell_at (place_cells (places_of slots)) s ≡ Some next
cell_found {T} slots s x p next i e v = cell_is slots s x i ∙ ap (λ (q : Place T). place_cell q) (sym e ∙ v)
