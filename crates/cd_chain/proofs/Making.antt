-- What is kept when slots are made.
use Rattle.std.proofs.Common.{◌≡◌, ℕ, ◌+◌, List, [], ◌∷◌, ◌++◌, length, get_or, map, Option, Some, None, refl, ap, sym, ◌∙◌, subst, arith, inl, inr}
use Rattle.std.proofs.lemmas.Bool.{cases_lt, cases_eq}
use Rattle.std.proofs.lemmas.List.{get_or_past, get_or_append_left, map-append, length-append, length-map}
use Rattle.std.proofs.Math.Seq.{get_or-append_seam}
use std.Path.{fun_ext}
use Rattle.cd_chain.specs.declared.link.Links.{Links}
use Rattle.cd_chain.specs.declared.slot.Slot.{Slot}
use Rattle.cd_chain.specs.declared.slot.Place.{Place}
use Rattle.cd_chain.specs.declared.slot.Place.TheVariants.{Vacant}
use Rattle.cd_chain.specs.Lanes.{no_links, lane_link}
use Rattle.cd_chain.specs.Cells.{cell_at, free_from, AreFree, used_cells, place_cell, place_cells}
use Rattle.cd_chain.specs.Links.{places_of}
use Rattle.cd_chain.specs.Contents.{value_of, values_of}
use Rattle.cd_chain.specs.Holds.{MakesSpare}
use Rattle.cd_chain.proofs.FreeNumbers.{Frees, made, used_push}

-- one more element that is the default changes no look-up
padded : {X : Type 0} (xs : List X) (d : X) (t : ℕ) → get_or (xs ++ d ∷ []) t d ≡ get_or xs t d
padded xs d t = elim (cases_lt t (length xs)) [
  | inl lt ↦ get_or_append_left xs (d ∷ []) d t lt
  | inr le ↦ elim (cases_eq t (length xs)) [
    | inl q ↦ ap (λ (i : ℕ). get_or (xs ++ d ∷ []) i d) q ∙ get_or-append_seam xs d [] d ∙ sym (get_or_past xs t d le)
    | inr ne ↦ get_or_past (xs ++ d ∷ []) t d (omega (arith, length-append xs (d ∷ []))) ∙ sym (get_or_past xs t d le)
  ]
]

padded_by : {X : Type 0} (xs : List X) (x d : X) (t : ℕ) → x ≡ d → get_or (xs ++ x ∷ []) t d ≡ get_or xs t d
padded_by {X} xs x d t e = ap (λ (y : X). get_or (xs ++ y ∷ []) t d) e ∙ padded xs d t

pub cells_long : {T : Type 0} (slots : List (Slot T)) → length (place_cells (places_of slots)) ≡ length slots
cells_long {T} slots = length-map (places_of slots) (λ (p : Place T). place_cell p) ∙ length-map slots (λ (x : Slot T). x.place)

makes_here : {T : Type 0} (slots : List (Slot T)) (free : Option ℕ) (x : Slot T) → x.place ≡ Vacant free → x.links ≡ no_links → AreFree (place_cells (places_of slots)) free → MakesSpare slots (slots ++ x ∷ []) free (Some (length slots)) 1
makes_here {T} slots free x ep el R =
    let places : places_of (slots ++ x ∷ []) ≡ places_of slots ++ x.place ∷ [] = map-append (λ (y : Slot T). y.place) slots (x ∷ []) in
    let cells : place_cells (places_of (slots ++ x ∷ [])) ≡ place_cells (places_of slots) ++ Some free ∷ [] =
    ap (λ (ps : List (Place T)). place_cells ps) places ∙ map-append (λ (p : Place T). place_cell p) (places_of slots) (x.place ∷ [])
    ∙ ap (λ (p : Place T). place_cells (places_of slots) ++ place_cell p ∷ []) ep in
    let values : values_of (places_of (slots ++ x ∷ [])) ≡ values_of (places_of slots) ++ None ∷ [] =
    ap (λ (ps : List (Place T)). values_of ps) places ∙ map-append (λ (p : Place T). value_of p) (places_of slots) (x.place ∷ [])
    ∙ ap (λ (p : Place T). values_of (places_of slots) ++ value_of p ∷ []) ep in
    let links : map (λ (y : Slot T). y.links) (slots ++ x ∷ []) ≡ map (λ (y : Slot T). y.links) slots ++ x.links ∷ [] = map-append (λ (y : Slot T). y.links) slots (x ∷ []) in
    let F : Frees (place_cells (places_of slots) ++ Some free ∷ []) (Some (length (place_cells (places_of slots)))) (length (free_from (place_cells (places_of slots)) free) + 1) =
    made (place_cells (places_of slots)) free (length (free_from (place_cells (places_of slots)) free)) refl R in
    let G : Frees (place_cells (places_of (slots ++ x ∷ []))) (Some (length slots)) (length (free_from (place_cells (places_of slots)) free) + 1) =
    subst (λ (n : ℕ). Frees (place_cells (places_of (slots ++ x ∷ []))) (Some n) (length (free_from (place_cells (places_of slots)) free) + 1)) (cells_long slots)
    (subst (λ (cs : List (Option (Option ℕ))). Frees cs (Some (length (place_cells (places_of slots)))) (length (free_from (place_cells (places_of slots)) free) + 1)) (sym cells) F) in
    record {
      long = length-append slots (x ∷ []);
      links = fun_ext (λ l. fun_ext (λ t. ap (λ (ls : List Links). lane_link (get_or ls t no_links) l) links ∙ ap (λ (y : Links). lane_link y l) (padded_by (map (λ (y : Slot T). y.links) slots) x.links no_links t el)));
      values = λ s. ap (λ (vs : List (Option T)). get_or vs s None) values ∙ padded (values_of (places_of slots)) None s;
      frees = G.are;
      spares = G.count;
      used = ap used_cells cells ∙ used_push (place_cells (places_of slots)) (Some free) ∙ omega arith;
      kept = λ s lt. ap (λ (cs : List (Option (Option ℕ))). cell_at cs s) cells ∙ get_or_append_left (place_cells (places_of slots)) (Some free ∷ []) None s (rw cells_long lt);
    }

-- one slot is made
pub makes_one : {T : Type 0} (slots slots' : List (Slot T)) (free : Option ℕ) (x : Slot T) (n : ℕ) → x.place ≡ Vacant free → x.links ≡ no_links → slots' ≡ slots ++ x ∷ [] → n ≡ length slots → AreFree (place_cells (places_of slots)) free → MakesSpare slots slots' free (Some n) 1
makes_one {T} slots slots' free x n ep el es en R =
    subst (λ (ys : List (Slot T)). MakesSpare slots ys free (Some n) 1) (sym es) (subst (λ (m : ℕ). MakesSpare slots (slots ++ x ∷ []) free (Some m) 1) (sym en) (makes_here slots free x ep el R))

-- none is made
pub makes_none : {T : Type 0} (slots : List (Slot T)) (free : Option ℕ) → AreFree (place_cells (places_of slots)) free → MakesSpare slots slots free free 0
makes_none slots free R = record {
  long = omega arith;
  links = refl;
  values = λ s. refl;
  frees = R;
  spares = omega arith;
  used = refl;
  kept = λ s lt. refl;
}

-- one more is made
pub makes_more : {T : Type 0} (slots slots1 slots2 : List (Slot T)) (free free1 free2 : Option ℕ) (m : ℕ) → MakesSpare slots slots1 free free1 m → MakesSpare slots1 slots2 free1 free2 1 → MakesSpare slots slots2 free free2 (m + 1)
makes_more slots slots1 slots2 free free1 free2 m M N =
    let long1 = M.long in
    let long2 = N.long in
    let spares1 = M.spares in
    let spares2 = N.spares in
    record {
      long = omega arith;
      links = N.links ∙ M.links;
      values = λ s. N.values s ∙ M.values s;
      frees = N.frees;
      spares = omega arith;
      used = N.used ∙ M.used;
      kept = λ s lt. N.kept s (omega arith) ∙ M.kept s lt;
    }
