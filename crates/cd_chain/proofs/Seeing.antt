-- What contracts see of a store, and what its links say.
use Rattle.std.proofs.Common.{◌≡◌, ℕ, Bool, true, not, eqb, ◌∷◌, ◌<◌, ◌+◌, List, [], length, map, get_or, cond, Option, Some, None, refl, ap, sym, ◌∙◌, subst, inl, inr}
use Rattle.std.proofs.lemmas.Bool.{cases_Bool, both_ways, eqb-true}
use Rattle.std.specs.Prelude.{slice_get, is_some, IsSome, count_by}
use Rattle.std.proofs.lemmas.List.Sums.{sum_by-cons}
use Rattle.std.proofs.Math.ListN.{get_or-map}
use Rattle.cd_chain.specs.declared.link.Link.{Link}
use Rattle.cd_chain.specs.declared.slot.Slot.{Slot}
use Rattle.cd_chain.specs.declared.slot.Place.{Place}
use Rattle.cd_chain.specs.declared.slot.Place.TheVariants.{Used, Vacant}
use Rattle.cd_chain.specs.declared.lane.Ends.{Ends}
use Rattle.cd_chain.specs.declared.lane.Row.{Row}
use Rattle.cd_chain.specs.declared.lane.Row.TheVariants.{There, Free}
use Rattle.cd_chain.specs.declared.lane.Lanes.{Lanes}
use Rattle.cd_chain.specs.Lanes.{rows_in, row_at}
use Rattle.cd_chain.specs.Cells.{is_in, place_cell, place_cells, row_cell, row_cells, used_cells}
use Rattle.cd_chain.specs.Chains.{walked_on, IsChain}
use Rattle.cd_chain.specs.Links.{link_in}
use Rattle.cd_chain.specs.Lists.{list_of, InList, IsThere, RowHolds, AreLists, Relinks}
use Rattle.cd_chain.specs.Contents.{Contents, value_of, values_of, lists_in, lists_seen, list_at, list_count, seen_of, slots_of, after_in, StandsIn}
use Rattle.cd_chain.specs.Calls.{ChangesLists}
use Rattle.cd_chain.proofs.Linking.{member}

lists_are : {T : Type 0} (slots : List (Slot T)) (lanes : Lanes) (spare l : ℕ) → lists_in (seen_of slots lanes spare) l ≡ lists_seen slots lanes l
lists_are {T} slots lanes spare l =
    let P : ℕ → Type 0 = λ x. lists_in (seen_of slots lanes spare) x ≡ lists_seen slots lanes x in
    elim (cases_Bool (eqb l 0)) [
      | inl a ↦ subst P (sym (eqb-true l 0 a)) refl
      | inr a ↦ elim (cases_Bool (eqb l 1)) [
        | inl b ↦ subst P (sym (eqb-true l 1 b)) refl
        | inr b ↦ elim (cases_Bool (eqb l 2)) [
          | inl c ↦ subst P (sym (eqb-true l 2 c)) refl
          | inr c ↦ rw (a, b, c) refl
        ]
      ]
    ]

pub list_is : {T : Type 0} (slots : List (Slot T)) (lanes : Lanes) (spare l k : ℕ) → list_at (seen_of slots lanes spare) l k ≡ list_of (link_in slots l) (length slots) (row_at (rows_in lanes l) k)
list_is {T} slots lanes spare l k =
    ap (λ (xs : List (Option (List ℕ))). get_or xs k None) (lists_are slots lanes spare l)
    ∙ get_or-map (list_of (link_in slots l) (length slots)) (rows_in lanes l) k (Free None)

abbrev one_if : Bool → ℕ
one_if b = cond b 1 0

same_weight : (at : ℕ → Link) (n : ℕ) (r : Row) → one_if (is_some (list_of at n r)) ≡ one_if (not (is_some (row_cell r)))
same_weight at n (There e) = refl
same_weight at n (Free next) = refl

rows_used : (at : ℕ → Link) (n : ℕ) (rows : List Row) → count_by (λ (o : Option (List ℕ)). is_some o) (map (list_of at n) rows) ≡ used_cells (row_cells rows)
rows_used at n [] = refl
rows_used at n (r ∷ rs) =
    sum_by-cons (λ (o : Option (List ℕ)). one_if (is_some o)) (list_of at n r) (map (list_of at n) rs)
    ∙ ap (λ (w : ℕ). w + count_by (λ (o : Option (List ℕ)). is_some o) (map (list_of at n) rs)) (same_weight at n r)
    ∙ ap (λ (m : ℕ). one_if (not (is_some (row_cell r))) + m) (rows_used at n rs)
    ∙ sym (sum_by-cons (λ (c : Option (Option ℕ)). one_if (not (is_some c))) (row_cell r) (row_cells rs))

pub list_count_is : {T : Type 0} (slots : List (Slot T)) (lanes : Lanes) (spare l : ℕ) → list_count (seen_of slots lanes spare) l ≡ used_cells (row_cells (rows_in lanes l))
list_count_is {T} slots lanes spare l =
    ap (λ (xs : List (Option (List ℕ))). count_by (λ (o : Option (List ℕ)). is_some o) xs) (lists_are slots lanes spare l)
    ∙ rows_used (link_in slots l) (length slots) (rows_in lanes l)

value_weight : {T : Type 0} (p : Place T) → one_if (is_some (value_of p)) ≡ one_if (not (is_some (place_cell p)))
value_weight (Used value) = refl
value_weight (Vacant next) = refl

pub places_used : {T : Type 0} (places : List (Place T)) → count_by (λ (o : Option T). is_some o) (values_of places) ≡ used_cells (place_cells places)
places_used {T} [] = refl
places_used {T} (p ∷ ps) =
    sum_by-cons (λ (o : Option T). one_if (is_some o)) (value_of p) (values_of ps)
    ∙ ap (λ (w : ℕ). w + count_by (λ (o : Option T). is_some o) (values_of ps)) (value_weight p)
    ∙ ap (λ (m : ℕ). one_if (not (is_some (place_cell p))) + m) (places_used ps)
    ∙ sym (sum_by-cons (λ (c : Option (Option ℕ)). one_if (not (is_some c))) (place_cell p) (place_cells ps))

-- what is seen of the lists, where some change
pub changes_by : {T : Type 0} (slots slots2 : List (Slot T)) (lanes lanes2 : Lanes) (spare spare2 s : ℕ) (it : Contents T) (change : ℕ → ℕ → Option (List ℕ) → Option (List ℕ)) → seen_of slots lanes spare ≡ it → length slots2 ≡ length slots →
    Relinks (link_in slots) (link_in slots2) (length slots) s (rows_in lanes) (rows_in lanes2) change → ChangesLists it (seen_of slots2 lanes2 spare2) change
changes_by {T} slots slots2 lanes lanes2 spare spare2 s it change seen e R = record {
  lists = λ l k. list_is slots2 lanes2 spare2 l k
      ∙ ap (λ (n : ℕ). list_of (link_in slots2 l) n (row_at (rows_in lanes2 l) k)) e
      ∙ (R l).changed k
      ∙ ap (change l k) (sym (list_is slots lanes spare l k) ∙ ap (λ (x : Contents T). list_at x l k) seen);
  counts = λ l. list_count_is slots2 lanes2 spare2 l ∙ ap used_cells (R l).numbers
      ∙ sym (list_count_is slots lanes spare l) ∙ ap (λ (x : Contents T). list_count x l) seen;
}

-- a slot that stands in a list, as its link says
pub record IsLinked (at : ℕ → Link) (n s k : ℕ) : Type 0 where
  pub within : s < n
  pub list : (at s).list ≡ Some k

linked_row : (at : ℕ → Link) (n s k : ℕ) (r : Row) → RowHolds at n k r → InList (list_of at n r) s → IsLinked at n s k
linked_row at n s k (Free next) h i = absurd i
linked_row at n s k (There e) h i =
    let m = member at n k None (walked_on at n e.first) e.first e.last s i h.1 in
    record { within = m.within; list = m.list }

pub linked : {T : Type 0} (slots : List (Slot T)) (lanes : Lanes) (spare lane s : ℕ) (it : Contents T) → seen_of slots lanes spare ≡ it → ((l : ℕ) → AreLists (link_in slots l) (length slots) (rows_in lanes l)) → (w : StandsIn it lane s) → IsLinked (link_in slots lane) (length slots) s w.list
linked {T} slots lanes spare lane s it seen A w =
    linked_row (link_in slots lane) (length slots) s w.list (row_at (rows_in lanes lane) w.list) ((A lane).each w.list)
    (subst (λ (o : Option (List ℕ)). InList o s) (ap (λ (x : Contents T). list_at x lane w.list) (sym seen) ∙ list_is slots lanes spare lane w.list) w.within)

there_row : (at : ℕ → Link) (n : ℕ) (r : Row) → IsSome (list_of at n r) → IsThere r
there_row at n (There e) h = tt
there_row at n (Free next) h = absurd (both_ways _ refl h)

-- a list that is seen is there
pub there_seen : {T : Type 0} (slots : List (Slot T)) (lanes : Lanes) (spare lane k : ℕ) (it : Contents T) → seen_of slots lanes spare ≡ it → IsSome (list_at it lane k) → IsThere (row_at (rows_in lanes lane) k)
there_seen {T} slots lanes spare lane k it seen h = there_row (link_in slots lane) (length slots) (row_at (rows_in lanes lane) k)
    (subst (λ (o : Option (List ℕ)). IsSome o) (ap (λ (x : Contents T). list_at x lane k) (sym seen) ∙ list_is slots lanes spare lane k) h)

chain_first : (at : ℕ → Link) (n k : ℕ) (b : Option ℕ) (slots : List ℕ) (f l : Option ℕ) → IsChain at n k b slots f l → f ≡ slice_get slots 0
chain_first at n k b [] f l c = c.0
chain_first at n k b (s ∷ ss) f l c = c.0

pub first_is : {T : Type 0} (slots : List (Slot T)) (lanes : Lanes) (spare lane k : ℕ) (it : Contents T) (e : Ends) → seen_of slots lanes spare ≡ it → AreLists (link_in slots lane) (length slots) (rows_in lanes lane) → row_at (rows_in lanes lane) k ≡ There e → e.first ≡ slice_get (slots_of (list_at it lane k)) 0
first_is {T} slots lanes spare lane k it e seen A there =
    let r : RowHolds (link_in slots lane) (length slots) k (There e) = subst (RowHolds (link_in slots lane) (length slots) k) there (A.each k) in
    chain_first _ _ _ _ _ _ _ r.1 ∙ ap (λ (o : Option (List ℕ)). slice_get (slots_of o) 0)
    (ap (list_of (link_in slots lane) (length slots)) (sym there) ∙ sym (list_is slots lanes spare lane k) ∙ ap (λ (x : Contents T). list_at x lane k) seen)

chain_next : (at : ℕ → Link) (n k : ℕ) (b : Option ℕ) (slots : List ℕ) (f l : Option ℕ) (s : ℕ) → is_in s slots ≡ true → IsChain at n k b slots f l → (at s).after ≡ after_in s slots
chain_next at n k b [] f l s h c = absurd (both_ways _ refl h)
chain_next at n k b (t ∷ ss) f l s h c = elim (cases_Bool (eqb s t)) [
  | inl e ↦ rw e (ap (λ (x : ℕ). (at x).after) (eqb-true s t e) ∙ chain_first at n k (Some t) ss (at t).after l c.4)
  | inr e ↦ rw e (chain_next at n k (Some t) ss (at t).after l s (rw e at h) c.4)
]

next_row : (at : ℕ → Link) (n s k : ℕ) (r : Row) → RowHolds at n k r → InList (list_of at n r) s → (at s).after ≡ after_in s (slots_of (list_of at n r))
next_row at n s k (Free next) h i = absurd i
next_row at n s k (There e) h i = chain_next at n k None (walked_on at n e.first) e.first e.last s i h.1

pub next_is : {T : Type 0} (slots : List (Slot T)) (lanes : Lanes) (spare lane s : ℕ) (it : Contents T) → seen_of slots lanes spare ≡ it → AreLists (link_in slots lane) (length slots) (rows_in lanes lane) → (k : ℕ) → InList (list_at it lane k) s → (link_in slots lane s).after ≡ after_in s (slots_of (list_at it lane k))
next_is {T} slots lanes spare lane s it seen A k i =
    let e : list_at it lane k ≡ list_of (link_in slots lane) (length slots) (row_at (rows_in lanes lane) k) = ap (λ (x : Contents T). list_at x lane k) (sym seen) ∙ list_is slots lanes spare lane k in
    next_row (link_in slots lane) (length slots) s k (row_at (rows_in lanes lane) k) (A.each k) (subst (λ (o : Option (List ℕ)). InList o s) e i) ∙ ap (λ (o : Option (List ℕ)). after_in s (slots_of o)) (sym e)
