-- What calls on a store keep and show.
use Rattle.std.proofs.Common.{◌≡◌, ℕ, zero, suc, ◌<◌, ◌+◌, ◌^◌, eqb, List, [], ◌∷◌, length, get_or, map, cond, Option, Some, None, refl, ap, sym, ◌∙◌, subst, arith, inl, inr}
use Rattle.std.specs.Prelude.{IsSome, IfSome, IfOk, OnErr, Result, Ok, Err, ◌&&◌}
use Rattle.std.proofs.lemmas.Bool.{cases_eq, cases_Bool, eq-eqb, ne_eqb, both_ways}
use Rattle.std.proofs.lemmas.List.{length-map}
use Rattle.std.proofs.lemmas.Option.{none-some}
use Rattle.cd_chain.specs.declared.link.Link.{Link}
use Rattle.cd_chain.specs.declared.slot.Slot.{Slot}
use Rattle.cd_chain.specs.declared.slot.Place.{Place}
use Rattle.cd_chain.specs.declared.lane.Ends.{Ends}
use Rattle.cd_chain.specs.declared.lane.Row.{Row}
use Rattle.cd_chain.specs.declared.lane.Row.TheVariants.{There, Free}
use Rattle.cd_chain.specs.declared.lane.Lanes.{Lanes}
use Rattle.cd_chain.specs.Lanes.{by_lane, rows_in, free_in, row_at}
use Rattle.cd_chain.specs.Cells.{AreDistinct, AreFree, used_cells, row_cells}
use Rattle.cd_chain.specs.Chains.{walked_on, IsChain}
use Rattle.cd_chain.specs.Links.{link_in, places_of}
use Rattle.cd_chain.specs.Lists.{list_of, InList, IsThere, RowHolds, AreLists, no_ends, AddsRow, DropsRow}
use Rattle.cd_chain.specs.Contents.{Contents, values_of, value_at, list_at, list_count, seen_of}
use Rattle.cd_chain.specs.Holds.{SlotsHold, Holds}
use Rattle.cd_chain.specs.Calls.{AddsList, DropsList}
use Rattle.cd_chain.proofs.Linking.{IsMember, member, led_in}
use Rattle.cd_chain.proofs.Seeing.{list_is, list_count_is}
use Rattle.cd_chain.proofs.Keeping.{listed_used}
use Rattle.cd_chain.proofs.Steps.{no_link_past}

-- what comes after a slot in its list
after_member : (at : ℕ → Link) (n s k : ℕ) (r : Row) (t : ℕ) → RowHolds at n k r → InList (list_of at n r) s → (at s).after ≡ Some t → IsMember at n k t
after_member at n s k (Free next) t h i e = absurd i
after_member at n s k (There x) t h i e =
    let slots : List ℕ = walked_on at n x.first in
    member at n k None slots x.first x.last t (led_in at n k None slots x.first x.last s t i e h.1) h.1

there_in : (at : ℕ → Link) (n s : ℕ) (r : Row) → InList (list_of at n r) s → IsThere r
there_in at n s (There e) h = tt
there_in at n s (Free next) h = h

no_walk : (at : ℕ → Link) (n : ℕ) → walked_on at n None ≡ []
no_walk at zero = refl
no_walk at (suc n) = refl

empty_row : (at : ℕ → Link) (n k : ℕ) → RowHolds at n k (There no_ends)
empty_row at n k = subst (λ (xs : List ℕ). AreDistinct xs × IsChain at n k None xs None None) (sym (no_walk at n)) (tt, (refl, refl))

gone_row : (at : ℕ → Link) (n k : ℕ) (r : Row) → (IsThere r → ⊥) → RowHolds at n k r
gone_row at n k (There e) h = absurd (h tt)
gone_row at n k (Free next) h = tt

chain_used : {T : Type 0} (at : ℕ → ℕ → Link) (places : List (Place T)) (n l k : ℕ) (free : Option ℕ) (spare : ℕ) (slots : List ℕ) (f last : Option ℕ) (s : ℕ) → SlotsHold at places free spare → n ≡ length places → f ≡ Some s → IsChain (at l) n k None slots f last → IsSome (get_or (values_of places) s None)
chain_used at places n l k free spare [] f last s H en q c = absurd (none-some s (sym c.0 ∙ q))
chain_used at places n l k free spare (t ∷ ss) f last s H en q c =
    let w : Some t ≡ Some s = sym c.0 ∙ q in
    let t_s : t ≡ s = cc in
    let lt : t < n = c.1 in
    listed_used at places free spare l s k H (subst (λ (x : ℕ). s < x) en (subst (λ (x : ℕ). x < n) t_s lt)) (subst (λ (x : ℕ). (at l x).list ≡ Some k) t_s c.2)

-- what is first in a list is used
first_used_row : {T : Type 0} (at : ℕ → ℕ → Link) (places : List (Place T)) (n l k : ℕ) (free : Option ℕ) (spare : ℕ) (e : Ends) → SlotsHold at places free spare → n ≡ length places → RowHolds (at l) n k (There e) → (o : Option ℕ) → e.first ≡ o → IfSome o (λ s. IsSome (get_or (values_of places) s None))
first_used_row at places n l k free spare e H en r None q = tt
first_used_row at places n l k free spare e H en r (Some s) q = chain_used at places n l k free spare (walked_on (at l) n e.first) e.first e.last s H en q r.1

places_long : {T : Type 0} (slots : List (Slot T)) → length slots ≡ length (places_of slots)
places_long {T} slots = sym (length-map slots (λ (x : Slot T). x.place))

pub first_used : {T : Type 0} (slots : List (Slot T)) (lanes : Lanes) (spare seen_spare lane k : ℕ) (free : Option ℕ) (it : Contents T) (e : Ends) → seen_of slots lanes seen_spare ≡ it → Holds slots (rows_in lanes) (free_in lanes) free spare → row_at (rows_in lanes lane) k ≡ There e → IfSome e.first (λ s. IsSome (value_at it s))
first_used {T} slots lanes spare seen_spare lane k free it e seen H there = subst (λ (x : Contents T). IfSome e.first (λ s. IsSome (value_at x s))) seen
    (first_used_row (link_in slots) (places_of slots) (length slots) lane k free spare e H.slots_hold (places_long slots)
    (subst (RowHolds (link_in slots lane) (length slots) k) there ((H.lists lane).each k)) e.first refl)

-- the row of a slot's list
next_used_row : {T : Type 0} (at : ℕ → ℕ → Link) (places : List (Place T)) (n l s k : ℕ) (rows : List Row) (free : Option ℕ) (spare : ℕ) → SlotsHold at places free spare → n ≡ length places → AreLists (at l) n rows → (at l s).list ≡ Some k → (o : Option ℕ) → (at l s).after ≡ o → IfSome o (λ t. IsSome (get_or (values_of places) t None))
next_used_row at places n l s k rows free spare H en A hs None e = tt
next_used_row at places n l s k rows free spare H en A hs (Some t) e =
    let M = after_member (at l) n s k (row_at rows k) t (A.each k) (A.members s k hs) e in
    listed_used at places free spare l t k H (subst (λ (x : ℕ). t < x) en M.within) M.list

pub next_used : {T : Type 0} (slots : List (Slot T)) (lanes : Lanes) (spare seen_spare lane s k : ℕ) (free : Option ℕ) (it : Contents T) → seen_of slots lanes seen_spare ≡ it → Holds slots (rows_in lanes) (free_in lanes) free spare → (link_in slots lane s).list ≡ Some k → IfSome (link_in slots lane s).after (λ t. IsSome (value_at it t))
next_used {T} slots lanes spare seen_spare lane s k free it seen H hs = subst (λ (x : Contents T). IfSome (link_in slots lane s).after (λ t. IsSome (value_at x t))) seen
    (next_used_row (link_in slots) (places_of slots) (length slots) lane s k (rows_in lanes lane) free spare H.slots_hold (places_long slots) (H.lists lane) hs (link_in slots lane s).after refl)

-- a list under a number that was free
adds_row_list : (at : ℕ → Link) (n : ℕ) (r : Row) → (IsThere r → ⊥) → list_of at n r ≡ None
adds_row_list at n (There e) h = absurd (h tt)
adds_row_list at n (Free next) h = refl

-- a lane where a list is added
pub added_lists : (at : ℕ → Link) (n k : ℕ) (rows rows' : List Row) (head : Option ℕ) → AddsRow rows rows' head k → AreLists at n rows → AreLists at n rows'
added_lists at n k rows rows' head R A = record {
  each = λ j. elim (cases_eq j k) [
    | inl q ↦ subst (λ (x : ℕ). RowHolds at n x (row_at rows' x)) (sym q) (subst (RowHolds at n k) (sym R.there) (empty_row at n k))
    | inr ne ↦ subst (RowHolds at n j) (sym (R.kept j ne)) (A.each j)
  ];
  members = λ s j e. elim (cases_eq j k) [
    | inl q ↦ absurd (R.was (there_in at n s (row_at rows k) (subst (λ (x : ℕ). InList (list_of at n (row_at rows x)) s) q (A.members s j e))))
    | inr ne ↦ subst (λ (r : Row). InList (list_of at n r) s) (sym (R.kept j ne)) (A.members s j e)
  ];
}

-- a lane where a list without slots is dropped
pub dropped_lists : (at : ℕ → Link) (n k : ℕ) (rows rows' : List Row) → DropsRow rows rows' k → list_of at n (row_at rows k) ≡ Some [] → AreLists at n rows → AreLists at n rows'
dropped_lists at n k rows rows' R empty A = record {
  each = λ j. elim (cases_eq j k) [
    | inl q ↦ subst (λ (x : ℕ). RowHolds at n x (row_at rows' x)) (sym q) (gone_row at n k (row_at rows' k) R.gone)
    | inr ne ↦ subst (RowHolds at n j) (sym (R.kept j ne)) (A.each j)
  ];
  members = λ s j e. elim (cases_eq j k) [
    | inl q ↦ absurd (both_ways _ refl (subst (λ (o : Option (List ℕ)). InList o s) empty (subst (λ (x : ℕ). InList (list_of at n (row_at rows x)) s) q (A.members s j e))))
    | inr ne ↦ subst (λ (r : Row). InList (list_of at n r) s) (sym (R.kept j ne)) (A.members s j e)
  ];
}

added_list : (at : ℕ → Link) (n k : ℕ) (rows rows' : List Row) (head : Option ℕ) → AddsRow rows rows' head k → (j : ℕ) → list_of at n (row_at rows' j) ≡ cond (eqb j k) (Some []) (list_of at n (row_at rows j))
added_list at n k rows rows' head R j = elim (cases_eq j k) [
  | inl q ↦ rw (eq-eqb j k q) (ap (λ (x : ℕ). list_of at n (row_at rows' x)) q ∙ ap (list_of at n) R.there ∙ ap (λ (xs : List ℕ). Some xs) (no_walk at n))
  | inr ne ↦ rw (ne_eqb j k ne) (ap (list_of at n) (R.kept j ne))
]

dropped_list : (at : ℕ → Link) (n k : ℕ) (rows rows' : List Row) → DropsRow rows rows' k → (j : ℕ) → list_of at n (row_at rows' j) ≡ cond (eqb j k) None (list_of at n (row_at rows j))
dropped_list at n k rows rows' R j = elim (cases_eq j k) [
  | inl q ↦ rw (eq-eqb j k q) (ap (λ (x : ℕ). list_of at n (row_at rows' x)) q ∙ adds_row_list at n (row_at rows' k) R.gone)
  | inr ne ↦ rw (ne_eqb j k ne) (ap (list_of at n) (R.kept j ne))
]

plus_none : (n : ℕ) → n ≡ n + 0
plus_none n = omega arith

-- what is seen where a list is added
pub adds_list : {T : Type 0} (slots : List (Slot T)) (lanes lanes2 : Lanes) (spare lane k : ℕ) (it : Contents T) → seen_of slots lanes spare ≡ it → AddsRow (rows_in lanes lane) (rows_in lanes2 lane) (free_in lanes2 lane) k → ((l : ℕ) → (l ≡ lane → ⊥) → rows_in lanes2 l ≡ rows_in lanes l) →
    AddsList it (seen_of slots lanes2 spare) lane k
adds_list {T} slots lanes lanes2 spare lane k it seen R others = record {
  fresh = ap (λ (x : Contents T). list_at x lane k) (sym seen) ∙ list_is slots lanes spare lane k ∙ adds_row_list (link_in slots lane) (length slots) (row_at (rows_in lanes lane) k) R.was;
  lists = λ l j. list_is slots lanes2 spare l j ∙ elim (cases_eq l lane) [
    | inl q ↦ subst (λ (x : ℕ). list_of (link_in slots x) (length slots) (row_at (rows_in lanes2 x) j) ≡ cond (eqb x lane && eqb j k) (Some []) (list_at it x j)) (sym q)
        (rw (eq-eqb lane lane refl) (added_list (link_in slots lane) (length slots) k (rows_in lanes lane) (rows_in lanes2 lane) (free_in lanes2 lane) R j
        ∙ ap (λ (o : Option (List ℕ)). cond (eqb j k) (Some []) o) (sym (list_is slots lanes spare lane j) ∙ ap (λ (x : Contents T). list_at x lane j) seen)))
    | inr ne ↦ rw (ne_eqb l lane ne) (ap (λ (rs : List Row). list_of (link_in slots l) (length slots) (row_at rs j)) (others l ne) ∙ sym (list_is slots lanes spare l j) ∙ ap (λ (x : Contents T). list_at x l j) seen)
  ];
  counts = λ l. list_count_is slots lanes2 spare l ∙ elim (cases_eq l lane) [
    | inl q ↦ subst (λ (x : ℕ). used_cells (row_cells (rows_in lanes2 x)) ≡ list_count it x + cond (eqb x lane) 1 0) (sym q)
        (rw (eq-eqb lane lane refl) (R.used ∙ ap (λ (n : ℕ). n + 1) (sym (list_count_is slots lanes spare lane) ∙ ap (λ (x : Contents T). list_count x lane) seen)))
    | inr ne ↦ rw (ne_eqb l lane ne) (ap (λ (rs : List Row). used_cells (row_cells rs)) (others l ne) ∙ sym (list_count_is slots lanes spare l) ∙ ap (λ (x : Contents T). list_count x l) seen ∙ plus_none (list_count it l))
  ];
}

-- what is seen where a list is dropped
pub drops_list : {T : Type 0} (slots : List (Slot T)) (lanes lanes2 : Lanes) (spare lane k : ℕ) (it : Contents T) → seen_of slots lanes spare ≡ it → DropsRow (rows_in lanes lane) (rows_in lanes2 lane) k → ((l : ℕ) → (l ≡ lane → ⊥) → rows_in lanes2 l ≡ rows_in lanes l) →
    DropsList it (seen_of slots lanes2 spare) lane k
drops_list {T} slots lanes lanes2 spare lane k it seen R others = record {
  lists = λ l j. list_is slots lanes2 spare l j ∙ elim (cases_eq l lane) [
    | inl q ↦ subst (λ (x : ℕ). list_of (link_in slots x) (length slots) (row_at (rows_in lanes2 x) j) ≡ cond (eqb x lane && eqb j k) None (list_at it x j)) (sym q)
        (rw (eq-eqb lane lane refl) (dropped_list (link_in slots lane) (length slots) k (rows_in lanes lane) (rows_in lanes2 lane) R j
        ∙ ap (λ (o : Option (List ℕ)). cond (eqb j k) None o) (sym (list_is slots lanes spare lane j) ∙ ap (λ (x : Contents T). list_at x lane j) seen)))
    | inr ne ↦ rw (ne_eqb l lane ne) (ap (λ (rs : List Row). list_of (link_in slots l) (length slots) (row_at rs j)) (others l ne) ∙ sym (list_is slots lanes spare l j) ∙ ap (λ (x : Contents T). list_at x l j) seen)
  ];
  counts = λ l. ap (λ (n : ℕ). n + cond (eqb l lane) 1 0) (list_count_is slots lanes2 spare l) ∙ elim (cases_eq l lane) [
    | inl q ↦ subst (λ (x : ℕ). used_cells (row_cells (rows_in lanes2 x)) + cond (eqb x lane) 1 0 ≡ list_count it x) (sym q)
        (rw (eq-eqb lane lane refl) (R.used ∙ sym (list_count_is slots lanes spare lane) ∙ ap (λ (x : Contents T). list_count x lane) seen))
    | inr ne ↦ rw (ne_eqb l lane ne) (sym (plus_none (used_cells (row_cells (rows_in lanes2 l)))) ∙ ap (λ (rs : List Row). used_cells (row_cells rs)) (others l ne) ∙ sym (list_count_is slots lanes spare l) ∙ ap (λ (x : Contents T). list_count x l) seen)
  ];
}

-- what is kept where a list is added
pub added_holds : {T : Type 0} (slots : List (Slot T)) (lanes lanes2 : Lanes) (spare lane k : ℕ) (free : Option ℕ) → Holds slots (rows_in lanes) (free_in lanes) free spare → AddsRow (rows_in lanes lane) (rows_in lanes2 lane) (free_in lanes2 lane) k → ((l : ℕ) → (l ≡ lane → ⊥) → rows_in lanes2 l ≡ rows_in lanes l) → ((l : ℕ) → (l ≡ lane → ⊥) → free_in lanes2 l ≡ free_in lanes l) →
    Holds slots (rows_in lanes2) (free_in lanes2) free spare
added_holds slots lanes lanes2 spare lane k free H R others heads = record {
  lists = λ l. elim (cases_eq l lane) [
    | inl q ↦ subst (λ (x : ℕ). AreLists (link_in slots x) (length slots) (rows_in lanes2 x)) (sym q) (added_lists (link_in slots lane) (length slots) k (rows_in lanes lane) (rows_in lanes2 lane) (free_in lanes2 lane) R (H.lists lane))
    | inr ne ↦ subst (λ (rs : List Row). AreLists (link_in slots l) (length slots) rs) (sym (others l ne)) (H.lists l)
  ];
  numbers = λ l. elim (cases_eq l lane) [
    | inl q ↦ subst (λ (x : ℕ). AreFree (row_cells (rows_in lanes2 x)) (free_in lanes2 x)) (sym q) R.frees
    | inr ne ↦ subst (λ (rs : List Row). AreFree (row_cells rs) (free_in lanes2 l)) (sym (others l ne)) (subst (λ (h : Option ℕ). AreFree (row_cells (rows_in lanes l)) h) (sym (heads l ne)) (H.numbers l))
  ];
  slots_hold = H.slots_hold;
}

-- what is kept where a list is dropped
pub dropped_holds : {T : Type 0} (slots : List (Slot T)) (lanes lanes2 : Lanes) (spare seen_spare lane k : ℕ) (free : Option ℕ) (it : Contents T) → seen_of slots lanes seen_spare ≡ it → Holds slots (rows_in lanes) (free_in lanes) free spare → list_at it lane k ≡ Some [] → DropsRow (rows_in lanes lane) (rows_in lanes2 lane) k → free_in lanes2 lane ≡ Some k → ((l : ℕ) → (l ≡ lane → ⊥) → rows_in lanes2 l ≡ rows_in lanes l) → ((l : ℕ) → (l ≡ lane → ⊥) → free_in lanes2 l ≡ free_in lanes l) →
    Holds slots (rows_in lanes2) (free_in lanes2) free spare
dropped_holds {T} slots lanes lanes2 spare seen_spare lane k free it seen H empty R head others heads = record {
  lists = λ l. elim (cases_eq l lane) [
    | inl q ↦ subst (λ (x : ℕ). AreLists (link_in slots x) (length slots) (rows_in lanes2 x)) (sym q) (dropped_lists (link_in slots lane) (length slots) k (rows_in lanes lane) (rows_in lanes2 lane) R
        (sym (list_is slots lanes seen_spare lane k) ∙ ap (λ (x : Contents T). list_at x lane k) seen ∙ empty) (H.lists lane))
    | inr ne ↦ subst (λ (rs : List Row). AreLists (link_in slots l) (length slots) rs) (sym (others l ne)) (H.lists l)
  ];
  numbers = λ l. elim (cases_eq l lane) [
    | inl q ↦ subst (λ (x : ℕ). AreFree (row_cells (rows_in lanes2 x)) (free_in lanes2 x)) (sym q) (subst (λ (h : Option ℕ). AreFree (row_cells (rows_in lanes2 lane)) h) (sym head) R.frees)
    | inr ne ↦ subst (λ (rs : List Row). AreFree (row_cells rs) (free_in lanes2 l)) (sym (others l ne)) (subst (λ (h : Option ℕ). AreFree (row_cells (rows_in lanes l)) h) (sym (heads l ne)) (H.numbers l))
  ];
  slots_hold = H.slots_hold;
}

rows_same : {T : Type 0} (slots : List (Slot T)) (lanes lanes2 : Lanes) (spare : ℕ) → ((l : ℕ) → rows_in lanes2 l ≡ rows_in lanes l) → seen_of slots lanes2 spare ≡ seen_of slots lanes spare
rows_same {T} slots lanes lanes2 spare h =
    let f : ℕ → List Row → List (Option (List ℕ)) = λ l rs. map (list_of (link_in slots l) (length slots)) rs in
    let vs : List (Option T) = values_of (places_of slots) in
    ap (λ (rs : List Row). record { values = vs; spare = spare; first = f 0 rs; second = f 1 (rows_in lanes2 1); third = f 2 (rows_in lanes2 2) }) (h 0)
    ∙ ap (λ (rs : List Row). record { values = vs; spare = spare; first = f 0 (rows_in lanes 0); second = f 1 rs; third = f 2 (rows_in lanes2 2) }) (h 1)
    ∙ ap (λ (rs : List Row). record { values = vs; spare = spare; first = f 0 (rows_in lanes 0); second = f 1 (rows_in lanes 1); third = f 2 rs }) (h 2)

every_lane : {X : Type 0} (f g : ℕ → X) (lane : ℕ) → f lane ≡ g lane → ((l : ℕ) → (l ≡ lane → ⊥) → f l ≡ g l) → (l : ℕ) → f l ≡ g l
every_lane f g lane e others l = elim (cases_eq l lane) [
  | inl q ↦ ap f q ∙ e ∙ sym (ap g q)
  | inr ne ↦ others l ne
]

same_holds : {T : Type 0} (slots : List (Slot T)) (lanes lanes2 : Lanes) (spare : ℕ) (free : Option ℕ) → ((l : ℕ) → rows_in lanes2 l ≡ rows_in lanes l) → ((l : ℕ) → free_in lanes2 l ≡ free_in lanes l) → Holds slots (rows_in lanes) (free_in lanes) free spare → Holds slots (rows_in lanes2) (free_in lanes2) free spare
same_holds slots lanes lanes2 spare free h k H = record {
  lists = λ l. subst (λ (rs : List Row). AreLists (link_in slots l) (length slots) rs) (sym (h l)) (H.lists l);
  numbers = λ l. subst (λ (rs : List Row). AreFree (row_cells rs) (free_in lanes2 l)) (sym (h l)) (subst (λ (x : Option ℕ). AreFree (row_cells (rows_in lanes l)) x) (sym (k l)) (H.numbers l));
  slots_hold = H.slots_hold;
}

-- what is kept where a list is added, or memory is wanting
pub adds_any : {T E : Type 0} (slots : List (Slot T)) (lanes lanes2 : Lanes) (spare lane : ℕ) (free : Option ℕ) (r : Result ℕ E) → Holds slots (rows_in lanes) (free_in lanes) free spare → IfOk r (λ k. AddsRow (rows_in lanes lane) (rows_in lanes2 lane) (free_in lanes2 lane) k) →
    OnErr r (rows_in lanes2 lane ≡ rows_in lanes lane) → OnErr r (free_in lanes2 lane ≡ free_in lanes lane) → ((l : ℕ) → (l ≡ lane → ⊥) → rows_in lanes2 l ≡ rows_in lanes l) → ((l : ℕ) → (l ≡ lane → ⊥) → free_in lanes2 l ≡ free_in lanes l) → Holds slots (rows_in lanes2) (free_in lanes2) free spare
adds_any slots lanes lanes2 spare lane free (Ok k) H R e h others heads = added_holds slots lanes lanes2 spare lane k free H R others heads
adds_any slots lanes lanes2 spare lane free (Err x) H R e h others heads = same_holds slots lanes lanes2 spare free (every_lane (rows_in lanes2) (rows_in lanes) lane e others) (every_lane (free_in lanes2) (free_in lanes) lane h heads) H

pub adds_ok : {T E : Type 0} (slots : List (Slot T)) (lanes lanes2 : Lanes) (spare lane : ℕ) (it : Contents T) (r : Result ℕ E) → seen_of slots lanes spare ≡ it → IfOk r (λ k. AddsRow (rows_in lanes lane) (rows_in lanes2 lane) (free_in lanes2 lane) k) →
    ((l : ℕ) → (l ≡ lane → ⊥) → rows_in lanes2 l ≡ rows_in lanes l) → IfOk r (λ k. AddsList it (seen_of slots lanes2 spare) lane k)
adds_ok slots lanes lanes2 spare lane it (Ok k) seen R others = adds_list slots lanes lanes2 spare lane k it seen R others
adds_ok slots lanes lanes2 spare lane it (Err x) seen R others = tt

pub adds_err : {T E : Type 0} (slots : List (Slot T)) (lanes lanes2 : Lanes) (spare lane : ℕ) (it : Contents T) (r : Result ℕ E) → seen_of slots lanes spare ≡ it → OnErr r (rows_in lanes2 lane ≡ rows_in lanes lane) →
    ((l : ℕ) → (l ≡ lane → ⊥) → rows_in lanes2 l ≡ rows_in lanes l) → OnErr r (seen_of slots lanes2 spare ≡ it)
adds_err slots lanes lanes2 spare lane it (Ok k) seen e others = tt
adds_err slots lanes lanes2 spare lane it (Err x) seen e others = rows_same slots lanes lanes2 spare (every_lane (rows_in lanes2) (rows_in lanes) lane e others) ∙ seen

-- there is room for one more list
pub room_for_list : {T : Type 0} (slots : List (Slot T)) (lanes : Lanes) (spare lane : ℕ) (it : Contents T) → seen_of slots lanes spare ≡ it → list_count it lane < 2 ^ 31 → used_cells (row_cells (rows_in lanes lane)) < 2 ^ 31
room_for_list {T} slots lanes spare lane it seen lt = subst (λ (n : ℕ). n < 2 ^ 31) (ap (λ (x : Contents T). list_count x lane) (sym seen) ∙ list_count_is slots lanes spare lane) lt

all_by_lane : {X : Type 0} (l : ℕ) (a b c d v : X) → a ≡ v → b ≡ v → c ≡ v → d ≡ v → by_lane l a b c d ≡ v
all_by_lane l a b c d v ea eb ec ed = elim (cases_Bool (eqb l 0)) [
  | inl p ↦ rw p ea
  | inr p ↦ elim (cases_Bool (eqb l 1)) [
    | inl q ↦ rw (p, q) eb
    | inr q ↦ elim (cases_Bool (eqb l 2)) [
      | inl r ↦ rw (p, q, r) ec
      | inr r ↦ rw (p, q, r) ed
    ]
  ]
]

no_free : AreFree [] None
no_free = record { run = refl; distinct = tt; all = λ s. refl }

no_lists_yet : (at : ℕ → Link) → ((s : ℕ) → (at s).list ≡ None) → AreLists at 0 []
no_lists_yet at h = record {
  each = λ k. tt;
  members = λ s k e. absurd (none-some k (sym (h s) ∙ e));
}

-- what a new store keeps
pub new_holds : {T : Type 0} (slots : List (Slot T)) (lanes : Lanes) → slots ≡ [] → lanes.first.rows.items ≡ [] → lanes.second.rows.items ≡ [] → lanes.third.rows.items ≡ [] → lanes.first.free ≡ None → lanes.second.free ≡ None → lanes.third.free ≡ None → Holds slots (rows_in lanes) (free_in lanes) None 0
new_holds {T} slots lanes es r0 r1 r2 f0 f1 f2 =
    let out : (l s : ℕ) → (link_in {T = T} [] l s).list ≡ None = λ l s. no_link_past {T = T} [] l s (omega arith) in
    subst (λ (xs : List (Slot T)). Holds xs (rows_in lanes) (free_in lanes) None 0) (sym es) (record {
      lists = λ l. subst (λ (rs : List Row). AreLists (link_in {T = T} [] l) 0 rs) (sym (all_by_lane l lanes.first.rows.items lanes.second.rows.items lanes.third.rows.items [] [] r0 r1 r2 refl)) (no_lists_yet (link_in {T = T} [] l) (out l));
      numbers = λ l. subst (λ (rs : List Row). AreFree (row_cells rs) (free_in lanes l)) (sym (all_by_lane l lanes.first.rows.items lanes.second.rows.items lanes.third.rows.items [] [] r0 r1 r2 refl))
          (subst (λ (h : Option ℕ). AreFree [] h) (sym (all_by_lane l lanes.first.free lanes.second.free lanes.third.free None None f0 f1 f2 refl)) no_free);
      slots_hold = record {
        frees = no_free;
        spares = refl;
        counted = refl;
        few = omega arith;
        apart = λ l s h. out l s;
      };
    })

-- what is seen of a new store
pub new_seen : {T : Type 0} (slots : List (Slot T)) (lanes : Lanes) → slots ≡ [] → lanes.first.rows.items ≡ [] → lanes.second.rows.items ≡ [] → lanes.third.rows.items ≡ [] → seen_of slots lanes 0 ≡ record { values = []; spare = 0; first = []; second = []; third = [] }
new_seen {T} slots lanes es r0 r1 r2 =
    let f : List (Slot T) → ℕ → List Row → List (Option (List ℕ)) = λ xs l rs. map (list_of (link_in xs l) (length xs)) rs in
    let made : List (Option T) → List (Option (List ℕ)) → List (Option (List ℕ)) → List (Option (List ℕ)) → Contents T = λ vs a b c. record { values = vs; spare = 0; first = a; second = b; third = c } in
    ap (λ (rs : List Row). made (values_of (places_of slots)) (f slots 0 rs) (f slots 1 lanes.second.rows.items) (f slots 2 lanes.third.rows.items)) r0
    ∙ ap (λ (rs : List Row). made (values_of (places_of slots)) [] (f slots 1 rs) (f slots 2 lanes.third.rows.items)) r1
    ∙ ap (λ (rs : List Row). made (values_of (places_of slots)) [] [] (f slots 2 rs)) r2
    ∙ ap (λ (xs : List (Slot T)). made (values_of (places_of xs)) [] [] []) es
