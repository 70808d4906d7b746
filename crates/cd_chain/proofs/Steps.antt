-- What the calls that work on slots keep and show, over the slots and lanes before and after.
use Rattle.std.proofs.Common.{◌≡◌, ℕ, ◌<◌, ◌≤◌, ◌+◌, ◌-◌, ◌^◌, eqb, List, length, set, get_or, map, Option, Some, None, refl, ap, sym, ◌∙◌, subst, arith, inl, inr}
use Rattle.std.specs.Prelude.{IsSome, IfSome}
use Rattle.std.proofs.lemmas.Bool.{cases_lt, cases_Bool}
use Rattle.std.proofs.lemmas.Option.{none-some}
use Rattle.std.proofs.lemmas.List.{length-map, get_or_past}
use Rattle.cd_chain.specs.declared.link.Link.{Link}
use Rattle.cd_chain.specs.declared.link.Links.{Links}
use Rattle.cd_chain.specs.declared.slot.Slot.{Slot}
use Rattle.cd_chain.specs.declared.slot.Place.{Place}
use Rattle.cd_chain.specs.declared.slot.Place.TheVariants.{Used, Vacant}
use Rattle.cd_chain.specs.declared.lane.Row.{Row}
use Rattle.cd_chain.specs.declared.lane.Row.TheVariants.{There, Free}
use Rattle.cd_chain.specs.declared.lane.Lanes.{Lanes}
use Rattle.cd_chain.specs.Lanes.{no_links, lane_link, rows_in, free_in, row_at}
use Rattle.cd_chain.specs.Cells.{AreDistinct, cell_at, used_cells, place_cells}
use Rattle.cd_chain.specs.Chains.{walked_on, IsChain}
use Rattle.cd_chain.specs.Links.{link_in, places_of}
use Rattle.cd_chain.specs.Lists.{list_of, InList, IsThere, RowHolds, AreLists, Relinks}
use Rattle.cd_chain.specs.Contents.{Contents, values_of, value_at, used_slots, list_at, list_count, seen_of, StandsIn}
use Rattle.cd_chain.specs.Holds.{SlotsHold, Holds, MakesSpare}
use Rattle.cd_chain.specs.Calls.{ChangesLists, KeepsLists, KeepsValues, PutsValue, TakesValue}
use Rattle.cd_chain.proofs.Linking.{stays, walked, short}
use Rattle.cd_chain.proofs.Seeing.{list_is, list_count_is, places_used, linked, there_seen, changes_by}
use Rattle.cd_chain.proofs.Making.{cells_long}
use Rattle.cd_chain.proofs.Keeping.{slots_after, slots_filled, slots_emptied, relinked_holds, puts_value, takes_value, first_spare}
use Rattle.cd_chain.proofs.FreeNumbers.{free_within}

-- a slot that stands in a list is not free
listed_not_free : {T : Type 0} (slots : List (Slot T)) (lanes : Lanes) (spare seen_spare lane s : ℕ) (free : Option ℕ) (it : Contents T) → seen_of slots lanes seen_spare ≡ it → Holds slots (rows_in lanes) (free_in lanes) free spare → StandsIn it lane s → IsSome (cell_at (place_cells (places_of slots)) s) → ⊥
listed_not_free slots lanes spare seen_spare lane s free it seen H w h = none-some w.list (sym (H.slots_hold.apart lane s h) ∙ (linked slots lanes seen_spare lane s it seen H.lists w).list)

pub unlinks_holds : {T : Type 0} (slots slots2 : List (Slot T)) (lanes lanes2 : Lanes) (spare lane s : ℕ) (free : Option ℕ) (it : Contents T) (change : ℕ → ℕ → Option (List ℕ) → Option (List ℕ)) → seen_of slots lanes spare ≡ it → Holds slots (rows_in lanes) (free_in lanes) free spare → StandsIn it lane s →
    Relinks (link_in slots) (link_in slots2) (length slots) s (rows_in lanes) (rows_in lanes2) change → length slots2 ≡ length slots → places_of slots2 ≡ places_of slots → ((l : ℕ) → free_in lanes2 l ≡ free_in lanes l) → Holds slots2 (rows_in lanes2) (free_in lanes2) free spare
unlinks_holds slots slots2 lanes lanes2 spare lane s free it change seen H w R e p heads = relinked_holds slots slots2 lanes lanes2 free free spare spare s change H R e heads
    (slots_after (link_in slots) (link_in slots2) (places_of slots) (places_of slots2) free spare s H.slots_hold p (λ l t ne. (R l).others t ne) (listed_not_free slots lanes spare spare lane s free it seen H w))

-- the links after a write that changes no link
relinks_to : {T : Type 0} (slots slots1 slots2 : List (Slot T)) (n s : ℕ) (rows rows2 : ℕ → List Row) (change : ℕ → ℕ → Option (List ℕ) → Option (List ℕ)) → link_in slots2 ≡ link_in slots1 → Relinks (link_in slots) (link_in slots1) n s rows rows2 change → Relinks (link_in slots) (link_in slots2) n s rows rows2 change
relinks_to slots slots1 slots2 n s rows rows2 change e R = subst (λ (at : ℕ → ℕ → Link). Relinks (link_in slots) at n s rows rows2 change) (sym e) R

relinks_of : {T : Type 0} (slots slots1 slots2 : List (Slot T)) (s : ℕ) (rows rows2 : ℕ → List Row) (change : ℕ → ℕ → Option (List ℕ) → Option (List ℕ)) → link_in slots1 ≡ link_in slots → length slots1 ≡ length slots → Relinks (link_in slots1) (link_in slots2) (length slots1) s rows rows2 change → Relinks (link_in slots) (link_in slots2) (length slots) s rows rows2 change
relinks_of slots slots1 slots2 s rows rows2 change e n R = subst (λ (at : ℕ → ℕ → Link). Relinks at (link_in slots2) (length slots) s rows rows2 change) e (subst (λ (m : ℕ). Relinks (link_in slots1) (link_in slots2) m s rows rows2 change) n R)

pub removes_holds : {T : Type 0} (slots slots1 slots2 : List (Slot T)) (lanes lanes2 : Lanes) (spare s : ℕ) (free : Option ℕ) (it : Contents T) (change : ℕ → ℕ → Option (List ℕ) → Option (List ℕ)) → seen_of slots lanes spare ≡ it → Holds slots (rows_in lanes) (free_in lanes) free spare → IsSome (value_at it s) →
    Relinks (link_in slots) (link_in slots1) (length slots) s (rows_in lanes) (rows_in lanes2) change → ((l : ℕ) → (link_in slots1 l s).list ≡ None) → places_of slots1 ≡ places_of slots → ((l : ℕ) → free_in lanes2 l ≡ free_in lanes l) →
    length slots2 ≡ length slots → link_in slots2 ≡ link_in slots1 → places_of slots2 ≡ set (places_of slots1) s (Vacant free) → Holds slots2 (rows_in lanes2) (free_in lanes2) (Some s) (spare + 1)
removes_holds {T} slots slots1 slots2 lanes lanes2 spare s free it change seen H h R out p1 heads n e p2 =
    let R2 = relinks_to slots slots1 slots2 (length slots) s (rows_in lanes) (rows_in lanes2) change e R in
    relinked_holds slots slots2 lanes lanes2 free (Some s) spare (spare + 1) s change H R2 n heads
    (slots_emptied (link_in slots) (link_in slots2) (places_of slots) (places_of slots2) free spare s H.slots_hold (subst (λ (x : Contents T). IsSome (value_at x s)) (sym seen) h)
    (p2 ∙ ap (λ (ps : List (Place T)). set ps s (Vacant free)) p1) (λ l. ap (λ (at : ℕ → ℕ → Link). (at l s).list) e ∙ out l) (λ l t ne. (R2 l).others t ne))

pub removes_lists : {T : Type 0} (slots slots1 slots2 : List (Slot T)) (lanes lanes2 : Lanes) (spare spare2 s : ℕ) (it : Contents T) (change : ℕ → ℕ → Option (List ℕ) → Option (List ℕ)) → seen_of slots lanes spare ≡ it →
    Relinks (link_in slots) (link_in slots1) (length slots) s (rows_in lanes) (rows_in lanes2) change → length slots2 ≡ length slots → link_in slots2 ≡ link_in slots1 → ChangesLists it (seen_of slots2 lanes2 spare2) change
removes_lists slots slots1 slots2 lanes lanes2 spare spare2 s it change seen R n e = changes_by slots slots2 lanes lanes2 spare spare2 s it change seen n (relinks_to slots slots1 slots2 (length slots) s (rows_in lanes) (rows_in lanes2) change e R)

pub puts_holds : {T : Type 0} (slots slots1 slots2 : List (Slot T)) (lanes lanes2 : Lanes) (spare spare2 s : ℕ) (free next : Option ℕ) (value : T) (change : ℕ → ℕ → Option (List ℕ) → Option (List ℕ)) → Holds slots (rows_in lanes) (free_in lanes) free spare → free ≡ Some s → spare ≡ spare2 + 1 → cell_at (place_cells (places_of slots)) s ≡ Some next →
    length slots1 ≡ length slots → link_in slots1 ≡ link_in slots → places_of slots1 ≡ set (places_of slots) s (Used value) → Relinks (link_in slots1) (link_in slots2) (length slots1) s (rows_in lanes) (rows_in lanes2) change → length slots2 ≡ length slots1 → places_of slots2 ≡ places_of slots1 → ((l : ℕ) → free_in lanes2 l ≡ free_in lanes l) →
    Holds slots2 (rows_in lanes2) (free_in lanes2) next spare2
puts_holds slots slots1 slots2 lanes lanes2 spare spare2 s free next value change H ef es ec n1 e1 p1 R n2 p2 heads =
    let R2 = relinks_of slots slots1 slots2 s (rows_in lanes) (rows_in lanes2) change e1 n1 R in
    relinked_holds slots slots2 lanes lanes2 free next spare spare2 s change H R2 (n2 ∙ n1) heads
    (slots_filled (link_in slots) (link_in slots2) (places_of slots) (places_of slots2) free next spare spare2 s value H.slots_hold ef ec es (p2 ∙ p1) (λ l t ne. (R2 l).others t ne))

pub puts_lists : {T : Type 0} (slots slots1 slots2 : List (Slot T)) (lanes lanes2 : Lanes) (spare spare2 s : ℕ) (it : Contents T) (change : ℕ → ℕ → Option (List ℕ) → Option (List ℕ)) → seen_of slots lanes spare ≡ it → length slots1 ≡ length slots → link_in slots1 ≡ link_in slots →
    Relinks (link_in slots1) (link_in slots2) (length slots1) s (rows_in lanes) (rows_in lanes2) change → length slots2 ≡ length slots1 → ChangesLists it (seen_of slots2 lanes2 spare2) change
puts_lists slots slots1 slots2 lanes lanes2 spare spare2 s it change seen n1 e1 R n2 = changes_by slots slots2 lanes lanes2 spare spare2 s it change seen (n2 ∙ n1) (relinks_of slots slots1 slots2 s (rows_in lanes) (rows_in lanes2) change e1 n1 R)

-- the lists of a lane, where slots are made
record RowGrows (at : ℕ → Link) (n n2 k : ℕ) (r : Row) : Type 0 where
  holds : RowHolds at n2 k r
  list : list_of at n2 r ≡ list_of at n r

row_grows : (at : ℕ → Link) (n n2 k : ℕ) (r : Row) → n ≤ n2 → RowHolds at n k r → RowGrows at n n2 k r
row_grows at n n2 k (Free next) le h = record { holds = tt; list = refl }
row_grows at n n2 k (There e) le h =
    let slots : List ℕ = walked_on at n e.first in
    let c = stays at at n n2 k None slots e.first e.first e.last le (λ t i. refl) refl h.1 in
    let w : walked_on at n2 e.first ≡ slots = walked _ n2 k None _ _ _ n2 (short _ n2 k None _ _ _ h.0 c) c in
    record {
      holds = (subst AreDistinct (sym w) h.0, subst (λ (xs : List ℕ). IsChain at n2 k None xs e.first e.last) (sym w) c);
      list = ap (λ (xs : List ℕ). Some xs) w;
    }

lists_grow : (at : ℕ → Link) (n n2 : ℕ) (rows : List Row) → n ≤ n2 → AreLists at n rows → AreLists at n2 rows
lists_grow at n n2 rows le A = record {
  each = λ k. (row_grows at n n2 k (row_at rows k) le (A.each k)).holds;
  members = λ s k e. subst (λ (o : Option (List ℕ)). InList o s) (sym (row_grows at n n2 k (row_at rows k) le (A.each k)).list) (A.members s k e);
}

no_lane_link : (l : ℕ) → (lane_link no_links l).list ≡ None
no_lane_link l = elim (cases_Bool (eqb l 0)) [
  | inl a ↦ rw a refl
  | inr a ↦ elim (cases_Bool (eqb l 1)) [
    | inl b ↦ rw (a, b) refl
    | inr b ↦ elim (cases_Bool (eqb l 2)) [
      | inl c ↦ rw (a, b, c) refl
      | inr c ↦ rw (a, b, c) refl
    ]
  ]
]

pub no_link_past : {T : Type 0} (slots : List (Slot T)) (l s : ℕ) → length slots ≤ s → (link_in slots l s).list ≡ None
no_link_past {T} slots l s le =
    ap (λ (x : Links). (lane_link x l).list) (get_or_past (map (λ (x : Slot T). x.links) slots) s no_links (rw length-map le)) ∙ no_lane_link l

pub reserves_holds : {T : Type 0} (slots slots2 : List (Slot T)) (lanes : Lanes) (spare spare2 m : ℕ) (free free2 : Option ℕ) → Holds slots (rows_in lanes) (free_in lanes) free spare → MakesSpare slots slots2 free free2 m → length slots + m < 2 ^ 31 → spare2 ≡ spare + m → Holds slots2 (rows_in lanes) (free_in lanes) free2 spare2
reserves_holds {T} slots slots2 lanes spare spare2 m free free2 H M few es =
    let S = H.slots_hold in
    let long : length slots2 ≡ length slots + m = M.long in
    let places2 : length (places_of slots2) ≡ length slots2 = length-map slots2 (λ (x : Slot T). x.place) in
    let places : length (places_of slots) ≡ length slots = length-map slots (λ (x : Slot T). x.place) in
    let counted : used_cells (place_cells (places_of slots)) + spare ≡ length (places_of slots) = S.counted in
    let used : used_cells (place_cells (places_of slots2)) ≡ used_cells (place_cells (places_of slots)) = M.used in
    record {
      lists = λ l. subst (λ (at : ℕ → ℕ → Link). AreLists (at l) (length slots2) (rows_in lanes l)) (sym M.links) (lists_grow (link_in slots l) (length slots) (length slots2) (rows_in lanes l) (omega arith) (H.lists l));
      numbers = H.numbers;
      slots_hold = record {
        frees = M.frees;
        spares = M.spares ∙ ap (λ (n : ℕ). n + m) S.spares ∙ sym es;
        counted = omega arith;
        few = omega arith;
        apart = λ l s h. ap (λ (at : ℕ → ℕ → Link). (at l s).list) M.links ∙ elim (cases_lt s (length slots)) [
          | inl lt ↦ S.apart l s (subst (λ (o : Option (Option ℕ)). IsSome o) (M.kept s lt) h)
          | inr le ↦ no_link_past slots l s le
        ];
      };
    }

pub reserves_lists : {T : Type 0} (slots slots2 : List (Slot T)) (lanes : Lanes) (spare spare2 m : ℕ) (free free2 : Option ℕ) (it : Contents T) → seen_of slots lanes spare ≡ it → Holds slots (rows_in lanes) (free_in lanes) free spare → MakesSpare slots slots2 free free2 m → KeepsLists it (seen_of slots2 lanes spare2)
reserves_lists {T} slots slots2 lanes spare spare2 m free free2 it seen H M =
    let long : length slots2 ≡ length slots + m = M.long in
    record {
      lists = λ l k. list_is slots2 lanes spare2 l k ∙ ap (λ (at : ℕ → ℕ → Link). list_of (at l) (length slots2) (row_at (rows_in lanes l) k)) M.links
          ∙ (row_grows (link_in slots l) (length slots) (length slots2) k (row_at (rows_in lanes l) k) (omega arith) ((H.lists l).each k)).list
          ∙ sym (list_is slots lanes spare l k) ∙ ap (λ (x : Contents T). list_at x l k) seen;
      counts = λ l. list_count_is slots2 lanes spare2 l ∙ sym (list_count_is slots lanes spare l) ∙ ap (λ (x : Contents T). list_count x l) seen;
    }

pub reserves_values : {T : Type 0} (slots slots2 : List (Slot T)) (lanes : Lanes) (spare spare2 m : ℕ) (free free2 : Option ℕ) (it : Contents T) → seen_of slots lanes spare ≡ it → MakesSpare slots slots2 free free2 m → KeepsValues it (seen_of slots2 lanes spare2)
reserves_values {T} slots slots2 lanes spare spare2 m free free2 it seen M = record {
  values = λ s. M.values s ∙ ap (λ (x : Contents T). value_at x s) seen;
  used = places_used (places_of slots2) ∙ M.used ∙ sym (places_used (places_of slots)) ∙ ap (λ (x : Contents T). used_slots x) seen;
}

-- there is room for the slots that are missing
pub missing_few : {T : Type 0} (slots : List (Slot T)) (lanes : Lanes) (spare seen_spare count : ℕ) (free : Option ℕ) (it : Contents T) → seen_of slots lanes seen_spare ≡ it → Holds slots (rows_in lanes) (free_in lanes) free spare → used_slots it + count < 2 ^ 31 → length slots + (count - spare) < 2 ^ 31
missing_few {T} slots lanes spare seen_spare count free it seen H lt =
    let S = H.slots_hold in
    let used : used_slots it ≡ used_cells (place_cells (places_of slots)) = ap (λ (x : Contents T). used_slots x) (sym seen) ∙ places_used (places_of slots) in
    let counted : used_cells (place_cells (places_of slots)) + spare ≡ length (places_of slots) = S.counted in
    let few : length (places_of slots) < 2 ^ 31 = S.few in
    let places : length (places_of slots) ≡ length slots = length-map slots (λ (x : Slot T). x.place) in
    omega arith

pub removes_values : {T : Type 0} (slots slots1 slots2 : List (Slot T)) (lanes lanes2 : Lanes) (spare spare2 s : ℕ) (free : Option ℕ) (value : T) (it : Contents T) → seen_of slots lanes spare ≡ it → places_of slots1 ≡ places_of slots →
    get_or (values_of (places_of slots1)) s None ≡ Some value → places_of slots2 ≡ set (places_of slots1) s (Vacant free) → TakesValue it (seen_of slots2 lanes2 spare2) s value
removes_values {T} slots slots1 slots2 lanes lanes2 spare spare2 s free value it seen p1 v p2 = takes_value slots slots2 lanes lanes2 spare spare2 s free value it seen
    (ap (λ (ps : List (Place T)). get_or (values_of ps) s None) (sym p1) ∙ v) (p2 ∙ ap (λ (ps : List (Place T)). set ps s (Vacant free)) p1)

pub puts_values : {T : Type 0} (slots slots1 slots2 : List (Slot T)) (lanes lanes2 : Lanes) (spare spare2 s : ℕ) (next : Option ℕ) (value : T) (it : Contents T) → seen_of slots lanes spare ≡ it → cell_at (place_cells (places_of slots)) s ≡ Some next → s < length slots →
    places_of slots1 ≡ set (places_of slots) s (Used value) → places_of slots2 ≡ places_of slots1 → PutsValue it (seen_of slots2 lanes2 spare2) s value
puts_values {T} slots slots1 slots2 lanes lanes2 spare spare2 s next value it seen ec lt p1 p2 = puts_value slots slots2 lanes lanes2 spare spare2 s next value it seen ec (rw length-map lt) (p2 ∙ p1)

-- the spare slot that is used next is one
pub spare_within : {T : Type 0} (slots : List (Slot T)) (at : ℕ → ℕ → Link) (free : Option ℕ) (spare s : ℕ) → SlotsHold at (places_of slots) free spare → free ≡ Some s → s < length slots
spare_within slots at free spare s H e =
    let lt : s < length (place_cells (places_of slots)) = free_within (place_cells (places_of slots)) s (first_spare at (places_of slots) free spare s H e) in
    rw cells_long at lt

-- it stands in no list, and its lanes are as they were
pub spare_apart : {T : Type 0} (slots slots1 : List (Slot T)) (free : Option ℕ) (spare s : ℕ) → SlotsHold (link_in slots) (places_of slots) free spare → free ≡ Some s → link_in slots1 ≡ link_in slots → (l : ℕ) → (link_in slots1 l s).list ≡ None
spare_apart slots slots1 free spare s H e e1 l = ap (λ (at : ℕ → ℕ → Link). (at l s).list) e1 ∙ H.apart l s (first_spare (link_in slots) (places_of slots) free spare s H e)

pub filled_lists : {T : Type 0} (slots slots1 : List (Slot T)) (rows : ℕ → List Row) → length slots1 ≡ length slots → link_in slots1 ≡ link_in slots → ((l : ℕ) → AreLists (link_in slots l) (length slots) (rows l)) → (l : ℕ) → AreLists (link_in slots1 l) (length slots1) (rows l)
filled_lists slots slots1 rows n e A l = subst (λ (at : ℕ → ℕ → Link). AreLists (at l) (length slots1) (rows l)) (sym e) (subst (λ (m : ℕ). AreLists (link_in slots l) m (rows l)) (sym n) (A l))

some_there : {T : Type 0} (slots : List (Slot T)) (lanes : Lanes) (spare l : ℕ) (it : Contents T) (o : Option ℕ) → seen_of slots lanes spare ≡ it → IfSome o (λ k. IsSome (list_at it l k)) → IfSome o (λ k. IsThere (row_at (rows_in lanes l) k))
some_there slots lanes spare l it None seen h = tt
some_there slots lanes spare l it (Some k) seen h = there_seen slots lanes spare l k it seen h

pub lists_there : {T : Type 0} (slots : List (Slot T)) (lanes : Lanes) (spare : ℕ) (it : Contents T) (lists : List (Option ℕ)) → seen_of slots lanes spare ≡ it → ((l : ℕ) → l < 3 → IfSome (get_or lists l None) (λ k. IsSome (list_at it l k))) → (l : ℕ) → l < 3 → IfSome (get_or lists l None) (λ k. IsThere (row_at (rows_in lanes l) k))
lists_there slots lanes spare it lists seen h l lt = some_there slots lanes spare l it (get_or lists l None) seen (h l lt)
