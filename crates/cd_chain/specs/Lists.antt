-- The lists of a lane, as contracts see them, and what the store keeps of them.
use Rattle.std.specs.Prelude.{◌≡◌, ℕ, ◌+◌, true, if◌then◌else◌, eqb, List, [], ◌∷◌, ◌++◌, Option, Some, None}
use Rattle.cd_chain.specs.declared.link.Link.{Link}
use Rattle.cd_chain.specs.declared.lane.Ends.{Ends}
use Rattle.cd_chain.specs.declared.lane.Row.{Row}
use Rattle.cd_chain.specs.declared.lane.Row.TheVariants.{There, Free}
use Rattle.cd_chain.specs.Lanes.{row_at}
use Rattle.cd_chain.specs.Cells.{is_in, AreDistinct, AreFree, used_cells, row_cells}
use Rattle.cd_chain.specs.Chains.{without, IsChain, walked_on, or_else}
use Rattle.cd_chain.specs.Links.{first_past}

-- the slots of the list under a number, met from the first one on, each after the one before; None where none is there
abbrev pub list_of : (ℕ → Link) → ℕ → Row → Option (List ℕ)
list_of at n (There e) = Some (walked_on at n e.first)
list_of at n (Free next) = None

-- a list is there, and the slot stands in it
abbrev pub InList : Option (List ℕ) → ℕ → Type 0
InList None s = ⊥
InList (Some slots) s = is_in s slots ≡ true

-- a list is there under the number
abbrev pub IsThere : Row → Type 0
IsThere (There ends) = Unit {0}
IsThere (Free next) = ⊥

-- walked forwards and backwards, a list is its slots, of which none stands twice
abbrev pub RowHolds : (ℕ → Link) → ℕ → ℕ → Row → Type 0
RowHolds at n k (There e) =
    AreDistinct (walked_on at n e.first) × IsChain at n k None (walked_on at n e.first) e.first e.last
RowHolds at n k (Free next) = Unit {0}

-- what a lane keeps of n slots that are linked as `at` says, and of what stands under its numbers
pub record AreLists (at : ℕ → Link) (n : ℕ) (rows : List Row) : Type 0 where
  pub each : (k : ℕ) → RowHolds at n k (row_at rows k)
  -- a slot stands in the list that its link names
  pub members : (s k : ℕ) → (at s).list ≡ Some k → InList (list_of at n (row_at rows k)) s

-- the list, without the slot
abbrev pub gone_from : ℕ → Option (List ℕ) → Option (List ℕ)
gone_from s None = None
gone_from s (Some slots) = Some (without s slots)

-- the ends of the list of a slot when the slot goes
abbrev pub ends_past : Ends → Link → Ends
ends_past e x =
    record { first = first_past e.first x.before x.after; last = first_past e.last x.after x.before }

-- the ends of a list that a slot comes last in
abbrev pub ends_with : Ends → ℕ → Ends
ends_with e s = record { first = or_else s e.first; last = Some s }

-- the list under the number j, with the slot put last where that is k
abbrev pub put_in : ℕ → ℕ → ℕ → Option (List ℕ) → Option (List ℕ)
put_in k s j None = None
put_in k s j (Some slots) = Some (if eqb j k then slots ++ s ∷ [] else slots)

-- the same, where a list is named at all
abbrev pub put_last_in : Option ℕ → ℕ → ℕ → Option (List ℕ) → Option (List ℕ)
put_last_in None s j o = o
put_last_in (Some k) s j o = put_in k s j o

-- The links and rows of a lane, when slot s is put into a list or taken out of one: the list under the number j becomes
-- `change j` of what it was.
pub record Relinked (at at' : ℕ → Link) (n s : ℕ) (rows rows' : List Row)
    (change : ℕ → Option (List ℕ) → Option (List ℕ)) : Type 0 where
  pub lists : AreLists at' n rows'
  pub changed : (j : ℕ) → list_of at' n (row_at rows' j) ≡ change j (list_of at n (row_at rows j))
  pub numbers : row_cells rows' ≡ row_cells rows
  pub others : (t : ℕ) → (t ≡ s → ⊥) → (at' t).list ≡ (at t).list

-- the same of all lanes
abbrev pub Relinks : (ℕ → ℕ → Link) → (ℕ → ℕ → Link) → ℕ → ℕ → (ℕ → List Row) → (ℕ → List Row) →
    (ℕ → ℕ → Option (List ℕ) → Option (List ℕ)) → Type 0
Relinks at at' n s rows rows' change = (l : ℕ) → Relinked (at l) (at' l) n s (rows l) (rows' l) (change l)

-- the change of one lane alone
abbrev pub in_lane : ℕ → (ℕ → Option (List ℕ) → Option (List ℕ)) → ℕ → ℕ → Option (List ℕ) → Option (List ℕ)
in_lane lane change l j o = if eqb l lane then change j o else o

-- a list without slots
abbrev pub no_ends : Ends
no_ends = record { first = None; last = None }

-- a list without slots is there under a number that was free, and the free numbers are met from this one on now
pub record AddsRow (rows rows' : List Row) (head : Option ℕ) (k : ℕ) : Type 0 where
  pub was : IsThere (row_at rows k) → ⊥
  pub there : row_at rows' k ≡ There no_ends
  pub kept : (j : ℕ) → (j ≡ k → ⊥) → row_at rows' j ≡ row_at rows j
  pub frees : AreFree (row_cells rows') head
  pub used : used_cells (row_cells rows') ≡ used_cells (row_cells rows) + 1

-- the number is free, and the free numbers are met from it on
pub record DropsRow (rows rows' : List Row) (k : ℕ) : Type 0 where
  pub gone : IsThere (row_at rows' k) → ⊥
  pub kept : (j : ℕ) → (j ≡ k → ⊥) → row_at rows' j ≡ row_at rows j
  pub frees : AreFree (row_cells rows') (Some k)
  pub used : used_cells (row_cells rows') + 1 ≡ used_cells (row_cells rows)
