-- Free numbers, each of which leads on to the next one.
use Rattle.std.specs.Prelude.{◌≡◌, ℕ, zero, suc, Bool, false, List, [], ◌∷◌, length, map, Option, Some, None, is_some, slice_index_or, not, count_by, eqb}
use Rattle.std.specs.List.{list_any}
use Rattle.cd_chain.specs.declared.lane.Row.{Row}
use Rattle.cd_chain.specs.declared.lane.Row.TheVariants.{There, Free}
use Rattle.cd_chain.specs.declared.slot.Place.{Place}
use Rattle.cd_chain.specs.declared.slot.Place.TheVariants.{Used, Vacant}

-- whether this number is among these
abbrev pub is_in : ℕ → List ℕ → Bool
is_in s slots = list_any (eqb s) slots

-- no number stands twice
abbrev pub AreDistinct : List ℕ → Type 0
AreDistinct [] = Unit {0}
AreDistinct (s ∷ ss) = (is_in s ss ≡ false) × AreDistinct ss

-- at most this many numbers from this one on, each the next of the one before
abbrev pub walk : (ℕ → Option ℕ) → ℕ → Option ℕ → List ℕ
walk next zero o = []
walk next (suc n) None = []
walk next (suc n) (Some s) = s ∷ walk next n (next s)

-- these numbers stand from this one on, each the next of the one before, and nothing comes after the last
abbrev pub IsRun : (ℕ → Option ℕ) → Option ℕ → List ℕ → Type 0
IsRun next o [] = o ≡ None
IsRun next o (s ∷ ss) = (o ≡ Some s) × IsRun next (next s) ss

-- the free number that a free cell leads on to
abbrev pub lead_of : Option (Option ℕ) → Option ℕ
lead_of None = None
lead_of (Some next) = next

-- under each number None where it is in use, and else the free number that it leads on to
abbrev pub cell_at : List (Option (Option ℕ)) → ℕ → Option (Option ℕ)
cell_at cells s = slice_index_or cells s None

-- the free number that a number leads on to
abbrev pub next_in : List (Option (Option ℕ)) → ℕ → Option ℕ
next_in cells s = lead_of (cell_at cells s)

-- the free numbers, from the first one on
abbrev pub free_from : List (Option (Option ℕ)) → Option ℕ → List ℕ
free_from cells head = walk (next_in cells) (length cells) head

-- these are the free numbers, each once and in turn, from the first one on
pub record IsFreeRun (cells : List (Option (Option ℕ))) (head : Option ℕ) (frees : List ℕ) : Type 0 where
  pub run : IsRun (next_in cells) head frees
  pub distinct : AreDistinct frees
  pub all : (s : ℕ) → is_in s frees ≡ is_some (cell_at cells s)

-- from the first one on the free numbers are met, each once
abbrev pub AreFree : List (Option (Option ℕ)) → Option ℕ → Type 0
AreFree cells head = IsFreeRun cells head (free_from cells head)

-- how many are in use
abbrev pub used_cells : List (Option (Option ℕ)) → ℕ
used_cells cells = count_by (λ (c : Option (Option ℕ)). not (is_some c)) cells

-- what a number of a list says of whether it is free
abbrev pub row_cell : Row → Option (Option ℕ)
row_cell (There ends) = None
row_cell (Free next) = Some next

-- the cells of the numbers of a lane
abbrev pub row_cells : List Row → List (Option (Option ℕ))
row_cells rows = map row_cell rows

-- what a slot says of whether it is free
abbrev pub place_cell : {T : Type 0} → Place T → Option (Option ℕ)
place_cell (Used value) = None
place_cell (Vacant next) = Some next

-- the cells of slots
abbrev pub place_cells : {T : Type 0} → List (Place T) → List (Option (Option ℕ))
place_cells {T} places = map (λ (p : Place T). place_cell p) places
