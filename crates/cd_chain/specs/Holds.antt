-- What a store keeps.
use Rattle.std.specs.Prelude.{◌≡◌, ℕ, ◌+◌, ◌^◌, ◌<◌, List, length, Option, None, IsSome, slice_index_or}
use Rattle.cd_chain.specs.declared.link.Link.{Link}
use Rattle.cd_chain.specs.declared.lane.Row.{Row}
use Rattle.cd_chain.specs.declared.slot.Slot.{Slot}
use Rattle.cd_chain.specs.declared.slot.Place.{Place}
use Rattle.cd_chain.specs.Cells.{cell_at, free_from, AreFree, used_cells, row_cells, place_cells}
use Rattle.cd_chain.specs.Links.{link_in, places_of}
use Rattle.cd_chain.specs.Contents.{values_of}
use Rattle.cd_chain.specs.Lists.{AreLists}

-- what the slots keep apart from their lists: how they are linked, and what is in each place
pub record SlotsHold {T : Type 0} (at : ℕ → ℕ → Link) (places : List (Place T)) (free : Option ℕ) (spare : ℕ)
    : Type 0 where
  -- the free list holds the slots that are not used
  pub frees : AreFree (place_cells places) free
  pub spares : length (free_from (place_cells places) free) ≡ spare
  pub counted : used_cells (place_cells places) + spare ≡ length places
  pub few : length places < 2 ^ 31
  -- a slot that is free stands in no list
  pub apart : (l s : ℕ) → IsSome (cell_at (place_cells places) s) → (at l s).list ≡ None

-- What a store keeps: each list, walked by its links forwards and backwards, is its list of slots, and the free lists
-- of slots and of the numbers of lists hold the others.
pub record Holds {T : Type 0} (slots : List (Slot T)) (rows : ℕ → List Row) (heads : ℕ → Option ℕ) (free : Option ℕ)
    (spare : ℕ) : Type 0 where
  pub lists : (l : ℕ) → AreLists (link_in slots l) (length slots) (rows l)
  pub numbers : (l : ℕ) → AreFree (row_cells (rows l)) (heads l)
  pub slots_hold : SlotsHold (link_in slots) (places_of slots) free spare

-- slots that are made, `count` of them, all free and before the others in the free list
pub record MakesSpare {T : Type 0} (slots slots' : List (Slot T)) (free free' : Option ℕ) (count : ℕ) : Type 0 where
  pub long : length slots' ≡ length slots + count
  pub links : link_in slots' ≡ link_in slots
  pub values : (s : ℕ) →
      slice_index_or (values_of (places_of slots')) s None ≡ slice_index_or (values_of (places_of slots)) s None
  pub frees : AreFree (place_cells (places_of slots')) free'
  pub spares :
      length (free_from (place_cells (places_of slots')) free') ≡
      length (free_from (place_cells (places_of slots)) free) + count
  pub used : used_cells (place_cells (places_of slots')) ≡ used_cells (place_cells (places_of slots))
  pub kept : (s : ℕ) → s < length slots →
      cell_at (place_cells (places_of slots')) s ≡ cell_at (place_cells (places_of slots)) s
