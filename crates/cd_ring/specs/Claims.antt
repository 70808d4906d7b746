-- The places that a worker's seat has: those of the slots that it holds.
use Rattle.std.specs.Prelude.{◌≡◌, ℕ, Bool, true, false, ◌&&◌, List, [], ◌∷◌, Option, Some, None, slice_set}
use mathlib.Core.Option.{none, some}
use mathlib.Core.Option as maybe
use lib.ListN.{get_elem?}
use Rattle.cd_ring.specs.declared.view.Place.{Place}
use Rattle.cd_ring.specs.declared.view.Place.TheVariants.{Empty, Job, Result}

-- no slot is held
abbrev pub HasNoClaim : {J : Type 0} → List (Option J) → Type 0
HasNoClaim {J} held = (i : ℕ) (x : J) → get_elem? held i ≡ some (Some x) → ⊥

-- no slot is held, as a test
abbrev pub holds_none : {J : Type 0} → List (Option J) → Bool
holds_none [] = true
holds_none (None ∷ held) = holds_none held
holds_none (Some x ∷ held) = false

-- whether a place is empty
abbrev pub is_empty : {J D : Type 0} → Place J D → Bool
is_empty Empty = true
is_empty (Job x) = false
is_empty (Result d) = false

-- whether a slot is held, of what a list of claims says of it
abbrev pub is_held : {J : Type 0} → maybe.Option (Option J) → Bool
is_held none = false
is_held (some None) = false
is_held (some (Some x)) = true

-- whether these are the places of the slots held: each is empty, and each slot held has one
abbrev pub are_places_of : {J D : Type 0} → List (ℕ × Place J D) → List (Option J) → Bool
are_places_of [] held = holds_none held
are_places_of (p ∷ places) held = is_empty p.1
    && (is_held (get_elem? held p.0) && are_places_of places (slice_set held p.0 None))
