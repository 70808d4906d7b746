-- What a seat is between two calls.
use Rattle.std.specs.Prelude.{◌≡◌, ℕ, zero, suc, ◌+◌, ◌-◌, ◌%◌, ◌<◌, ◌≤◌, true, false, List, [], ◌∷◌, length, Some, None, slice_set}
use mathlib.Core.Option.{some}
use Rattle.cd_ring.specs.declared.view.Note.TheVariants.{Met}
use lib.ListN.{get_elem?}
use Rattle.cd_ring.specs.declared.view.Place.{Place}
use Rattle.cd_ring.specs.declared.view.Place.TheVariants.{Empty}
use Rattle.cd_ring.specs.declared.view.Note.TheVariants.{Home, Spare}
use Rattle.cd_ring.specs.declared.view.View.{View}
use Rattle.cd_ring.specs.Rule.{FREE, READY, TAKEN}
use Rattle.cd_ring.specs.Claims.{HasNoClaim, are_places_of}
use Rattle.cd_ring.specs.Kinds.{Seated, noted, stored, with_held, with_note}

-- k places of slots, from that of the number p on
abbrev pub spares : {J D : Type 0} → ℕ → ℕ → ℕ → List (ℕ × Place J D)
spares slots p zero = []
spares slots p (suc k) = (p % slots, Empty) ∷ spares slots (p + 1) k

module _ {T J D : Type 0} where
  -- the coordinator's seat: `next` is the slot of the oldest job, and `count` jobs are out
  pub record AtRest (slots next count : ℕ) (m : Seated T J D) : Type 0 where
    pub leads : m.0.known.leads ≡ true
    pub count_is : length m.0.known.out ≡ count
    pub next_is : next ≡ m.0.known.taken % slots
    pub some_slot : 0 < slots
    pub within : count ≤ slots
    pub held_long : length m.0.known.held ≡ slots
    pub looks_long : length m.0.looks ≡ slots + 1
    pub stores_long : length m.0.stores ≡ slots + 1
    pub notes_long : length m.0.known.notes ≡ slots
    pub no_claim : HasNoClaim m.0.known.held
    pub home : (k : ℕ) → k < count → get_elem? m.0.known.notes ((m.0.known.taken + k) % slots) ≡ some Home
    pub spare : (k : ℕ) → count ≤ k → k < slots → get_elem? m.0.known.notes ((m.0.known.taken + k) % slots) ≡ some Spare
    pub places : m.1 ≡ spares slots (m.0.known.taken + count) (slots - count)

  -- the slot of the next job is free, and its place is the coordinator's
  abbrev pub NextIs : ℕ → ℕ → View T J D → Type 0
  NextIs slots i v = (v.known.leads ≡ true) × (get_elem? v.known.notes i ≡ some Spare)
      × (i ≡ (v.known.taken + length v.known.out) % slots)
      × (length v.known.out < slots) × (i < slots)

  -- a worker's seat: its places are those of the slots that it holds
  pub record IsWorker (slots : ℕ) (m : Seated T J D) : Type 0 where
    pub follows : m.0.known.leads ≡ false
    pub held_long : length m.0.known.held ≡ slots
    pub looks_long : length m.0.looks ≡ slots + 1
    pub stores_long : length m.0.stores ≡ slots + 1
    pub places : are_places_of m.1 m.0.known.held ≡ true

  -- the slot was looked at, r was met, and nothing was stored
  abbrev pub Looked : Seated T J D → ℕ → ℕ → Seated T J D → Type 0
  Looked m i r n = (n.0.looks ≡ noted m.0.looks i r) × (n.0.stores ≡ m.0.stores)

  -- the slot was looked at and was not READY, and nothing else changed
  abbrev pub Missed : Seated T J D → ℕ → Seated T J D → Type 0
  Missed m i n = (n.0.known ≡ m.0.known) × (n.1 ≡ m.1) × ((r : ℕ) × (r ≡ READY → ⊥) × Looked m i r n)

  -- the slot i is held with the job x, and its empty place is out
  abbrev pub Lifted : Seated T J D → ℕ → J → Seated T J D → Type 0
  Lifted m i x n = (n.0.known ≡ with_held m.0.known i (Some x)) × (n.1 ≡ (i, Empty) ∷ m.1) × Looked m i READY n

  -- the same of a slot that was not held
  abbrev pub Gained : Seated T J D → ℕ → J → Seated T J D → Type 0
  Gained m i x n = (get_elem? m.0.known.held i ≡ some None) × Lifted m i x n

  -- the oldest job's slot was claimed, and the job lifted
  abbrev pub FoundJob : Seated T J D → ℕ → J → Seated T J D → Type 0
  FoundJob m i x n = (xs : List J) × (m.0.known.out ≡ x ∷ xs) × Lifted m i x n

  -- its place was met at DONE, and the result d taken out
  abbrev pub FoundResult : (J → D → Type 0) → Seated T J D → ℕ → D → Seated T J D → Type 0
  FoundResult meets m i d n = (x : J) × (xs : List J) × (m.0.known.out ≡ x ∷ xs) × meets x d
      × (n.0.known ≡ with_note m.0.known i (Met d)) × (n.1 ≡ (i, Empty) ∷ m.1)
      × ((r : ℕ) × Looked m i r n)

  -- it was met as TAKEN, and nothing else changed
  abbrev pub FoundBusy : Seated T J D → ℕ → Seated T J D → Type 0
  FoundBusy m i n = (n.0.known ≡ m.0.known) × (n.1 ≡ m.1) × Looked m i TAKEN n

  -- the oldest job x was taken with the result d
  pub record Took (meets : J → D → Type 0) (m : Seated T J D) (i : ℕ) (d : D) (n : Seated T J D) : Type 0 where
    pub x : J
    pub xs : List J
    pub out : m.0.known.out ≡ x ∷ xs
    pub met : meets x d
    pub leads : n.0.known.leads ≡ m.0.known.leads
    pub task : n.0.known.task ≡ m.0.known.task
    pub stopped : n.0.known.stopped ≡ m.0.known.stopped
    pub left : n.0.known.out ≡ xs
    pub taken : n.0.known.taken ≡ m.0.known.taken + 1
    pub held_long : length n.0.known.held ≡ length m.0.known.held
    pub no_claim : HasNoClaim m.0.known.held → HasNoClaim n.0.known.held
    pub notes : n.0.known.notes ≡ slice_set m.0.known.notes i Spare
    pub place : n.1 ≡ (i, Empty) ∷ m.1
    pub looks_long : length n.0.looks ≡ length m.0.looks
    pub stores : n.0.stores ≡ stored m.0.stores i FREE None
