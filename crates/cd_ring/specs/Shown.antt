-- What the rule says, by the words: what each word of a slot tells of its place and of the views.
use Rattle.std.specs.Prelude.{◌≡◌, ◌≢◌, ℕ, ◌+◌, ◌%◌, ◌<◌, ◌⊎◌, ◌↔◌, true, List, drop, length, slice_index_or}
use mathlib.Core.Option.{none, some}
use lib.ListN.{get_elem?}
use Rattle.cd_ring.specs.declared.view.Place.TheVariants.{Empty, Job, Result}
use Rattle.cd_ring.specs.declared.view.Note.TheVariants.{Home, Spare, Met}
use Rattle.cd_ring.specs.declared.view.Known.{Known}
use Rattle.cd_ring.specs.Core.{Phase, Core, Ordered}
use Rattle.cd_ring.specs.Rule.{FREE, READY, TAKEN, DONE, Homes, Holds, Shows}

module _ {T J D : Type 0} (meets : J → D → Type 0) (slots : ℕ) where
  -- the coordinator's view has the job x out in the slot i
  abbrev pub OutIn : Known T J D → ℕ → J → Type 0
  OutIn v i x = (k : ℕ) × (get_elem? v.out k ≡ some x) × ((v.taken + k) % slots ≡ i)

  -- the seat holds the slot i with the job x, and no other seat holds it
  abbrev pub AloneHolds : List (Known T J D) → ℕ → J → ℕ → Type 0
  AloneHolds all i x seat = ((v : Known T J D) × (get_elem? all seat ≡ some v) × Holds v i x)
      × ((j : ℕ) (v : Known T J D) (y : J) → get_elem? all j ≡ some v → Holds v i y → j ≡ seat)

  -- what the word of the slot i tells, with the coordinator's view
  pub record WordTells (words : List ℕ) (homes : Homes J D) (all : List (Known T J D)) (coordinator : Known T J D)
      (i : ℕ) : Type 0 where
    pub is_one : (slice_index_or words i 0 ≡ FREE) ⊎ (slice_index_or words i 0 ≡ READY)
        ⊎ (slice_index_or words i 0 ≡ TAKEN) ⊎ (slice_index_or words i 0 ≡ DONE)
    -- at most one job is out in the slot: 'that job' below
    pub one_job : (x y : J) → OutIn coordinator i x → OutIn coordinator i y → x ≡ y
    -- no job is out in the slot; the place is the coordinator's, or it is at home and empty and is noted so
    pub at_free : slice_index_or words i 0 ≡ FREE → ((x : J) → OutIn coordinator i x → ⊥)
        × (((get_elem? coordinator.notes i ≡ some Home) × (get_elem? homes i ≡ some (some Empty)))
        ⊎ ((get_elem? coordinator.notes i ≡ some Spare) × (get_elem? homes i ≡ some none)))
    -- the place is at home and holds that job
    pub at_ready : slice_index_or words i 0 ≡ READY → (x : J) × OutIn coordinator i x
        × (get_elem? homes i ≡ some (some (Job x)))
    -- exactly one view holds the slot, with that job
    pub at_taken : slice_index_or words i 0 ≡ TAKEN → (x : J) × OutIn coordinator i x × ((seat : ℕ) × AloneHolds all i x seat)
    -- the place is at home and holds a result of that job, or the coordinator met DONE and has the place
    pub at_done : slice_index_or words i 0 ≡ DONE → (x : J) × (d : D) × OutIn coordinator i x × meets x d
        × (((get_elem? coordinator.notes i ≡ some Home) × (get_elem? homes i ≡ some (some (Result d))))
        ⊎ ((get_elem? coordinator.notes i ≡ some (Met d)) × (get_elem? homes i ≡ some none)))
    -- where the word is not TAKEN, no view holds the slot
    pub unheld : slice_index_or words i 0 ≢ TAKEN → (j : ℕ) (v : Known T J D) (x : J) → get_elem? all j ≡ some v
        → Holds v i x → ⊥

  -- each word tells this, and an ordered core is shown, whose jobs out the coordinator's view has
  pub record ShowsOrdered (words : List ℕ) (homes : Homes J D) (all : List (Known T J D)) : Type 0 where
    pub core : Core J D
    pub lead : ℕ
    pub coordinator : Known T J D
    pub ordered : Ordered meets slots lead core
    pub seated : get_elem? all lead ≡ some coordinator
    pub out : coordinator.out ≡ drop (length core.results) core.posted
    pub shown : (i : ℕ) (f : Phase D) → get_elem? core.phases i ≡ some f
        → Shows words homes coordinator.notes all core.posted i f
    pub tells : (i : ℕ) → i < slots → WordTells words homes all coordinator i
    -- the stop word is set exactly where the coordinator's view says so
    pub stop : (slice_index_or words slots 0 ≡ 1) ↔ (coordinator.stopped ≡ true)
