-- The rule of the running ring. Between any two steps its words, places and views show a state of the core.
-- Word i is that of slot i, and the word after the last slot's is the stop word.
use Rattle.std.specs.Prelude.{◌≡◌, ℕ, ◌+◌, ◌<◌, ◌⊎◌, ◌↔◌, true, List, map, length, drop, Some, slice_index_or}
use mathlib.Core.Option.{none, some}
use mathlib.Core.Option as maybe
use lib.ListN.{get_elem?}
use Rattle.atomic_table.specs.Table.{State}
use Rattle.cd_ring.specs.declared.view.Place.{Place}
use Rattle.cd_ring.specs.declared.view.Place.TheVariants.{Empty, Job, Result}
use Rattle.cd_ring.specs.declared.view.Note.{Note}
use Rattle.cd_ring.specs.declared.view.Note.TheVariants.{Home, Spare, Met}
use Rattle.cd_ring.specs.declared.view.Known.{Known}
use Rattle.cd_ring.specs.declared.view.View.{View}
use Rattle.cd_ring.specs.Core.{Phase, free, ready, taken, done, Core, Event, After}

abbrev pub known : {T J D : Type 0} → View T J D → Known T J D
known v = v.known

-- the word of a slot in which no job stands
abbrev pub FREE : ℕ
FREE = 0

-- the word of a slot whose job waits for whoever is free
abbrev pub READY : ℕ
READY = 1

-- the word of a slot whose job a seat has claimed
abbrev pub TAKEN : ℕ
TAKEN = 2

-- the word of a slot whose job has a result
abbrev pub DONE : ℕ
DONE = 3

-- of each place what it holds while it is at home
abbrev pub Homes : Type 0 → Type 0 → Type 0
Homes J D = List (maybe.Option (Place J D))

module _ {T J D : Type 0} where
  -- the view holds the slot i with the job x
  abbrev pub Holds : Known T J D → ℕ → J → Type 0
  Holds v i x = get_elem? v.held i ≡ some (Some x)

  -- some view, and by the rule only that, holds the slot with the job p
  abbrev pub HeldBy : List (Known T J D) → List J → ℕ → ℕ → ℕ → Type 0
  HeldBy all posted i p seat = (v : Known T J D) × (x : J) × (get_elem? all seat ≡ some v) × Holds v i x
      × (get_elem? posted p ≡ some x)

  -- what the word and the place of slot i are in a phase, with the coordinator's notes
  abbrev pub Shows : List ℕ → Homes J D → List (Note D) → List (Known T J D) → List J → ℕ → Phase D → Type 0
  Shows words homes notes all posted i free = (slice_index_or words i 0 ≡ FREE)
      × (((get_elem? notes i ≡ some Home) × (get_elem? homes i ≡ some (some Empty)))
      ⊎ ((get_elem? notes i ≡ some Spare) × (get_elem? homes i ≡ some none)))
  Shows words homes notes all posted i (ready p) = (slice_index_or words i 0 ≡ READY) × (get_elem? notes i ≡ some Home)
      × ((x : J) × (get_elem? posted p ≡ some x) × (get_elem? homes i ≡ some (some (Job x))))
  Shows words homes notes all posted i (taken p seat) = (slice_index_or words i 0 ≡ TAKEN)
      × (get_elem? notes i ≡ some Home) × (get_elem? homes i ≡ some none) × HeldBy all posted i p seat
  Shows words homes notes all posted i (done p d) = (slice_index_or words i 0 ≡ DONE)
      × (((get_elem? notes i ≡ some Home) × (get_elem? homes i ≡ some (some (Result d))))
      ⊎ ((get_elem? notes i ≡ some (Met d)) × (get_elem? homes i ≡ some none)))

  pub record Rule (meets : J → D → Type 0) (task : T) (slots : ℕ)
      (words : List ℕ) (homes : Homes J D) (all : List (Known T J D)) : Type 0 where
    pub core : Core J D
    pub lead : ℕ
    pub coordinator : Known T J D
    pub events : List (Event J D)
    pub after : After meets slots lead events core
    pub some_slot : 0 < slots
    pub wide : length words ≡ slots + 1
    pub places : length homes ≡ slots
    -- the coordinator's view
    pub leads : get_elem? all lead ≡ some coordinator
    pub coordinator_leads : coordinator.leads ≡ true
    pub only : (j : ℕ) (v : Known T J D) → get_elem? all j ≡ some v → v.leads ≡ true → j ≡ lead
    pub task_is : coordinator.task ≡ Some task
    pub taken_is : coordinator.taken ≡ length core.results
    pub out_is : coordinator.out ≡ drop coordinator.taken core.posted
    pub notes_long : length coordinator.notes ≡ slots
    -- words and places
    pub shows : (i : ℕ) (f : Phase D) → get_elem? core.phases i ≡ some f
        → Shows words homes coordinator.notes all core.posted i f
    -- where the word is not TAKEN, no view holds the slot
    pub held : (j : ℕ) (v : Known T J D) (i : ℕ) (x : J) → get_elem? all j ≡ some v → Holds v i x
        → (p : ℕ) × (get_elem? core.phases i ≡ some (taken p j)) × (get_elem? core.posted p ≡ some x)
    -- the stop word is set exactly where the coordinator's view says so
    pub stop : (slice_index_or words slots 0 ≡ 1) ↔ (coordinator.stopped ≡ true)

  -- the rule of the table
  abbrev pub Ring : (J → D → Type 0) → T → ℕ → State (Place J D) (View T J D) → Type 0
  Ring meets task slots s = Rule meets task slots s.words s.homes (map known s.views)
