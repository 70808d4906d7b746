-- What each step of a seat tells: of the seat before, the word that it met, and the seat after.
use Rattle.std.specs.Prelude.{◌≡◌, ℕ, ◌+◌, true, List, [], ◌∷◌, ◌++◌, Option, Some, None, slice_index_or, slice_set, map, replicate, false}
use Rattle.atomic_table.specs.Table.{Me, Step}
use Rattle.cd_ring.specs.declared.view.Place.{Place}
use Rattle.cd_ring.specs.declared.view.Place.TheVariants.{Empty, Job, Result}
use Rattle.cd_ring.specs.declared.view.Note.{Note}
use Rattle.cd_ring.specs.declared.view.Note.TheVariants.{Home, Spare, Met}
use Rattle.cd_ring.specs.declared.view.Look.{Look}
use Rattle.cd_ring.specs.declared.view.Store.{Store}
use Rattle.cd_ring.specs.declared.view.Known.{Known}
use Rattle.cd_ring.specs.declared.view.View.{View}
use mathlib.Core.Option.{some}
use lib.ListN.{get_elem?}
use Rattle.cd_ring.specs.Claims.{are_places_of}
use Rattle.cd_ring.specs.Rule.{READY, TAKEN, DONE}

-- how often a word was loaded at, and what was met last
abbrev pub look_at : List Look → ℕ → Look
look_at looks i = slice_index_or looks i record { times = 0; met = 0 }

-- a look at the word i, which is r
abbrev pub noted : List Look → ℕ → ℕ → List Look
noted looks i r = slice_set looks i record { times = (look_at looks i).times + 1; met = r }

abbrev pub no_store : {J D : Type 0} → Store J D
no_store = record { times = 0; number = 0; given = None }

-- how often a word was stored at, the number stored last, and what lay in the place given back with it
abbrev pub store_at : {J D : Type 0} → List (Store J D) → ℕ → Store J D
store_at stores i = slice_index_or stores i no_store

-- a store of r at the word i, with what lies in the place given back, or None
abbrev pub stored : {J D : Type 0} → List (Store J D) → ℕ → ℕ → Option (Place J D) → List (Store J D)
stored stores i r given = slice_set stores i record { times = (store_at stores i).times + 1; number = r; given = given }

abbrev pub Seated : Type 0 → Type 0 → Type 0 → Type 0
Seated T J D = Me (Place J D) (View T J D)

module _ {T J D : Type 0} where
  -- the look is noted, and no store
  abbrev pub Saw : Seated T J D → ℕ → ℕ → Seated T J D → Type 0
  Saw m i r n = (n.0.looks ≡ noted m.0.looks i r) × (n.0.stores ≡ m.0.stores)

  abbrev pub Stays : Seated T J D → Seated T J D → Type 0
  Stays m n = (n.0.known ≡ m.0.known) × (n.1 ≡ m.1)

  -- a load changes nothing but the looks
  abbrev pub loaded : Step (Place J D) → Seated T J D → ℕ → Seated T J D → Type 0
  loaded st m r n = Saw m st.word r n × Stays m n

  abbrev pub with_held : Known T J D → ℕ → Option J → Known T J D
  with_held k i h = record {
    leads = k.leads;
    task = k.task;
    out = k.out;
    taken = k.taken;
    held = slice_set k.held i h;
    notes = k.notes;
    stopped = k.stopped;
  }

  abbrev pub with_note : Known T J D → ℕ → Note D → Known T J D
  with_note k i a = record {
    leads = k.leads;
    task = k.task;
    out = k.out;
    taken = k.taken;
    held = k.held;
    notes = slice_set k.notes i a;
    stopped = k.stopped;
  }

  abbrev pub with_post : Known T J D → ℕ → J → Known T J D
  with_post k i x = record {
    leads = k.leads;
    task = k.task;
    out = k.out ++ x ∷ [];
    taken = k.taken;
    held = k.held;
    notes = slice_set k.notes i Home;
    stopped = k.stopped;
  }

  -- the oldest job is no longer out, a claim of its slot is given up, and the place stays with the coordinator
  abbrev pub with_take : Known T J D → ℕ → List J → Known T J D
  with_take k i out = record {
    leads = k.leads;
    task = k.task;
    out = out;
    taken = k.taken + 1;
    held = slice_set k.held i None;
    notes = slice_set k.notes i Spare;
    stopped = k.stopped;
  }

  abbrev pub with_stop : Known T J D → Known T J D
  with_stop k = record {
    leads = k.leads;
    task = k.task;
    out = k.out;
    taken = k.taken;
    held = k.held;
    notes = k.notes;
    stopped = true;
  }

  -- the seat holds the slot i with its job, and has the place
  abbrev pub Claims : Seated T J D → ℕ → J → Seated T J D → Type 0
  Claims m i x n = (n.0.known ≡ with_held m.0.known i (Some x)) × (n.1 ≡ (i, Job x) ∷ m.1)

  -- a compare and exchange from READY to TAKEN by a worker
  abbrev pub claimed : Step (Place J D) → Seated T J D → ℕ → Seated T J D → Type 0
  claimed st m r n = Saw m st.word r n × (r ≡ READY → (x : J) × (get_elem? m.0.known.held st.word ≡ some None)
      × Claims m st.word x n) × ((r ≡ READY → ⊥) → Stays m n)

  -- a load by a worker of the word of a slot that it holds, which puts the place of that slot before its others
  abbrev pub brought : Step (Place J D) → Seated T J D → ℕ → Seated T J D → Type 0
  brought st m r n = Saw m st.word r n × (r ≡ TAKEN) × (n.0.known ≡ m.0.known)
      × ((places : List (ℕ × Place J D)) × (n.1 ≡ (st.word, Empty) ∷ places))
      × (are_places_of n.1 m.0.known.held ≡ true)

  -- the place of the oldest job's slot was met at DONE and taken. Its result meets that job
  abbrev pub Meets : (T → J → D → Type 0) → Seated T J D → ℕ → Seated T J D → Type 0
  Meets meets m i n = (d : D) × (x : J) × (xs : List J) × (task : T) × (m.0.known.task ≡ Some task)
      × (m.0.known.out ≡ x ∷ xs) × meets task x d
      × (n.0.known ≡ with_note m.0.known i (Met d)) × (n.1 ≡ (i, Result d) ∷ m.1)

  -- the same by the coordinator at the oldest job's slot. Where it is DONE the place is taken
  abbrev pub claimed_oldest : (T → J → D → Type 0) → Step (Place J D) → Seated T J D → ℕ → Seated T J D → Type 0
  claimed_oldest meets st m r n = Saw m st.word r n
      × (r ≡ READY → (x : J) × (xs : List J) × (m.0.known.out ≡ x ∷ xs) × Claims m st.word x n)
      × (r ≡ DONE → Meets meets m st.word n)
      × ((r ≡ READY → ⊥) → (r ≡ DONE → ⊥) → (r ≡ TAKEN) × Stays m n)

  -- a store of r at the word i, which gives a place back with what lies in it, or keeps the places. It is noted, and no look
  abbrev pub became : Known T J D → List (ℕ × Place J D) → ℕ → ℕ → Option (Place J D) → Seated T J D → Seated T J D → Type 0
  became k c i r given m n = (n.0.known ≡ k) × (n.0.looks ≡ m.0.looks) × (n.1 ≡ c) × (n.0.stores ≡ stored m.0.stores i r given)

  -- a load before the first post, which takes the place of a free slot
  abbrev pub took_place : Step (Place J D) → Seated T J D → ℕ → Seated T J D → Type 0
  took_place st m r n = Saw m st.word r n × (n.0.known ≡ with_note m.0.known st.word Spare)
      × (n.1 ≡ (st.word, Empty) ∷ m.1)

  -- the job that lies in the place goes to its slot
  abbrev pub marked_ready : Step (Place J D) → Seated T J D → ℕ → Seated T J D → Type 0
  marked_ready st m r n = (x : J) × (c : List (ℕ × Place J D)) × (m.1 ≡ (st.word, Job x) ∷ c)
      × became (with_post m.0.known st.word x) c st.word r (Some (Job x)) m n

  -- the result that lies in the place goes to its slot, and the claim is given up
  abbrev pub marked_done : Step (Place J D) → Seated T J D → ℕ → Seated T J D → Type 0
  marked_done st m r n = (d : D) × (c : List (ℕ × Place J D)) × (m.1 ≡ (st.word, Result d) ∷ c)
      × became (with_held m.0.known st.word None) c st.word r (Some (Result d)) m n

  abbrev pub marked_free : Step (Place J D) → Seated T J D → ℕ → Seated T J D → Type 0
  marked_free st m r n = (x : J) × (xs : List J) × (m.0.known.out ≡ x ∷ xs)
      × became (with_take m.0.known st.word xs) m.1 st.word r None m n

  abbrev pub set_stop : Step (Place J D) → Seated T J D → ℕ → Seated T J D → Type 0
  set_stop st m r n = became (with_stop m.0.known) m.1 st.word r None m n

abbrev pub no_look : Look
no_look = record { times = 0; met = 0 }

-- the first seat's view: the coordinator's
abbrev pub opening_view : {T J D : Type 0} → T → ℕ → View T J D
opening_view task slots = record {
  known = record {
    leads = true;
    task = Some task;
    out = [];
    taken = 0;
    held = replicate slots None;
    notes = replicate slots Home;
    stopped = false;
  };
  looks = replicate (slots + 1) no_look;
  stores = replicate (slots + 1) no_store;
}

-- a new worker's view
abbrev pub worker_view : {T J D : Type 0} → View T J D → View T J D
worker_view v = record {
  known = record {
    leads = false;
    task = None;
    out = [];
    taken = 0;
    held = map (λ _. None) v.known.held;
    notes = [];
    stopped = false;
  };
  looks = map (λ _. no_look) v.looks;
  stores = map (λ _. no_store) v.stores;
}

-- what a joined seat leaves
abbrev pub spent_view : {T J D : Type 0} → View T J D
spent_view = record {
  known = record { leads = false; task = None; out = []; taken = 0; held = []; notes = []; stopped = false };
  looks = [];
  stores = [];
}
