-- What the clauses of the calls say of a ring and of its seats.
use Rattle.std.specs.Prelude.{◌≡◌, ℕ, ◌+◌, ◌%◌, Bool, List, length, Option, Some}
use mathlib.Core.Option.{some}
use lib.ListN.{get_elem?}
use Rattle.cd_ring.specs.declared.task.Task.{Ghosts}
use Rattle.cd_ring.specs.declared.view.Look.{Look}
use Rattle.cd_ring.specs.declared.view.Store.{Store}
use Rattle.cd_ring.specs.declared.ring.Ring.{Ring}
use Rattle.cd_ring.specs.declared.ring.Post.{Post}
use Rattle.cd_ring.specs.declared.ring.Work.{Work}
use Rattle.cd_ring.specs.declared.work.Claim.{Claim}

module _ {T J D : Type 0} where
  -- the task that the ring performs
  abbrev pub task_of : Ring T J D → T
  task_of ring = ring.setup.task

  -- the number of slots
  abbrev pub slots_of : Ring T J D → ℕ
  slots_of ring = ring.setup.slots

module _ {T J D : Type 0} {g : Ghosts T J D} where
  -- the number of slots of the coordinator's ring
  abbrev pub room_of : Post T J D g → ℕ
  room_of post = post.slots

  -- the coordinator's seat is one of this ring
  abbrev pub IsPostOf : Ring T J D → Post T J D g → Type 0
  IsPostOf ring post = (post.seat.table_id ≡ ring.table.shared.table_id)
      × (post.seat.me.0.known.task ≡ Some ring.setup.task)
      × (room_of post ≡ slots_of ring)

  -- the jobs posted whose results were not taken, the oldest first
  abbrev pub jobs_out : Post T J D g → List J
  jobs_out post = post.seat.me.0.known.out

  -- how many results were taken
  abbrev pub results_taken : Post T J D g → ℕ
  results_taken post = post.seat.me.0.known.taken

  -- the slot of the oldest job out
  abbrev pub oldest_slot : Post T J D g → ℕ
  oldest_slot post = results_taken post % room_of post

  -- the slot of the next job that is posted
  abbrev pub next_slot : Post T J D g → ℕ
  next_slot post = (results_taken post + length (jobs_out post)) % room_of post

  -- the jobs that the coordinator holds by a claim, of each slot
  abbrev pub own_claims : Post T J D g → List (Option J)
  own_claims post = post.seat.me.0.known.held

  -- whether the coordinator has set the stop word
  abbrev pub has_stopped : Post T J D g → Bool
  has_stopped post = post.seat.me.0.known.stopped

  -- the looks of the coordinator at each word
  abbrev pub looks_of : Post T J D g → List Look
  looks_of post = post.seat.me.0.looks

  -- the stores of the coordinator at each word
  abbrev pub stores_of : Post T J D g → List (Store J D)
  stores_of post = post.seat.me.0.stores

  -- a worker's seat is one of this ring
  abbrev pub IsWorkOf : Ring T J D → Work T J D g → Type 0
  IsWorkOf ring work = work.seat.table_id ≡ ring.table.shared.table_id

  -- the jobs that a worker holds by its claims, of each slot
  abbrev pub claims : Work T J D g → List (Option J)
  claims work = work.seat.me.0.known.held

  -- the looks of a worker at each word
  abbrev pub looks : Work T J D g → List Look
  looks work = work.seat.me.0.looks

  -- the stores of a worker at each word
  abbrev pub stores : Work T J D g → List (Store J D)
  stores work = work.seat.me.0.stores

  -- the worker holds the slot of this claim with its job
  abbrev pub HasClaim : Work T J D g → Claim J → Type 0
  HasClaim work claim = get_elem? (claims work) claim.slot ≡ some (Some claim.job)
