-- The coordinator's seat while `new` takes the places, from the last slot down to the first.
use Rattle.std.specs.Prelude.{◌≡◌, ℕ, ◌+◌, ◌-◌, ◌<◌, ◌≤◌, true, false, [], length, Some, replicate, None}
use mathlib.Core.Option.{some}
use lib.ListN.{get_elem?}
use Rattle.cd_ring.specs.declared.view.Note.TheVariants.{Home, Spare}
use Rattle.cd_ring.specs.Kinds.{Seated}
use Rattle.cd_ring.specs.Rest.{spares}

pub record IsTakingPlaces {T J D : Type 0} (task : T) (slots left : ℕ) (m : Seated T J D) : Type 0 where
  pub leads : m.0.known.leads ≡ true
  pub task_is : m.0.known.task ≡ Some task
  pub out_is : m.0.known.out ≡ []
  pub taken_is : m.0.known.taken ≡ 0
  pub held_is : m.0.known.held ≡ replicate slots None
  pub stopped_is : m.0.known.stopped ≡ false
  pub notes_long : length m.0.known.notes ≡ slots
  pub looks_long : length m.0.looks ≡ slots + 1
  pub stores_long : length m.0.stores ≡ slots + 1
  pub low : left ≤ slots
  pub home : (k : ℕ) → k < left → get_elem? m.0.known.notes k ≡ some Home
  pub spare : (k : ℕ) → left ≤ k → k < slots → get_elem? m.0.known.notes k ≡ some Spare
  pub places : m.1 ≡ spares slots left (slots - left)
