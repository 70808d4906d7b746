use Rattle.std.proofs.Common.{length}
use Rattle.cd_window.specs.Places.{Dropped}
use Rattle.cd_window.proofs.places.trim.Given as goal

abbrev pub invariant-empty : goal.invariant-empty
invariant-empty g l = Dropped l.initial.places.items l.places.items

abbrev pub decreases-empty : goal.decreases-empty
decreases-empty g l = length l.places.items
