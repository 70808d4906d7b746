use Rattle.std.proofs.Common.{◌≡◌}
use Rattle.cd_ring.specs.Opening.{IsTakingPlaces}
use Rattle.cd_ring.proofs.ring.Ring.take_places.Given as goal

abbrev pub invariant-loop-left : goal.invariant-loop-left
invariant-loop-left g l = (l.seat.table_id ≡ l.initial.seat.table_id) × (l.seat.id ≡ l.initial.seat.id) × IsTakingPlaces l.self.setup.task l.self.setup.slots l.left l.seat.me

abbrev pub decreases-loop-left : goal.decreases-loop-left
decreases-loop-left g l = l.left
