use Rattle.std.proofs.Common.{◌≡◌, true, length, All}
use Rattle.cd_ring.specs.Claims.{holds_none}
use Rattle.cd_ring.specs.Words.{IsWorkOf, claims}
use Rattle.cd_ring.proofs.ring.Ring.join_workers.Given as goal

abbrev pub invariant-loop-work : goal.invariant-loop-work
invariant-loop-work g l = (l.seat.table_id ≡ l.initial.seat.table_id) × All (λ w. IsWorkOf l.self w × (holds_none (claims w) ≡ true)) l.works.items

abbrev pub decreases-loop-work : goal.decreases-loop-work
decreases-loop-work g l = length l.works.items
