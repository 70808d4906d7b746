use Rattle.std.proofs.Common.{◌≡◌, true, length, All}
use Rattle.cd_ring.specs.Claims.{holds_none}
use Rattle.cd_ring.specs.Words.{IsWorkOf, claims}
use Rattle.cd_ring_calls.proofs.many_seats.serve_all.Given as goal

abbrev pub invariant-loop-work : goal.invariant-loop-work
invariant-loop-work l = All (λ w. IsWorkOf l.ring w × (holds_none (claims w) ≡ true)) l.works.items

abbrev pub decreases-loop-work : goal.decreases-loop-work
decreases-loop-work l = length l.works.items
