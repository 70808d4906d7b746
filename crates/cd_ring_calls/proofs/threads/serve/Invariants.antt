use Rattle.std.proofs.Common.{◌≡◌, true}
use Rattle.cd_ring.specs.Claims.{holds_none}
use Rattle.cd_ring.specs.Words.{IsWorkOf, claims}
use Rattle.cd_ring_calls.proofs.threads.serve.Given as goal

abbrev pub invariant-loop : goal.invariant-loop
invariant-loop g l = IsWorkOf l.ring l.work × (holds_none (claims l.work) ≡ true)
