use Rattle.cd_ring.specs.Words.{IsPostOf}
use Rattle.cd_ring_calls.proofs.many_seats.post_all.Given as goal

abbrev pub invariant-loop-job : goal.invariant-loop-job
invariant-loop-job l = IsPostOf l.ring l.post
