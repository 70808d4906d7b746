use Rattle.cd_ring.specs.Words.{IsPostOf}
use Rattle.cd_ring_calls.proofs.threads.take_all.Given as goal

abbrev pub invariant-loop : goal.invariant-loop
invariant-loop g l = IsPostOf l.ring l.post
