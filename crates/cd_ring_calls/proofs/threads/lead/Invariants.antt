use Rattle.cd_ring.specs.Words.{IsPostOf}
use Rattle.cd_ring_calls.proofs.threads.lead.Given as goal

abbrev pub invariant-loop-job : goal.invariant-loop-job
invariant-loop-job g l = IsPostOf l.ring l.post
