use Rattle.std.proofs.Common.{true, ◌≡◌}
use Rattle.cd_ring.specs.Claims.{holds_none}
use Rattle.cd_ring.specs.Words.{IsWorkOf, claims}
use Rattle.cd_ring_calls.proofs.Popped.{last_if_some, others_of_pop}
use Rattle.cd_ring_calls.proofs.threads.take_work.Goals as goal

pub returns-clause-work : goal.returns-clause-work
returns-clause-work g c = last_if_some (λ w. IsWorkOf c.args.ring.now w × (holds_none (claims w) ≡ true)) c.args.works.now.items c.pop.new.self.items c.pop.result c.pop.ensures.items c.requires

pub returns-clause-works : goal.returns-clause-works
returns-clause-works g c = others_of_pop (λ w. IsWorkOf c.args.ring.now w × (holds_none (claims w) ≡ true)) c.args.works.now.items c.pop.new.self.items c.pop.result c.pop.ensures.items c.requires
