use Rattle.std.proofs.Common.{true, ◌≡◌, subst, All}
use Rattle.cd_ring.specs.Claims.{holds_none}
use Rattle.cd_ring.specs.Words.{IsWorkOf, claims}
use Rattle.cd_ring.proofs.Workers.{last_holds, others_hold}
use Rattle.cd_ring_calls.proofs.many_seats.serve_all.Goals as goal

pub serve_four-requires : goal.serve_four-requires
serve_four-requires c = (last_holds (λ w. IsWorkOf c.args.ring.now w × (holds_none (claims w) ≡ true)) c.pop.new.self.items c.in-Some.work
    (subst (All (λ w. IsWorkOf c.args.ring.now w × (holds_none (claims w) ≡ true))) c.in-Some.ensures.items c.loop-work.invariant)).0

pub loop-work-preserved : goal.loop-work-preserved
loop-work-preserved c = others_hold (λ w. IsWorkOf c.args.ring.now w × (holds_none (claims w) ≡ true)) c.pop.new.self.items c.in-Some.work
    (subst (All (λ w. IsWorkOf c.args.ring.now w × (holds_none (claims w) ≡ true))) c.in-Some.ensures.items c.loop-work.invariant)
