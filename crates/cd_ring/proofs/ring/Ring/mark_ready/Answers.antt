use Rattle.std.proofs.Common.{rules, sym, ap, subst}
use Rattle.cd_ring.specs.Rest.{NextIs}
use Rattle.cd_ring.proofs.CoordinatorSteps.{marks_ready}
use Rattle.cd_ring.proofs.ring.Ring.mark_ready.Goals as goal

pub store-requires : goal.store-requires
store-requires g c = let now = c.lay_job.ensures.laid in let count = ap (λ k. k.slots) (sym c.args.self.now.keyed) in
    let next = subst (λ n. NextIs n c.args.slot c.lay_job.new.seat.me.0) count (subst (λ v. NextIs c.args.self.now.setup.slots c.args.slot v) (sym (ap (λ m. m.0) now)) c.requires.next) in
    (search rules, search rules, marks_ready _ _ _ _ _ _ c.args.slot c.args.job _ next.0 next.1 next.2 next.3 (ap (λ m. m.1) now))
