use Rattle.std.proofs.Common.{rules, ap, sym, subst}
use Rattle.cd_ring.specs.Rule.{Holds}
use Rattle.cd_ring.proofs.WordSteps.{finishes}
use Rattle.cd_ring.proofs.ring.Ring.mark_done.Goals as goal

pub store-requires : goal.store-requires
store-requires g c = let now = c.lay_result.ensures.laid in (
  search rules,
  search rules,
  finishes _ _ _ _ _ _ c.args.slot c.args.job.now c.args.done
      (subst (λ m. Holds m.0.known c.args.slot c.args.job.now) (sym now) c.requires.claim.0)
      (subst (λ k. g.T.Task.meets k.task c.args.job.now c.args.done) (sym c.args.self.now.keyed) c.requires.meets)
      _ (ap (λ m. m.1) now),
)
