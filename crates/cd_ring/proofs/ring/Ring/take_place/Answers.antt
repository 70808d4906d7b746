use Rattle.std.proofs.Common.{rules, ℕ, ◌<◌, ap, sym, subst}
use Rattle.cd_ring.proofs.OldestSteps.{takes_place}
use Rattle.cd_ring.proofs.ring.Ring.take_place.Goals as goal

pub load-requires : goal.load-requires
load-requires g c = (
  search rules,
  search rules,
  takes_place g.T.Task.meets _ _ _ _ _ c.args.slot c.requires.first.0 c.requires.first.1 (subst (λ (z : ℕ). c.args.slot < z) (ap (λ k. k.slots) (sym c.args.self.now.keyed)) c.requires.slot.0) c.requires.slot.1,
)
