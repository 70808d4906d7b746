use Rattle.std.proofs.Common.{arith, ◌≡◌, ℕ, ◌+◌, ◌-◌, ◌<◌, refl, ◌∙◌, subst}
use Rattle.cd_ring.specs.Opening.{IsTakingPlaces}
use Rattle.cd_ring.proofs.TakingPlaces.{takes_first_place, takes_one_place}
use Rattle.cd_ring.proofs.ring.Ring.take_places.Goals as goal

pub loop-left-init : goal.loop-left-init
loop-left-init g c = (refl, refl, takes_first_place _ _ _ c.requires.first)

pub loop-left-preserved : goal.loop-left-preserved
loop-left-preserved g c = let l = c.loop-left in let left : ℕ = l.left in let some_left : 0 < left = c.loop-left-test.true in let filled = c.take_place.ensures.taken in (
  c.take_place.ensures.ring.0 ∙ l.invariant.0,
  c.take_place.ensures.ring.1 ∙ l.invariant.1,
  takes_one_place c.args.self.now.setup.task c.args.self.now.setup.slots (l.left - 1) l.seat.me c.take_place.new.seat.me
      (subst (λ (z : ℕ). IsTakingPlaces c.args.self.now.setup.task c.args.self.now.setup.slots z l.seat.me) (let h : left ≡ left - 1 + 1 = omega arith in h) l.invariant.2)
      filled.0 filled.1 filled.2 filled.3,
)
