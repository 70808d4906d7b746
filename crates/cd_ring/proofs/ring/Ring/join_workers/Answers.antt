use Rattle.std.proofs.Common.{rules, true, ◌≡◌, ◌∙◌, subst, All}
use Rattle.cd_ring.specs.Claims.{holds_none}
use Rattle.cd_ring.specs.Words.{IsWorkOf, claims}
use Rattle.cd_ring.proofs.Bringing.{none_held, no_places}
use Rattle.cd_ring.proofs.SeatSteps.{joins, spent_idle}
use Rattle.cd_ring.proofs.Workers.{last_holds, others_hold}
use Rattle.cd_ring.proofs.ring.Ring.join_workers.Goals as goal

pub join_seat-requires : goal.join_seat-requires
join_seat-requires g c = let l = c.loop-work in let w = c.in-Some.work in
    let at = last_holds (λ w. IsWorkOf c.args.self.now w × (holds_none (claims w) ≡ true)) c.pop.new.self.items w
    (subst (All (λ w. IsWorkOf c.args.self.now w × (holds_none (claims w) ≡ true))) c.in-Some.ensures.items l.invariant.1) in
    let free = none_held w.seat.me.0.known.held at.1 in (
      l.invariant.0 ∙ c.requires.ring,
      at.0,
      no_places w.seat.me.1 w.seat.me.0.known.held w.rest.places free,
      search rules,
      joins g.T.Task.meets _ _ _ _ _ _ _ (w.rest.follows, free) (spent_idle g.T.Task.meets c.args.self.now.setup.task c.args.self.now.setup.slots),
    )

pub loop-work-preserved : goal.loop-work-preserved
loop-work-preserved g c = let l = c.loop-work in (
  c.join_seat.ensures.0 ∙ l.invariant.0,
  others_hold (λ w. IsWorkOf c.args.self.now w × (holds_none (claims w) ≡ true)) c.pop.new.self.items c.in-Some.work
      (subst (All (λ w. IsWorkOf c.args.self.now w × (holds_none (claims w) ≡ true))) c.in-Some.ensures.items l.invariant.1),
)
