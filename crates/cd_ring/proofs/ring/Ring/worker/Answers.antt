use Rattle.std.proofs.Common.{rules, ℕ, refl, ap, sym, ◌∙◌, subst}
use Rattle.cd_ring.specs.Rest.{IsWorker}
use Rattle.cd_ring.proofs.SeatSteps.{splits}
use Rattle.cd_ring.proofs.TakingPlaces.{none_held}
use Rattle.cd_ring.proofs.Workers.{new_worker}
use Rattle.cd_ring.proofs.ring.Ring.worker.Goals as goal

pub split_seat-requires : goal.split_seat-requires
split_seat-requires g c = (search rules, search rules, splits g.T.Task.meets _ _ _ _ _ (refl, none_held _))

pub invariant_of-result : goal.invariant_of-result
invariant_of-result g c = let e = c.split_seat.ensures in record {
  rest = subst (λ (t : ℕ). IsWorker t c.split_seat.result.me) (sym (ap (λ t. t.slots) (e.3 ∙ c.requires.ring) ∙ c.args.self.now.sized.1))
      (new_worker c.args.self.now.setup.slots c.args.seat.now.me.0 c.split_seat.result.me c.requires.lists.0 c.requires.lists.1 c.requires.lists.2 e.4);
}
