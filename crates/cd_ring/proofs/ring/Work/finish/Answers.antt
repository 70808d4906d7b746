use Rattle.std.proofs.Common.{ℕ, ◌<◌, List, length, ap, sym, ◌∙◌, subst, length-set, Some}
use lib.ListN.{get_elem?}
use Rattle.atomic_table.specs.Table as table
use Rattle.cd_ring.specs.declared.view.Look.{Look}
use Rattle.cd_ring.specs.Kinds.{stored}
use Rattle.cd_ring.specs.Rest.{IsWorker}
use Rattle.cd_ring.specs.Rule.{DONE}
use Rattle.cd_ring.specs.declared.view.Place.TheVariants.{Result}
use Rattle.cd_ring.proofs.Core.{at_inside}
use Rattle.cd_ring.proofs.Workers.{finished_worker}
use Rattle.cd_ring.proofs.ring.Work.finish.Goals as goal

pub bring_place-requires-clause-claim : goal.bring_place-requires-clause-claim
bring_place-requires-clause-claim g c = let w = c.args.self.now in (
  subst (λ (z : ℕ). c.args.claim.slot < z) (w.rest.held_long ∙ ap (λ t. t.slots) c.requires.ring ∙ c.args.ring.now.sized.1) (at_inside _ _ _ c.requires.claim),
  c.requires.claim,
)

pub mark_done-requires-clause-claim : goal.mark_done-requires-clause-claim
mark_done-requires-clause-claim g c = let w = c.args.self.now in (
  ap (λ k. get_elem? k.held c.args.claim.slot) c.bring_place.ensures.known.0 ∙ c.requires.claim,
  subst (λ (z : ℕ). c.args.claim.slot < z) (w.rest.held_long ∙ ap (λ t. t.slots) c.requires.ring ∙ c.args.ring.now.sized.1) (at_inside _ _ _ c.requires.claim),
)

pub invariant_of-self : goal.invariant_of-self
invariant_of-self g c = let w = c.args.self.now in let b = c.bring_place in let gave = c.mark_done.ensures.gave in record {
  rest = subst (λ (t : ℕ). IsWorker t c.mark_done.new.seat.me) (sym (ap (λ t. t.slots) (c.mark_done.ensures.ring.0 ∙ b.ensures.ring.0)))
      (finished_worker w.seat.table_id.slots w.seat.me b.new.seat.me c.mark_done.new.seat.me c.args.claim.slot (table.rest b.new.seat.me.1) w.rest
      b.ensures.known.0 b.ensures.places.0 b.ensures.places.1 gave.0 gave.2
      (ap (λ (l : List Look). length l) (gave.1 ∙ b.ensures.known.1) ∙ length-set w.seat.me.0.looks c.args.claim.slot _)
      (ap length (gave.3 ∙ ap (λ l. stored l c.args.claim.slot DONE (Some (Result c.args.done))) b.ensures.known.2) ∙ length-set w.seat.me.0.stores c.args.claim.slot _));
}
