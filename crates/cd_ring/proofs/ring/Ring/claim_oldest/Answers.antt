use Rattle.std.proofs.Common.{rules, ℕ, ◌%◌, ◌∷◌, sym, ap, ◌∙◌}
use Rattle.atomic_table.specs.Table.{rest}
use Rattle.cd_ring.specs.declared.view.Place.TheVariants.{Job, Result}
use Rattle.cd_ring.proofs.OldestSteps.{claims_oldest}
use Rattle.cd_ring.proofs.ring.Ring.claim_oldest.Goals as goal

pub compare_exchange-found-requires : goal.compare_exchange-found-requires
compare_exchange-found-requires g c = let old = c.requires.oldest in let turn = c.requires.turn in let count = ap (λ k. k.slots) (sym c.args.self.now.keyed) in (
  search rules,
  search rules,
  claims_oldest _ _ _ _ _ _ c.args.slot old.0 old.1 turn.3 (turn.0 ∙ ap (λ (n : ℕ). c.args.seat.now.me.0.known.taken % n) count) old.2 old.3 turn.2,
)

pub lift_job-requires-clause-place : goal.lift_job-requires-clause-place
lift_job-requires-clause-place g c = let got = c.compare_exchange-found.ensures.2.1 c.if-found-eq-WORD_READY.true in
    (got.0, got.3.1 ∙ ap (λ l. (c.args.slot, Job got.0) ∷ l) (sym (ap rest got.3.1)))

pub take_result-requires-clause-place : goal.take_result-requires-clause-place
take_result-requires-clause-place g c = let got = c.compare_exchange-found.ensures.2.2 c.if-found-eq-WORD_DONE.true in
    (got.0, got.8 ∙ ap (λ l. (c.args.slot, Result got.0) ∷ l) (sym (ap rest got.8)))
