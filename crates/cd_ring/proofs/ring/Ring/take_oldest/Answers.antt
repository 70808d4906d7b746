use Rattle.std.proofs.Common.{ap, ◌∙◌, inl, inr, Some}
use lib.ListN.{get_elem?}
use Rattle.atomic_table.proofs.Lists.{set_here}
use Rattle.cd_ring.specs.declared.view.Note.TheVariants.{Met}
use Rattle.cd_ring.proofs.Takes.{took_job, took_result}
use Rattle.cd_ring.proofs.ring.Ring.take_oldest.Goals as goal

pub mark_free-requires-clause-oldest : goal.mark_free-requires-clause-oldest
mark_free-requires-clause-oldest g c = let f = c.in-Finished.ensures.found in let k = c.args.seat.now.me.0.known in
    (f.0, f.1, ap (λ v. v.out) f.4 ∙ f.2, inl (ap (λ v. get_elem? v.notes c.args.slot) f.4 ∙ set_here k.notes c.args.slot (Met c.in-Finished.done) c.requires.notes))

pub mark_free-requires-in-Ready-clause-oldest : goal.mark_free-requires-in-Ready-clause-oldest
mark_free-requires-in-Ready-clause-oldest g c = let f = c.in-Ready.ensures.found in let k = c.args.seat.now.me.0.known in
    (c.in-Ready.job, f.0, ap (λ v. v.out) f.2.0 ∙ f.1, inr (ap (λ v. get_elem? v.held c.args.slot) f.2.0 ∙ set_here k.held c.args.slot (Some c.in-Ready.job) c.requires.turn.2, c.perform-done.ensures))

pub returns-in-Finished-clause-some : goal.returns-in-Finished-clause-some
returns-in-Finished-clause-some g c = took_result _ _ c.claim_oldest.new.seat.me _ _ _ c.in-Finished.ensures.found c.mark_free.ensures.freed

pub returns-in-Ready-clause-some : goal.returns-in-Ready-clause-some
returns-in-Ready-clause-some g c = took_job _ _ c.claim_oldest.new.seat.me _ _ c.in-Ready.job _ c.in-Ready.ensures.found c.mark_free-in-Ready.ensures.freed c.perform-done.ensures
