use Rattle.std.proofs.Common.{ap, sym, ◌∙◌, subst}
use Rattle.std.specs.List.{All}
use Rattle.cd_hints.specs.Records.{RecordParts, HasKinds}
use Rattle.cd_record.specs.Laws.{IsLight, events_of}
use Rattle.cd_engine.specs.Filing.{filed_more}
use Rattle.cd_engine.proofs.BlocksSteps.{files_more}
use Rattle.cd_engine.proofs.Traffic.{popped_kinds, popped_light}
use Rattle.cd_engine.proofs.blocks.file_ready.Goals as goal

pub push-requires-clause-kinds : goal.push-requires-clause-kinds
push-requires-clause-kinds c = subst HasKinds (sym c.record_of.ensures)
    (popped_kinds c.ready.window c.in-Some.released c.pop.new.self c.ready.invariant.traffic c.in-Some.ensures.popped)

pub push-requires-clause-light : goal.push-requires-clause-light
push-requires-clause-light c = subst (λ (r : RecordParts). All IsLight (events_of r)) (sym c.record_of.ensures)
    (popped_light c.ready.window c.in-Some.released c.pop.new.self c.ready.invariant.traffic c.in-Some.ensures.popped)

pub ready-preserved : goal.ready-preserved
ready-preserved c =
    files_more c.args.window.now c.args.filing.now c.ready.window c.ready.filing c.in-Some.released c.pop.new.self c.push.new.self
    c.ready.invariant c.in-Some.ensures.popped c.in-Some.ensures.stands
    (c.in_ok-push-in-Some.ensures ∙ ap (filed_more c.ready.filing) c.record_of.ensures)
