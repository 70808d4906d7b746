-- More bytes are read, from where the inspection goes on.
use Rattle.std.proofs.Common.{◌++◌, ◌∙◌, ap, refl, Option, None, subst}
use Rattle.cd_file.specs.declared.refusal.BadFile.{BadFile}
use Rattle.cd_file.proofs.FileGrows.{files_grow}
use Rattle.cd_inspection.specs.Standing.{InspectionSeen, HasTaken}
use Rattle.cd_inspection.proofs.Taking.{course_begins, stands_then}
use Rattle.cd_inspection.proofs.inspection.Inspection.take_chunk.Goals as goal

pub invariant_of-self : goal.invariant_of-self
invariant_of-self g c = rw c.in_err-feed.ensures.err c.self.invariant

pub returns-clause-history : goal.returns-clause-history
returns-clause-history g c = λ fed cleared h.
    let k = rw (← c.self.view_is) at h in
    let s = c.self.inside in
    let m : InspectionSeen g.row.I-Counts.Denot = record {
      reader = s.reader;
      refused = s.refused;
      is_whole = s.is_whole;
      block_count = s.block_count;
      counts = s.counts;
      output = s.output;
      spent = s.spent;
    } in
    let P : Option BadFile → Type 0 = λ o. HasTaken g.I.Inspector.rendering m fed cleared o in
    let t : P None = subst P (ap (λ (s : InspectionSeen _). s.refused) c.self.view_is ∙ c.requires.going) k.taken in
    let goes = t.goes_on refl in
    let f = c.in_ok-feed.ensures.history fed goes.given goes.reads in
    let course = course_begins g.I.Inspector.rendering m fed c.args.chunk.now cleared c.feed.new.self files_grow t f.0 (f.2 ∙ goes.unrefused) in
    let x = rw (← c.self-2.view_is) at (c.in_ok-refused.ensures.history (fed ++ c.args.chunk.now) cleared course) in
    stands_then g.I.Inspector.rendering _ (fed ++ c.args.chunk.now) cleared c.in_ok-refused.refused
    (ap (λ (s : InspectionSeen _). s.spent) c.self-2.view_is ∙ c.in_ok-refused.ensures.fresh ∙ k.fresh) x
