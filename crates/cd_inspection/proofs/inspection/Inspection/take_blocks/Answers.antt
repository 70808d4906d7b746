-- Each answer of the reader is a step of the history.
use Rattle.std.proofs.Common.{◌∙◌, [], ap, true, false}
use Rattle.cd_file.proofs.FileGrows.{files_grow}
use Rattle.cd_inspection.specs.Standing.{InspectionSeen}
use Rattle.cd_inspection.proofs.Taking.{course_ends, course_refused, course_unresolved, course_more}
use Rattle.cd_inspection.proofs.inspection.Inspection.take_blocks.Goals as goal

pub returns-in-Some-clause-history : goal.returns-in-Some-clause-history
returns-in-Some-clause-history g c = λ fed cleared h.
    let course = rw (← c.self.view_is) at (c.given.invariant.history fed cleared h) in
    let k = rw c.in-Ok-Block.field-0-is at (c.in-Ok-Block.ensures.history fed course.given course.reads) in
    let t = rw c.in-Some.is at c.in_ok-bad-in-Ok-Block.ensures.takes in
    rw (t.same, t.refusal)
    (course_unresolved g.I.Inspector.rendering _ fed cleared course c.next_block.new.self c.in-Ok-Block.block k.1 k.2 t.why t.fails (files_grow fed []))

pub given-preserved : goal.given-preserved
given-preserved g c = record {
  history = λ fed cleared h.
      let course = rw (← c.self.view_is) at (c.given.invariant.history fed cleared h) in
      let k = rw c.in-Ok-Block.field-0-is at (c.in-Ok-Block.ensures.history fed course.given course.reads) in
      let tells = c.in-Ok-Block.ensures.tells fed course.given course.reads in
      let t = rw c.in-None.is at c.in_ok-bad-in-Ok-Block.ensures.takes in
      rw t.same
      (course_more g.I.Inspector.rendering _ fed cleared course c.next_block.new.self c.in-Ok-Block.block k.1 k.2 t.kept t.resolves k.0 c.in-Ok-Block.ensures.keeps.1 tells);
  count =
      let t = rw c.in-None.is at c.in_ok-bad-in-Ok-Block.ensures.takes in
      ap (λ (s : InspectionSeen _). s.reader.fed_count) t.same ∙ c.in-Ok-Block.ensures.count ∙ ap (λ (s : InspectionSeen _). s.reader.fed_count) c.self.view_is ∙ c.given.invariant.count;
  fresh =
      let t = rw c.in-None.is at c.in_ok-bad-in-Ok-Block.ensures.takes in
      ap (λ (s : InspectionSeen _). s.spent) t.same ∙ ap (λ (s : InspectionSeen _). s.spent) c.self.view_is ∙ c.given.invariant.fresh;
}

pub returns-in-Ok-More-clause-history : goal.returns-in-Ok-More-clause-history
returns-in-Ok-More-clause-history g c = λ fed cleared h.
    let course = rw (← c.self.view_is) at (c.given.invariant.history fed cleared h) in
    let k = rw c.in-Ok-More.field-0-is at (c.in-Ok-More.ensures.history fed course.given course.reads) in
    course_ends g.I.Inspector.rendering _ fed cleared course false c.next_block.new.self k.0 c.in-Ok-More.ensures.keeps.1 k.1 k.2
    (c.in-Ok-More.ensures.tells fed course.given course.reads)

pub returns-in-Ok-End-clause-history : goal.returns-in-Ok-End-clause-history
returns-in-Ok-End-clause-history g c = λ fed cleared h.
    let course = rw (← c.self.view_is) at (c.given.invariant.history fed cleared h) in
    let k = rw c.in-Ok-End.field-0-is at (c.in-Ok-End.ensures.history fed course.given course.reads) in
    course_ends g.I.Inspector.rendering _ fed cleared course true c.next_block.new.self k.0 c.in-Ok-End.ensures.keeps.1 k.1 k.2
    (c.in-Ok-End.ensures.tells fed course.given course.reads)

pub returns-in-Err-Bad-clause-history : goal.returns-in-Err-Bad-clause-history
returns-in-Err-Bad-clause-history g c = λ fed cleared h.
    let course = rw (← c.self.view_is) at (c.given.invariant.history fed cleared h) in
    let k = rw c.in-Err-Bad.field-0-is at (c.in-Err-Bad.ensures.history fed course.given course.reads) in
    course_refused g.I.Inspector.rendering _ fed cleared course c.next_block.new.self c.in-Err-Bad.bad k.1 k.2
