-- Each step of the loop is a step of the history.
use Rattle.std.proofs.Common.{Ok, Err, Some, true, ◌+◌, ◌≤◌, length, ap, sym, subst, ◌∙◌, arith}
use Rattle.cd_file.specs.contracts.file_reader.FileReader.{the_view}
use Rattle.cd_file.specs.declared.fronts.ending.Unread.TheVariants as unread
use Rattle.cd_file.specs.FileReading.{Kept}
use Rattle.cd_file.specs.Steps.{Steps}
use Rattle.cd_file.proofs.FileHistories.{tells_again}
use Rattle.cd_file.proofs.NextBlocks.{reader_within, stands_on, next_more, next_end, next_given, next_refused}
use Rattle.cd_file.proofs.file_reader.FileReader.next_block.Goals as goal

pub parts-preserved : goal.parts-preserved
parts-preserved c =
    let done = subst (λ e. Steps c.parts.self c.step.new.self (Ok e)) c.in-Ok-None.field-0-is c.in-Ok-None.ensures in
    record {
      stands = λ fed given h. stands_on c.parts.self c.step.new.self fed given (c.parts.invariant.stands fed given h) c.parts.invariant.unrefused done;
      unrefused = done.refused ∙ c.parts.invariant.unrefused;
      unspent = done.spent ∙ c.parts.invariant.unspent;
      same_end = done.ended ∙ c.parts.invariant.same_end;
      same_fed = done.fed ∙ c.parts.invariant.same_fed;
      far = omega (arith, done.ahead, c.parts.invariant.far);
      same_place = done.place ∙ c.parts.invariant.same_place;
    }

pub returns-in-Some-clause-history : goal.returns-in-Some-clause-history
returns-in-Some-clause-history c = rw (← c.self.view_is) (λ fed given h. (tells_again (the_view c.self.inside) fed given h c.in-Some.bad c.in-Some.is).0)

pub returns-in-Ok-Some-clause-history : goal.returns-in-Ok-Some-clause-history
returns-in-Ok-Some-clause-history c = λ fed given h.
    let done = subst (λ e. Steps c.parts.self c.step.new.self (Ok e)) c.in-Ok-Some.field-0-is c.in-Ok-Some.ensures in
    (next_given c.parts.self c.step.new.self fed given (c.parts.invariant.stands fed given h) c.parts.invariant.unrefused c.in-Ok-Some.block done).0

pub returns-in-Err-Ended-Open-clause-history : goal.returns-in-Err-Ended-Open-clause-history
returns-in-Err-Ended-Open-clause-history c = λ fed given h.
    let done = subst (λ e. Steps c.parts.self c.step.new.self (Err e)) (c.in-Err-Ended-Open.field-0-is ∙ ap unread.Ended c.in-Err-Ended-Open.field-0-0-is) c.in-Err-Ended-Open.ensures in
    (next_more c.parts.self c.step.new.self fed given (c.parts.invariant.stands fed given h) c.parts.invariant.unrefused done).0

pub returns-in-Err-Ended-Whole-clause-history : goal.returns-in-Err-Ended-Whole-clause-history
returns-in-Err-Ended-Whole-clause-history c = λ fed given h.
    let done = subst (λ e. Steps c.parts.self c.step.new.self (Err e)) (c.in-Err-Ended-Whole.field-0-is ∙ ap unread.Ended c.in-Err-Ended-Whole.field-0-0-is) c.in-Err-Ended-Whole.ensures in
    (next_end c.parts.self c.step.new.self fed given (c.parts.invariant.stands fed given h) c.parts.invariant.unrefused done).0

pub returns-in-Err-Ended-Refused-clause-history : goal.returns-in-Err-Ended-Refused-clause-history
returns-in-Err-Ended-Refused-clause-history c = λ fed given h.
    let done = subst (λ e. Steps c.parts.self c.step.new.self (Err e)) (c.in-Err-Ended-Refused.field-0-is ∙ ap unread.Ended c.in-Err-Ended-Refused.field-0-0-is) c.in-Err-Ended-Refused.ensures in
    (next_refused c.parts.self c.step.new.self fed given (c.parts.invariant.stands fed given h) c.parts.invariant.unrefused c.in-Err-Ended-Refused.why c.refuse.result c.refuse.new.self done c.refuse.ensures.bad c.refuse.ensures.kept).0

pub returns-in-Some-clause-tells : goal.returns-in-Some-clause-tells
returns-in-Some-clause-tells c = rw (← c.self.view_is) (λ fed given h. (tells_again (the_view c.self.inside) fed given h c.in-Some.bad c.in-Some.is).1)

pub returns-in-Ok-Some-clause-tells : goal.returns-in-Ok-Some-clause-tells
returns-in-Ok-Some-clause-tells c = λ fed given h.
    let done = subst (λ e. Steps c.parts.self c.step.new.self (Ok e)) c.in-Ok-Some.field-0-is c.in-Ok-Some.ensures in
    (next_given c.parts.self c.step.new.self fed given (c.parts.invariant.stands fed given h) c.parts.invariant.unrefused c.in-Ok-Some.block done).1

pub returns-in-Err-Ended-Open-clause-tells : goal.returns-in-Err-Ended-Open-clause-tells
returns-in-Err-Ended-Open-clause-tells c = λ fed given h.
    let done = subst (λ e. Steps c.parts.self c.step.new.self (Err e)) (c.in-Err-Ended-Open.field-0-is ∙ ap unread.Ended c.in-Err-Ended-Open.field-0-0-is) c.in-Err-Ended-Open.ensures in
    (next_more c.parts.self c.step.new.self fed given (c.parts.invariant.stands fed given h) c.parts.invariant.unrefused done).1

pub returns-in-Err-Ended-Whole-clause-tells : goal.returns-in-Err-Ended-Whole-clause-tells
returns-in-Err-Ended-Whole-clause-tells c = λ fed given h.
    let done = subst (λ e. Steps c.parts.self c.step.new.self (Err e)) (c.in-Err-Ended-Whole.field-0-is ∙ ap unread.Ended c.in-Err-Ended-Whole.field-0-0-is) c.in-Err-Ended-Whole.ensures in
    (next_end c.parts.self c.step.new.self fed given (c.parts.invariant.stands fed given h) c.parts.invariant.unrefused done).1

pub returns-in-Err-Ended-Refused-clause-tells : goal.returns-in-Err-Ended-Refused-clause-tells
returns-in-Err-Ended-Refused-clause-tells c = λ fed given h.
    let done = subst (λ e. Steps c.parts.self c.step.new.self (Err e)) (c.in-Err-Ended-Refused.field-0-is ∙ ap unread.Ended c.in-Err-Ended-Refused.field-0-0-is) c.in-Err-Ended-Refused.ensures in
    (next_refused c.parts.self c.step.new.self fed given (c.parts.invariant.stands fed given h) c.parts.invariant.unrefused c.in-Err-Ended-Refused.why c.refuse.result c.refuse.new.self done c.refuse.ensures.bad c.refuse.ensures.kept).1

pub returns-in-Ok-Some-clause-within : goal.returns-in-Ok-Some-clause-within
returns-in-Ok-Some-clause-within c =
    let k = reader_within c.self.inside.start c.self.inside.at c.self.inside.fed_count c.self.inside.bytes.items c.self.invariant.within c.self.invariant.counted in
    let first = subst (λ (s : Kept). s.at + length s.held ≤ s.fed_count) c.self.view_is k in
    let done = subst (λ e. Steps c.parts.self c.step.new.self (Ok e)) c.in-Ok-Some.field-0-is c.in-Ok-Some.ensures in
    omega (arith, first, c.parts.invariant.same_place, c.parts.invariant.same_fed, done.place, done.fed)

pub returns-in-Err-NoMemory-clause-within : goal.returns-in-Err-NoMemory-clause-within
returns-in-Err-NoMemory-clause-within c =
    let k = reader_within c.self.inside.start c.self.inside.at c.self.inside.fed_count c.self.inside.bytes.items c.self.invariant.within c.self.invariant.counted in
    let first = subst (λ (s : Kept). s.at + length s.held ≤ s.fed_count) c.self.view_is k in
    let same = subst (λ e. Steps c.parts.self c.step.new.self (Err e)) c.in-Err-NoMemory.field-0-is c.in-Err-NoMemory.ensures in
    let spent = c.spend.ensures ∙ ap (λ (s : Kept). record s { is_spent = true }) same in
    subst (λ (s : Kept). s.at ≤ s.fed_count) (sym spent) (omega (arith, first, c.parts.invariant.same_place, c.parts.invariant.same_fed))

pub returns-in-Err-Ended-Open-clause-within : goal.returns-in-Err-Ended-Open-clause-within
returns-in-Err-Ended-Open-clause-within c =
    let k = reader_within c.self.inside.start c.self.inside.at c.self.inside.fed_count c.self.inside.bytes.items c.self.invariant.within c.self.invariant.counted in
    let first = subst (λ (s : Kept). s.at + length s.held ≤ s.fed_count) c.self.view_is k in
    let same = (subst (λ e. Steps c.parts.self c.step.new.self (Err e)) (c.in-Err-Ended-Open.field-0-is ∙ ap unread.Ended c.in-Err-Ended-Open.field-0-0-is) c.in-Err-Ended-Open.ensures).0 in
    subst (λ (s : Kept). s.at ≤ s.fed_count) (sym same) (omega (arith, first, c.parts.invariant.same_place, c.parts.invariant.same_fed))

pub returns-in-Err-Ended-Whole-clause-within : goal.returns-in-Err-Ended-Whole-clause-within
returns-in-Err-Ended-Whole-clause-within c =
    let k = reader_within c.self.inside.start c.self.inside.at c.self.inside.fed_count c.self.inside.bytes.items c.self.invariant.within c.self.invariant.counted in
    let first = subst (λ (s : Kept). s.at + length s.held ≤ s.fed_count) c.self.view_is k in
    let same = (subst (λ e. Steps c.parts.self c.step.new.self (Err e)) (c.in-Err-Ended-Whole.field-0-is ∙ ap unread.Ended c.in-Err-Ended-Whole.field-0-0-is) c.in-Err-Ended-Whole.ensures).0 in
    subst (λ (s : Kept). s.at ≤ s.fed_count) (sym same) (omega (arith, first, c.parts.invariant.same_place, c.parts.invariant.same_fed))

pub returns-in-Err-Ended-Refused-clause-within : goal.returns-in-Err-Ended-Refused-clause-within
returns-in-Err-Ended-Refused-clause-within c =
    let k = reader_within c.self.inside.start c.self.inside.at c.self.inside.fed_count c.self.inside.bytes.items c.self.invariant.within c.self.invariant.counted in
    let first = subst (λ (s : Kept). s.at + length s.held ≤ s.fed_count) c.self.view_is k in
    let same = (subst (λ e. Steps c.parts.self c.step.new.self (Err e)) (c.in-Err-Ended-Refused.field-0-is ∙ ap unread.Ended c.in-Err-Ended-Refused.field-0-0-is) c.in-Err-Ended-Refused.ensures).0 in
    let kept = c.refuse.ensures.kept ∙ ap (λ (s : Kept). record s { refused = Some c.refuse.result }) same in
    subst (λ (s : Kept). s.at ≤ s.fed_count) (sym kept) (omega (arith, first, c.parts.invariant.same_place, c.parts.invariant.same_fed))
