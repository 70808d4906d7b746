use Rattle.std.proofs.Common.{◌∙◌}
use Rattle.cd_message.specs.Readings.{repeat}
use Rattle.cd_message.specs.Messages.{question_at}
use Rattle.cd_message.proofs.Repeats.{repeat_more, repeat_fault, repeat_end}
use Rattle.cd_message.proofs.message_reading.questions_at.Goals as goal

pub returns-in-Err-clause-read : goal.returns-in-Err-clause-read
returns-in-Err-clause-read c =
    let read = question_at c.args.reader.now in
    let fault = rw c.questions.invariant.same at c.in-Err.ensures.read in
    repeat_fault c.in-Err.fault read c.questions.questions.items c.args.count c.questions.counter c.questions.here (repeat read c.args.count c.args.at)
    c.questions-test.true fault c.questions.invariant.read

pub questions-preserved : goal.questions-preserved
questions-preserved c =
    let e = c.in-Ok-push.ensures.items in
    let read = question_at c.args.reader.now in
    let is = rw c.questions.invariant.same at c.in-Ok.ensures.read in
    let more = repeat_more read c.questions.questions.items c.args.count c.questions.counter c.questions.here c.in-Ok.question c.in-Ok.next (repeat read c.args.count c.args.at) c.questions-test.true is c.questions.invariant.read in
    record { same = c.in-Ok.ensures.same ∙ c.questions.invariant.same; read = rw e more }

pub returns-clause-read : goal.returns-clause-read
returns-clause-read c =
    let read = question_at c.args.reader.now in
    rw c.from_vec.ensures (repeat_end read c.questions.questions.items c.args.count c.questions.counter c.questions.here (repeat read c.args.count c.args.at) c.questions-test.false c.questions.invariant.read)
