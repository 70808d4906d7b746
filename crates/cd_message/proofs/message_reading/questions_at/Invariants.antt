use Rattle.std.proofs.Common.{◌≡◌, ◌-◌}
use Rattle.cd_message.specs.Readings.{repeat, with_front}
use Rattle.cd_message.specs.Messages.{question_at}
use Rattle.cd_message.proofs.message_reading.questions_at.Given as goal

abbrev pub invariant-questions : goal.invariant-questions
invariant-questions l = record {
  same : l.reader ≡ l.fn.reader;
  read : with_front l.questions.items (repeat (question_at l.fn.reader) (l.count - l.counter) l.here) ≡ repeat (question_at l.fn.reader) l.count l.at;
}
