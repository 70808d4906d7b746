use Rattle.std.proofs.Common.{◌≤◌, length, take, drop}
use Rattle.std.specs.List.{All}
use Rattle.cd_message.specs.WrittenLaws.{QuestionNumbersFit}
use Rattle.cd_message.specs.Written.{each_in_turn, question_piece}
use Rattle.cd_message.proofs.InTurn.{WritesRest}
use Rattle.cd_message.proofs.writing.Writing.put_questions.Given as goal

abbrev pub invariant-questions : goal.invariant-questions
invariant-questions l =
    WritesRest (each_in_turn question_piece l.questions) (each_in_turn question_piece (drop l.question-index l.questions)) l.fn.self l.self × (length l.self.bytes ≤ 65535) × All QuestionNumbersFit (take l.question-index l.questions)
