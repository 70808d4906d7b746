use Rattle.std.proofs.lemmas.List.Elements.{All-nil}
use Rattle.cd_message.specs.Written.{question_piece}
use Rattle.cd_message.specs.WrittenLaws.{QuestionNumbersFit}
use Rattle.cd_message.proofs.InTurn.{rest_with_item, rest_fails_at_item, rest_is_none, all_with_item, all_of_front}
use Rattle.cd_message.proofs.writing.Writing.put_questions.Goals as goal

pub questions-init : goal.questions-init
questions-init c = (λ end r h. h, c.requires, All-nil QuestionNumbersFit)

pub returns-in_err-put_question-clause-puts : goal.returns-in_err-put_question-clause-puts
returns-in_err-put_question-clause-puts c =
    rest_fails_at_item question_piece c.args.questions.now c.questions.question-index c.question-item.result c.args.self.now c.questions.self c.put_question.new.self c.in_err-put_question.field-0.0
    c.from_residual.result c.questions-test.true c.question-item.is c.questions.invariant.0 c.in_err-put_question.ensures.puts c.from_residual.ensures

pub questions-preserved : goal.questions-preserved
questions-preserved c = (
  rest_with_item question_piece c.args.questions.now c.questions.question-index c.question-item.result c.args.self.now c.questions.self c.put_question.new.self c.questions-test.true c.question-item.is
      c.questions.invariant.0 c.in_ok-put_question.ensures.puts,
  c.in_ok-put_question.ensures.puts.1,
  all_with_item QuestionNumbersFit c.args.questions.now c.questions.question-index c.question-item.result c.questions-test.true c.question-item.is c.questions.invariant.2 c.in_ok-put_question.ensures.fits,
)

pub returns-clause-puts : goal.returns-clause-puts
returns-clause-puts c = rest_is_none question_piece c.args.questions.now c.questions.question-index c.args.self.now c.questions.self c.questions-test.false c.questions.invariant.1 c.questions.invariant.0

pub returns-clause-fit : goal.returns-clause-fit
returns-clause-fit c = all_of_front QuestionNumbersFit c.args.questions.now c.questions.question-index c.questions-test.false c.questions.invariant.2
