use Rattle.std.proofs.Common.{◌++◌, Ok, Err}
use Rattle.std.specs.Int.{w16, to_be_bytes}
use Rattle.cd_name.specs.WrittenNames.{name_piece}
use Rattle.cd_message.specs.Written.{bytes_piece, question_piece}
use Rattle.cd_message.proofs.InTurn.{puts_in_turn, puts_hands_on, puts_as}
use Rattle.cd_message.proofs.writing.Writing.put_question.Goals as goal

pub returns-in_err-put_name-clause-puts : goal.returns-in_err-put_name-clause-puts
unfolding question_piece
returns-in_err-put_name-clause-puts c =
    let e = Err c.in_err-put_name.field-0.0 in
    let numbers = to_be_bytes w16 c.args.question.now.rtype ++ to_be_bytes w16 c.args.question.now.rclass in
    puts_hands_on (name_piece c.args.question.now.name) (bytes_piece numbers) c.args.self.now c.put_name.new.self c.in_err-put_name.field-0.0 c.from_residual.result
    (puts_as name_piece c.as_slice.result.now c.args.question.now.name c.args.self.now c.put_name.new.self e c.as_slice.ensures.bytes c.in_err-put_name.ensures) c.from_residual.ensures

pub returns-clause-puts : goal.returns-clause-puts
unfolding question_piece
returns-clause-puts c =
    puts_in_turn (name_piece c.args.question.now.name) _ c.args.self.now c.put_name.new.self c.put_bytes.new.self c.put_bytes.result
    (puts_as name_piece c.as_slice.result.now c.args.question.now.name c.args.self.now c.put_name.new.self (Ok tt) c.as_slice.ensures.bytes c.in_ok-put_name.ensures)
    (puts_as bytes_piece c.question_numbers.result _ c.put_name.new.self c.put_bytes.new.self c.put_bytes.result c.question_numbers.ensures c.put_bytes.ensures)
