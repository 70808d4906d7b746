use Rattle.std.proofs.Common.{Ok, Err}
use Rattle.cd_name.specs.WrittenNames.{Piece}
use Rattle.cd_message.specs.Written.{bytes_piece, in_turn, each_in_turn, header_of, question_piece, record_piece, message_piece}
use Rattle.cd_message.proofs.InTurn.{puts_in_turn, puts_hands_on, puts_as}
use Rattle.cd_message.proofs.writing.Writing.put_message.Goals as goal

pub returns-in_err-put_header-clause-puts : goal.returns-in_err-put_header-clause-puts
unfolding message_piece
returns-in_err-put_header-clause-puts c =
    let m = c.args.message.now in
    let additional : Piece = each_in_turn record_piece m.additional in
    let authority : Piece = in_turn (each_in_turn record_piece m.authority) additional in
    let answers : Piece = in_turn (each_in_turn record_piece m.answers) authority in
    let questions : Piece = in_turn (each_in_turn question_piece m.questions) answers in
    puts_hands_on (bytes_piece (header_of m)) questions c.args.self.now c.put_header.new.self c.in_err-put_header.field-0.0 c.from_residual.result c.in_err-put_header.ensures.puts c.from_residual.ensures

pub returns-in_err-put_questions-clause-puts : goal.returns-in_err-put_questions-clause-puts
unfolding message_piece
returns-in_err-put_questions-clause-puts c =
    let m = c.args.message.now in
    let additional : Piece = each_in_turn record_piece m.additional in
    let authority : Piece = in_turn (each_in_turn record_piece m.authority) additional in
    let answers : Piece = in_turn (each_in_turn record_piece m.answers) authority in
    let questions : Piece = each_in_turn question_piece m.questions in
    let e = c.in_err-put_questions.field-0.0 in
    let handed = c.from_residual-in_err-put_questions in
    puts_in_turn (bytes_piece (header_of m)) (in_turn questions answers) c.args.self.now c.put_header.new.self c.put_questions.new.self handed.result c.in_ok-put_header.ensures.puts
    (puts_hands_on questions answers c.put_header.new.self c.put_questions.new.self e handed.result
    (puts_as (each_in_turn question_piece) c.as_slice.result.now m.questions c.put_header.new.self c.put_questions.new.self (Err e) c.as_slice.ensures c.in_err-put_questions.ensures.puts) handed.ensures)

pub returns-in_err-put_records-clause-puts : goal.returns-in_err-put_records-clause-puts
unfolding message_piece
returns-in_err-put_records-clause-puts c =
    let m = c.args.message.now in
    let additional : Piece = each_in_turn record_piece m.additional in
    let authority : Piece = in_turn (each_in_turn record_piece m.authority) additional in
    let answers : Piece = each_in_turn record_piece m.answers in
    let questions : Piece = each_in_turn question_piece m.questions in
    let e = c.in_err-put_records.field-0.0 in
    let handed = c.from_residual-in_err-put_records in
    puts_in_turn (bytes_piece (header_of m)) (in_turn questions (in_turn answers authority)) c.args.self.now c.put_header.new.self c.put_records.new.self handed.result c.in_ok-put_header.ensures.puts
    (puts_in_turn questions (in_turn answers authority) c.put_header.new.self c.put_questions.new.self c.put_records.new.self handed.result
    (puts_as (each_in_turn question_piece) c.as_slice.result.now m.questions c.put_header.new.self c.put_questions.new.self (Ok tt) c.as_slice.ensures c.in_ok-put_questions.ensures.puts)
    (puts_hands_on answers authority c.put_questions.new.self c.put_records.new.self e handed.result
    (puts_as (each_in_turn record_piece) c.as_slice-2.result.now m.answers c.put_questions.new.self c.put_records.new.self (Err e) c.as_slice-2.ensures c.in_err-put_records.ensures.puts) handed.ensures))

pub returns-in_err-put_records-2-clause-puts : goal.returns-in_err-put_records-2-clause-puts
unfolding message_piece
returns-in_err-put_records-2-clause-puts c =
    let m = c.args.message.now in
    let additional : Piece = each_in_turn record_piece m.additional in
    let authority : Piece = each_in_turn record_piece m.authority in
    let answers : Piece = each_in_turn record_piece m.answers in
    let questions : Piece = each_in_turn question_piece m.questions in
    let e = c.in_err-put_records-2.field-0.0 in
    let handed = c.from_residual-in_err-put_records-2 in
    let end = c.put_records-2.new.self in
    puts_in_turn (bytes_piece (header_of m)) (in_turn questions (in_turn answers (in_turn authority additional))) c.args.self.now c.put_header.new.self end handed.result c.in_ok-put_header.ensures.puts
    (puts_in_turn questions (in_turn answers (in_turn authority additional)) c.put_header.new.self c.put_questions.new.self end handed.result
    (puts_as (each_in_turn question_piece) c.as_slice.result.now m.questions c.put_header.new.self c.put_questions.new.self (Ok tt) c.as_slice.ensures c.in_ok-put_questions.ensures.puts)
    (puts_in_turn answers (in_turn authority additional) c.put_questions.new.self c.put_records.new.self end handed.result
    (puts_as (each_in_turn record_piece) c.as_slice-2.result.now m.answers c.put_questions.new.self c.put_records.new.self (Ok tt) c.as_slice-2.ensures c.in_ok-put_records.ensures.puts)
    (puts_hands_on authority additional c.put_records.new.self end e handed.result
    (puts_as (each_in_turn record_piece) c.as_slice-3.result.now m.authority c.put_records.new.self end (Err e) c.as_slice-3.ensures c.in_err-put_records-2.ensures.puts) handed.ensures)))

pub returns-clause-puts : goal.returns-clause-puts
unfolding message_piece
returns-clause-puts c =
    let m = c.args.message.now in
    let additional : Piece = each_in_turn record_piece m.additional in
    let authority : Piece = each_in_turn record_piece m.authority in
    let answers : Piece = each_in_turn record_piece m.answers in
    let questions : Piece = each_in_turn question_piece m.questions in
    let end = c.put_records-3.new.self in
    let r = c.put_records-3.result in
    puts_in_turn (bytes_piece (header_of m)) (in_turn questions (in_turn answers (in_turn authority additional))) c.args.self.now c.put_header.new.self end r c.in_ok-put_header.ensures.puts
    (puts_in_turn questions (in_turn answers (in_turn authority additional)) c.put_header.new.self c.put_questions.new.self end r
    (puts_as (each_in_turn question_piece) c.as_slice.result.now m.questions c.put_header.new.self c.put_questions.new.self (Ok tt) c.as_slice.ensures c.in_ok-put_questions.ensures.puts)
    (puts_in_turn answers (in_turn authority additional) c.put_questions.new.self c.put_records.new.self end r
    (puts_as (each_in_turn record_piece) c.as_slice-2.result.now m.answers c.put_questions.new.self c.put_records.new.self (Ok tt) c.as_slice-2.ensures c.in_ok-put_records.ensures.puts)
    (puts_in_turn authority additional c.put_records.new.self c.put_records-2.new.self end r
    (puts_as (each_in_turn record_piece) c.as_slice-3.result.now m.authority c.put_records.new.self c.put_records-2.new.self (Ok tt) c.as_slice-3.ensures c.in_ok-put_records-2.ensures.puts)
    (puts_as (each_in_turn record_piece) c.as_slice-4.result.now m.additional c.put_records-2.new.self end r c.as_slice-4.ensures c.put_records-3.ensures.puts))))
