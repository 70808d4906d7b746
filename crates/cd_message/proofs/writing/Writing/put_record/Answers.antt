use Rattle.std.proofs.Common.{◌++◌, Ok, Err, List, ℕ}
use Rattle.std.specs.Int.{w16, w32, to_be_bytes}
use Rattle.cd_name.specs.WrittenNames.{Piece, name_piece}
use Rattle.cd_message.specs.Written.{bytes_piece, in_turn, with_length, rdata_piece, record_piece}
use Rattle.cd_message.proofs.InTurn.{puts_in_turn, puts_hands_on, puts_as}
use Rattle.cd_message.proofs.writing.Writing.put_record.Goals as goal

pub returns-in_err-put_name-clause-puts : goal.returns-in_err-put_name-clause-puts
unfolding record_piece
returns-in_err-put_name-clause-puts c =
    let r = c.args.record.now in
    let numbers : List ℕ = to_be_bytes w16 r.rtype ++ to_be_bytes w16 r.rclass ++ to_be_bytes w32 r.ttl in
    let rest : Piece = in_turn (bytes_piece numbers) (with_length (rdata_piece r.rtype r.rdata)) in
    let e = c.in_err-put_name.field-0.0 in
    puts_hands_on (name_piece r.owner) rest c.args.self.now c.put_name.new.self e c.from_residual.result
    (puts_as name_piece c.as_slice.result.now r.owner c.args.self.now c.put_name.new.self (Err e) c.as_slice.ensures.bytes c.in_err-put_name.ensures) c.from_residual.ensures

pub returns-in_err-put_bytes-clause-puts : goal.returns-in_err-put_bytes-clause-puts
unfolding record_piece
returns-in_err-put_bytes-clause-puts c =
    let r = c.args.record.now in
    let numbers : List ℕ = to_be_bytes w16 r.rtype ++ to_be_bytes w16 r.rclass ++ to_be_bytes w32 r.ttl in
    let rdata : Piece = with_length (rdata_piece r.rtype r.rdata) in
    let e = c.in_err-put_bytes.field-0.0 in
    let handed = c.from_residual-in_err-put_bytes in
    puts_in_turn (name_piece r.owner) (in_turn (bytes_piece numbers) rdata) c.args.self.now c.put_name.new.self c.put_bytes.new.self handed.result
    (puts_as name_piece c.as_slice.result.now r.owner c.args.self.now c.put_name.new.self (Ok tt) c.as_slice.ensures.bytes c.in_ok-put_name.ensures)
    (puts_hands_on (bytes_piece numbers) rdata c.put_name.new.self c.put_bytes.new.self e handed.result
    (puts_as bytes_piece c.record_numbers.result numbers c.put_name.new.self c.put_bytes.new.self (Err e) c.record_numbers.ensures c.in_err-put_bytes.ensures)
    handed.ensures)

pub returns-clause-puts : goal.returns-clause-puts
unfolding record_piece
returns-clause-puts c =
    let r = c.args.record.now in
    let numbers : List ℕ = to_be_bytes w16 r.rtype ++ to_be_bytes w16 r.rclass ++ to_be_bytes w32 r.ttl in
    let rdata : Piece = with_length (rdata_piece r.rtype r.rdata) in
    let end = c.put_rdata_with_length.new.self in
    puts_in_turn (name_piece r.owner) (in_turn (bytes_piece numbers) rdata) c.args.self.now c.put_name.new.self end c.put_rdata_with_length.result
    (puts_as name_piece c.as_slice.result.now r.owner c.args.self.now c.put_name.new.self (Ok tt) c.as_slice.ensures.bytes c.in_ok-put_name.ensures)
    (puts_in_turn (bytes_piece numbers) rdata c.put_name.new.self c.put_bytes.new.self end c.put_rdata_with_length.result
    (puts_as bytes_piece c.record_numbers.result numbers c.put_name.new.self c.put_bytes.new.self (Ok tt) c.record_numbers.ensures c.in_ok-put_bytes.ensures)
    (puts_as (λ d. with_length (rdata_piece r.rtype d)) c.as_slice-2.result.now r.rdata c.put_bytes.new.self end c.put_rdata_with_length.result c.as_slice-2.ensures c.put_rdata_with_length.ensures))
