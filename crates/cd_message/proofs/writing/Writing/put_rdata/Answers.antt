use Rattle.std.proofs.Common.{Err}
use Rattle.std.proofs.lemmas.Result.{err_from_is_err_and}
use Rattle.cd_name.specs.WrittenNames.{Piece, name_piece}
use Rattle.cd_message.specs.Written.{bytes_piece, in_turn, each_in_turn}
use Rattle.cd_message.proofs.InTurn.{puts_in_turn, puts_first_fails}
use Rattle.cd_message.proofs.RdataPieces.{puts_parts, puts_as_it_is}
use Rattle.cd_message.proofs.writing.Writing.put_rdata.Goals as goal

pub returns-in_err-put_bytes-in-Some : goal.returns-in_err-put_bytes-in-Some
returns-in_err-put_bytes-in-Some c =
    let found = c.in-Some.ensures in
    let e = c.in_err-put_bytes-in-Some.field-0.0 in
    let before : Piece = bytes_piece c.in-Some.parts.before.now in
    let others : Piece = in_turn (each_in_turn name_piece found.0) (bytes_piece c.in-Some.parts.after.now) in
    let p = err_from_is_err_and c.from_residual.result c.from_residual.ensures.1 in
    rw (p.1, p.2)
    (puts_parts c.args.rtype c.args.rdata.now _ c.args.self.now c.put_bytes.new.self (Err e) found.1
    (puts_first_fails before others c.args.self.now c.put_bytes.new.self e c.in_err-put_bytes-in-Some.ensures))

pub returns-in_err-put_names-in-Some : goal.returns-in_err-put_names-in-Some
returns-in_err-put_names-in-Some c =
    let found = c.in-Some.ensures in
    let e = c.in_err-put_names-in-Some.field-0.0 in
    let before : Piece = bytes_piece c.in-Some.parts.before.now in
    let names : Piece = each_in_turn name_piece found.0 in
    let after : Piece = bytes_piece c.in-Some.parts.after.now in
    let names_fail = puts_first_fails names after c.put_bytes.new.self c.put_names.new.self e (c.in_err-put_names-in-Some.ensures found.0 found.3 found.2) in
    let p = err_from_is_err_and c.from_residual-in_err-put_names-in-Some.result c.from_residual-in_err-put_names-in-Some.ensures.1 in
    rw (p.1, p.2)
    (puts_parts c.args.rtype c.args.rdata.now _ c.args.self.now c.put_names.new.self (Err e) found.1
    (puts_in_turn before (in_turn names after) c.args.self.now c.put_bytes.new.self c.put_names.new.self (Err e) c.in_ok-put_bytes-in-Some.ensures names_fail))

pub returns-in_ok-put_names-in-Some : goal.returns-in_ok-put_names-in-Some
returns-in_ok-put_names-in-Some c =
    let found = c.in-Some.ensures in
    let new = c.put_bytes-in-Some.new.self in
    let r = c.put_bytes-in-Some.result in
    let before : Piece = bytes_piece c.in-Some.parts.before.now in
    let names : Piece = each_in_turn name_piece found.0 in
    let after : Piece = bytes_piece c.in-Some.parts.after.now in
    let puts = puts_in_turn names after c.put_bytes.new.self c.put_names.new.self new r (c.in_ok-put_names-in-Some.ensures found.0 found.3 found.2) c.put_bytes-in-Some.ensures in
    puts_parts c.args.rtype c.args.rdata.now _ c.args.self.now new r found.1
    (puts_in_turn before (in_turn names after) c.args.self.now c.put_bytes.new.self new r c.in_ok-put_bytes-in-Some.ensures puts)

pub returns-in-None : goal.returns-in-None
returns-in-None c = puts_as_it_is c.args.rtype c.args.rdata.now c.args.self.now c.put_bytes-in-None.new.self c.put_bytes-in-None.result c.in-None.ensures c.put_bytes-in-None.ensures
