use Rattle.std.proofs.Common.{[], ◌∷◌, Ok, ◌-◌, length, ap}
use Rattle.cd_name.specs.WrittenNames.{Piece}
use Rattle.cd_message.specs.Written.{rdata_piece, bytes_piece}
use Rattle.cd_message.proofs.InTurn.{puts_in_turn}
use Rattle.cd_message.proofs.LengthBefore.{length_written}
use Rattle.cd_message.proofs.writing.Writing.put_rdata_with_length.Goals as goal

pub returns : goal.returns
returns c =
    let piece : Piece = rdata_piece c.args.rtype c.args.rdata.now in
    let at = length c.as_slice-at.result.now in
    let size = length c.as_slice.result.now - at - 2 in
    let puts = puts_in_turn (bytes_piece (0 ∷ 0 ∷ [])) piece c.args.self.now c.put_bytes.new.self c.put_rdata.new.self (Ok tt) c.in_ok-put_bytes.ensures c.in_ok-put_rdata.ensures in
    length_written piece c.args.self.now c.put_rdata.new.self at size c.to_be_bytes.result c.set.new.self c.set-2.new.self puts
    (ap length c.as_slice-at.ensures) (ap (λ t. length t - at - 2) c.as_slice.ensures) c.to_be_bytes.ensures c.set.ensures c.set-2.ensures
