use Rattle.std.proofs.Common.{refl}
use Rattle.cd_message.specs.Written.{bytes_piece, header_of}
use Rattle.cd_message.proofs.InTurn.{puts_as}
use Rattle.cd_message.proofs.writing.Writing.put_header.Goals as goal

pub returns-clause-puts : goal.returns-clause-puts
returns-clause-puts c =
    puts_as bytes_piece _ (header_of c.args.message.now) c.args.self.now c.put_bytes.new.self c.put_bytes.result
    (rw (
      c.to_be_bytes.ensures,
      c.to_be_bytes-2.ensures,
      c.count_bytes.ensures,
      c.count_bytes-2.ensures,
      c.count_bytes-3.ensures,
      c.count_bytes-4.ensures,
      c.as_slice.ensures,
      c.as_slice-2.ensures,
      c.as_slice-3.ensures,
      c.as_slice-4.ensures,
    )
    refl)
    c.put_bytes.ensures
