use Rattle.std.proofs.Common.{◌≡◌, ◌≤◌, List, ℕ, length, ap, sym, subst, arith}
use Rattle.cd_message.specs.Messages.{Spells}
use Rattle.cd_message.specs.Written.{message_piece, written_message}
use Rattle.cd_message.proofs.InTurn.{written_alone}
use Rattle.cd_message.proofs.WrittenRead.{written_messages_are_read}
use Rattle.cd_message.proofs.message_writing.write.Goals as goal

pub returns-in-Ok-clause-read : goal.returns-in-Ok-clause-read
returns-in-Ok-clause-read c =
    let m = c.args.message.now in
    let bytes : List ℕ = c.put_message.new.self.bytes in
    let is : bytes ≡ written_message m = written_alone (message_piece m) c.new-writing.result c.put_message.new.self c.new-writing.ensures.bytes c.new-writing.ensures.names c.in-Ok.ensures.puts in
    let short : length (written_message m) ≤ 65535 = omega (arith, ap length is, c.in-Ok.ensures.puts.1) in
    λ valid. subst (λ b. Spells b m (length b)) (sym is) (written_messages_are_read m c.in-Ok.ensures.fit valid short)
