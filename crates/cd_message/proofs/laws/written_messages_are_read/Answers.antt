use Rattle.cd_message.proofs.WrittenRead.{written_messages_are_read}
use Rattle.cd_message.proofs.laws.written_messages_are_read.Goals as goal

pub returns : goal.returns
returns c = written_messages_are_read
