use Rattle.cd_name.proofs.WrittenRead.{written_names_are_read}
use Rattle.cd_name.proofs.laws.written_names_are_read.Goals as goal

pub returns : goal.returns
returns c = written_names_are_read
