use Rattle.cd_file.proofs.FilesRanged.{read_in_range}
use Rattle.cd_file.proofs.laws.what_is_read_is_in_range.Goals as goal

pub returns : goal.returns
returns c = read_in_range
