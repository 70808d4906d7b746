use Rattle.cd_file.proofs.FileGrows.{files_grow}
use Rattle.cd_file.proofs.laws.files_grow.Goals as goal

pub returns : goal.returns
returns c = files_grow
