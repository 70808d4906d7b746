use Rattle.cd_engine.proofs.FilesReadBack.{files_read_back, files_kept, closed_parts_read_back}
use Rattle.cd_engine.proofs.laws.files_are_read_back.Goals as goal

pub returns : goal.returns
returns c = record { files = files_read_back; kept = files_kept; closed_parts = closed_parts_read_back }
