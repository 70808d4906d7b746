use Rattle.cd_file.proofs.FilesReadBack.{file_is_read_back, open_file_is_read_back, file_is_kept}
use Rattle.cd_file.proofs.laws.what_is_written_is_read_back.Goals as goal

pub returns : goal.returns
returns c = record { whole = file_is_read_back; begun = open_file_is_read_back; kept = file_is_kept }
