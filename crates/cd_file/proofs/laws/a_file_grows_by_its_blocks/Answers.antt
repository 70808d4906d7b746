use Rattle.cd_file.proofs.Begun.{file_begun_none, file_begun_more, file_ended}
use Rattle.cd_file.proofs.laws.a_file_grows_by_its_blocks.Goals as goal

pub returns : goal.returns
returns c = record { begins = file_begun_none; grows = file_begun_more; ends = file_ended }
