use Rattle.cd_file.proofs.KeptTold.{parts_have_bytes, blocks_have_params}
use Rattle.cd_file.proofs.laws.parts_have_bytes.Goals as goal

pub returns : goal.returns
returns c = record { parts = parts_have_bytes; params = blocks_have_params }
