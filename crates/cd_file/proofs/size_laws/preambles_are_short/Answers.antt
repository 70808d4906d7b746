use Rattle.cd_file.proofs.PreambleSize.{preamble_short}
use Rattle.cd_file.proofs.size_laws.preambles_are_short.Goals as goal

pub returns : goal.returns
returns c = preamble_short
