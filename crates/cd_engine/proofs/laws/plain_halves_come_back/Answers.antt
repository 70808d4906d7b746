use Rattle.cd_engine.proofs.HalvesBack.{plain_halves_back}
use Rattle.cd_engine.proofs.laws.plain_halves_come_back.Goals as goal

pub returns : goal.returns
returns c = plain_halves_back
