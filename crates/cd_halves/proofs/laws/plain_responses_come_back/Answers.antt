use Rattle.cd_halves.proofs.ResponseBack.{responses_come_back}
use Rattle.cd_halves.proofs.laws.plain_responses_come_back.Goals as goal

pub returns : goal.returns
returns c = responses_come_back
