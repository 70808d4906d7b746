use Rattle.cd_halves.proofs.QueryBack.{queries_come_back}
use Rattle.cd_halves.proofs.laws.plain_queries_come_back.Goals as goal

pub returns : goal.returns
returns c = queries_come_back
