use Rattle.cd_record.proofs.OneCut.{cut_in_one_way}
use Rattle.cd_record.proofs.laws.runs_are_one.Goals as goal

pub returns : goal.returns
returns c = cut_in_one_way
