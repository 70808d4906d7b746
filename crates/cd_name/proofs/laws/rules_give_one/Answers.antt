use Rattle.cd_name.proofs.OneAnswer.{rules_give_one}
use Rattle.cd_name.proofs.laws.rules_give_one.Goals as goal

pub returns : goal.returns
returns c = rules_give_one
