use Rattle.cd_name.proofs.WrittenByRule.{names_are_written_by_rule}
use Rattle.cd_name.proofs.laws.names_are_written_by_rule.Goals as goal

pub returns : goal.returns
returns c = names_are_written_by_rule
