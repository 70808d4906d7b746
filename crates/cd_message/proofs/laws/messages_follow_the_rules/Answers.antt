use Rattle.cd_message.proofs.MessagesByRules.{spelled_by_rules, broken_by_rules}
use Rattle.cd_message.proofs.laws.messages_follow_the_rules.Goals as goal

pub returns-clause-spelled : goal.returns-clause-spelled
returns-clause-spelled c = spelled_by_rules

pub returns-clause-broken : goal.returns-clause-broken
returns-clause-broken c = broken_by_rules
