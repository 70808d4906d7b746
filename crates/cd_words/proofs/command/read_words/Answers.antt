use Rattle.std.proofs.Common.{rules}
use Rattle.cd_words.specs.Commands.BreaksRuleAt.{no_command}
use Rattle.cd_words.proofs.Commands.{fault_of_compact, fault_of_check, fault_of_inspect, fault_of_drill}
use Rattle.cd_words.proofs.command.read_words.Goals as goal

pub returns-in_err-settings-clause-fault : goal.returns-in_err-settings-clause-fault
returns-in_err-settings-clause-fault c = search (rules, fault_of_compact)

pub returns-in_err-max_input-clause-fault : goal.returns-in_err-max_input-clause-fault
returns-in_err-max_input-clause-fault c = search (rules, fault_of_check)

pub returns-in_err-max_input-2-clause-fault : goal.returns-in_err-max_input-2-clause-fault
returns-in_err-max_input-2-clause-fault c = search (rules, fault_of_inspect)

pub returns-in_err-settings-2-clause-fault : goal.returns-in_err-settings-2-clause-fault
returns-in_err-settings-2-clause-fault c = search (rules, fault_of_drill)

pub returns-clause-fault : goal.returns-clause-fault
returns-clause-fault c = no_command (record {
  not_compact = λ h. let yes = c.begins_with.ensures.1 h in absurd (cc);
  not_check = λ h. let yes = c.begins_with-2.ensures.1 h in absurd (cc);
  not_inspect = λ h. let yes = c.begins_with-3.ensures.1 h in absurd (cc);
  not_drill = λ h. let yes = c.begins_with-4.ensures.1 h in absurd (cc);
})
