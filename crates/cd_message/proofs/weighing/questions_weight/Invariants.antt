use Rattle.std.proofs.Common.{◌≡◌, ◌≤◌, ◌*◌, take}
use Rattle.std.specs.List.{sum_by}
use Rattle.cd_message.specs.Weights.{question_weight}
use Rattle.cd_message.proofs.weighing.questions_weight.Given as goal

abbrev pub invariant-questions : goal.invariant-questions
invariant-questions l = record { total : l.total ≡ sum_by question_weight (take l.question-index l.questions); bound : l.total ≤ 303 * l.question-index }
