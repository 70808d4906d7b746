use Rattle.std.proofs.Common.{◌≡◌, map, take}
use Rattle.cd_hints.specs.Lists.{kept_question}
use Rattle.cd_hints.proofs.keeping.lists.copy_questions.Given as goal

-- the list so far is what is kept of the questions so far
abbrev pub invariant-questions : goal.invariant-questions
invariant-questions l = l.list.items ≡ map kept_question (take l.question-index l.questions)
