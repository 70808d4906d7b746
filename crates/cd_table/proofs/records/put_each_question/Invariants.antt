-- what is given so far stands before what the others give
use Rattle.std.proofs.Common.{◌≡◌, drop}
use Rattle.cd_table.specs.Growing.{each, in_front, put_question}
use Rattle.cd_table.proofs.records.put_each_question.Given as goal

abbrev pub invariant-questions : goal.invariant-questions
invariant-questions l =
    each put_question l.fn.questions l.fn.tables ≡ in_front l.indexes.items (each put_question (drop l.question-index l.questions) l.tables)
