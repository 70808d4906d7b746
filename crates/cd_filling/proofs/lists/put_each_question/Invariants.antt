-- the indexes so far stand before those of the other questions
use Rattle.std.proofs.Common.{◌≡◌, map, drop}
use Rattle.cd_hints.specs.Lists.{kept_question}
use Rattle.cd_table.specs.Growing.{each, in_front, put_question}
use Rattle.cd_filling.proofs.lists.put_each_question.Given as goal

abbrev pub invariant-questions : goal.invariant-questions
invariant-questions l =
    each put_question (map kept_question l.fn.questions) l.fn.tables ≡
    in_front l.indexes.items (each put_question (map kept_question (drop l.question-index l.questions)) l.tables)
