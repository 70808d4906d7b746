-- the list of the indexes is the list of the questions
use Rattle.std.proofs.Common.{map, ap, ◌∙◌}
use Rattle.cd_hints.specs.Lists.{kept_question}
use Rattle.cd_table.proofs.Listed.{questions_put}
use Rattle.cd_filling.proofs.lists.put_questions.Goals as goal

pub returns-clause-tables : goal.returns-clause-tables
returns-clause-tables c =
    let put = questions_put (map kept_question c.args.questions.now) c.as_slice.result.now c.args.tables.now c.put_each_question.new.tables
    (c.as_slice.ensures.value ∙ c.in_ok-put_each_question.ensures.indexes) c.in_ok-put_each_question.ensures.tables in
    c.in_ok-index.ensures.tables ∙ ap (λ a. a.tables) put

pub returns-clause-index : goal.returns-clause-index
returns-clause-index c =
    let put = questions_put (map kept_question c.args.questions.now) c.as_slice.result.now c.args.tables.now c.put_each_question.new.tables
    (c.as_slice.ensures.value ∙ c.in_ok-put_each_question.ensures.indexes) c.in_ok-put_each_question.ensures.tables in
    c.in_ok-index.ensures.index ∙ ap (λ a. a.value) put
