-- one turn more, and the end
use Rattle.std.proofs.Common.{map, ap, sym}
use Rattle.cd_hints.specs.Lists.{kept_question}
use Rattle.cd_table.specs.Growing.{put_question}
use Rattle.cd_table.proofs.Choosing.{mapped_turn, mapped_given}
use Rattle.cd_filling.proofs.lists.put_each_question.Goals as goal

pub questions-preserved : goal.questions-preserved
questions-preserved c =
    mapped_turn put_question kept_question (map kept_question c.args.questions.now) c.args.questions.now c.questions.question-index c.question-item.result c.in_ok-index.index c.questions.indexes.items c.push.new.self.items c.args.tables.now c.questions.tables c.put_question.new.tables
    c.questions.invariant c.questions-test.true c.question-item.is c.in_ok-push.ensures.items c.in_ok-index.ensures.index c.in_ok-index.ensures.tables

pub returns-clause-tables : goal.returns-clause-tables
returns-clause-tables c =
    sym (ap (λ a. a.tables) (mapped_given put_question kept_question (map kept_question c.args.questions.now) c.args.questions.now c.questions.question-index c.questions.indexes.items c.args.tables.now c.questions.tables c.questions.invariant c.questions-test.false))

pub returns-clause-indexes : goal.returns-clause-indexes
returns-clause-indexes c =
    sym (ap (λ a. a.value) (mapped_given put_question kept_question (map kept_question c.args.questions.now) c.args.questions.now c.questions.question-index c.questions.indexes.items c.args.tables.now c.questions.tables c.questions.invariant c.questions-test.false))
