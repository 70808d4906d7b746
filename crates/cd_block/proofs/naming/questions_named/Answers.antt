use Rattle.cd_name.specs.Names.{IsName}
use Rattle.cd_block.proofs.EachNamed.{all_more, all_end}
use Rattle.cd_block.proofs.naming.questions_named.Goals as goal

pub each-preserved : goal.each-preserved
each-preserved c = all_more (λ q. IsName q.name) c.args.questions.now c.each.question-index c.question-item.result c.each-test.true c.question-item.is c.as_slice-name.ensures.named c.each.invariant

pub returns : goal.returns
returns c = all_end (λ q. IsName q.name) c.args.questions.now c.each.question-index c.each-test.false c.each.invariant
