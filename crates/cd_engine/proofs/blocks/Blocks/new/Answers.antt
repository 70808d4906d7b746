use Rattle.cd_engine.proofs.BlocksSteps.{new_drained, new_stands}
use Rattle.cd_engine.proofs.blocks.Blocks.new.Goals as goal

pub returns-clause-stands : goal.returns-clause-stands
returns-clause-stands c = new_stands c.args.settings c.in_ok-new.field-0 c.in_ok-new-2.field-0 c.in_ok-new.ensures.stands c.in_ok-new-2.ensures

pub invariant_of-result : goal.invariant_of-result
invariant_of-result c =
    λ _. new_drained c.args.settings c.windows_of.result c.in_ok-new.field-0 c.in_ok-new-2.field-0 c.windows_of.ensures
    c.in_ok-new.ensures.empty c.in_ok-new-2.ensures
