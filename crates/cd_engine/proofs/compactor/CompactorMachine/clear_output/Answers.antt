use Rattle.cd_engine.proofs.Closing.{cleared_stands}
use Rattle.cd_engine.proofs.compactor.CompactorMachine.clear_output.Goals as goal

pub returns-clause-history : goal.returns-clause-history
returns-clause-history c =
    rw (← c.self.view_is)
    (λ fed cleared h. cleared_stands _ c.clear_output.new.self fed cleared c.clear_output.ensures.settings c.clear_output.ensures.history h)
