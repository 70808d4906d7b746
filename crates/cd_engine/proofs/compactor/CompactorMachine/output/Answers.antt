use Rattle.cd_engine.proofs.Closing.{output_known}
use Rattle.cd_engine.proofs.compactor.CompactorMachine.output.Goals as goal

pub returns : goal.returns
returns c = rw (← c.self.view_is) (λ fed cleared h. output_known _ fed cleared _ c.output.ensures h)
