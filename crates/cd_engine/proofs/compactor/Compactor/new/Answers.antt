use Rattle.std.proofs.Common.{refl}
use Rattle.cd_engine.proofs.Taking.{new_stands}
use Rattle.cd_engine.proofs.compactor.Compactor.new.Goals as goal

pub returns-clause-stands : goal.returns-clause-stands
returns-clause-stands c = new_stands c.new-2.result _ c.in_ok-blocks.blocks c.new-2.ensures.history refl c.in_ok-blocks.ensures.stands
