use Rattle.cd_engine.proofs.BlocksCalls.{drained_of, cleared_told}
use Rattle.cd_engine.proofs.blocks.Blocks.clear_output.Goals as goal

pub returns-clause-history : goal.returns-clause-history
returns-clause-history c =
    let i = c.self.inside in
    cleared_told c.args.self.now i.window i.filing i.spent _ c.self.view_is
    (drained_of c.args.self.now i.window i.filing i.spent c.self.view_is c.self.invariant c.requires) c.requires c.clear_output.ensures
