use Rattle.cd_engine.proofs.BlocksCalls.{drained_of, output_told}
use Rattle.cd_engine.proofs.blocks.Blocks.output.Goals as goal

pub returns : goal.returns
returns c =
    let i = c.self.inside in
    output_told c.args.self.now i.window i.filing i.spent c.output.result.now c.self.view_is
    (drained_of c.args.self.now i.window i.filing i.spent c.self.view_is c.self.invariant c.requires) c.output.ensures
