use Rattle.cd_engine.proofs.BlocksCalls.{drained_of, pushed_told}
use Rattle.cd_engine.proofs.Traffic.{traffic_pushed}
use Rattle.cd_engine.proofs.blocks.Blocks.push.Goals as goal

pub file_ready-requires-clause-traffic : goal.file_ready-requires-clause-traffic
file_ready-requires-clause-traffic c =
    let i = c.self.inside in
    let D = drained_of c.args.self.now i.window i.filing i.spent c.self.view_is c.self.invariant c.requires.fresh in
    traffic_pushed i.window c.args.event c.push.new.self D.traffic c.requires.weight c.in-Ok.ensures.pushed

pub returns-clause-history : goal.returns-clause-history
returns-clause-history c =
    let i = c.self.inside in
    pushed_told c.args.self.now i.window i.filing i.spent c.args.event c.push.new.self c.file_ready.new.window c.file_ready.new.filing c.self.view_is
    c.in-Ok.ensures.stands c.in_ok-file_ready.ensures
