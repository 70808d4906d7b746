use Rattle.std.proofs.Common.{ap, ◌∙◌}
use Rattle.cd_file.specs.contracts.progress.Progress.{the_view}
use Rattle.cd_file.proofs.Passings.{passes_outer, stops_outer}
use Rattle.cd_file.proofs.progress.Progress.pass_outer.Goals as goal

pub returns-in-Ok : goal.returns-in-Ok
returns-in-Ok c = λ entries. rw (← c.self.view_is) (passes_outer (the_view c.self.inside) entries c.args.held.now (ap (λ p. p.stage) c.self.view_is ∙ c.requires.stage) c.in-Ok.is_open _ c.self.inside.scan c.in-Ok.size c.in-Ok.ensures.front)

pub returns-in-Err : goal.returns-in-Err
returns-in-Err c = λ entries. rw (← c.self.view_is) (stops_outer (the_view c.self.inside) entries c.args.held.now (ap (λ p. p.stage) c.self.view_is ∙ c.requires.stage) c.in-Err.ending c.in-Err.ensures.front)
