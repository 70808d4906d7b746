use Rattle.std.proofs.Common.{ap, ◌∙◌}
use Rattle.cd_file.specs.contracts.progress.Progress.{the_view}
use Rattle.cd_file.proofs.Passings.{passes_array, stops_array}
use Rattle.cd_file.proofs.progress.Progress.pass_array.Goals as goal

pub returns-in-Ok : goal.returns-in-Ok
returns-in-Ok c = λ entries. rw (← c.self.view_is) (passes_array (the_view c.self.inside) entries c.args.held.now c.args.at (ap (λ p. p.stage) c.self.view_is ∙ c.requires.stage) _ _ c.in-Ok.count c.in-Ok.size c.in-Ok.ensures.front c.new-self-inside.ensures)

pub returns-in-Err : goal.returns-in-Err
returns-in-Err c = λ entries. rw (← c.self.view_is) (stops_array (the_view c.self.inside) entries c.args.held.now c.args.at (ap (λ p. p.stage) c.self.view_is ∙ c.requires.stage) c.in-Err.ending c.in-Err.ensures.front)
