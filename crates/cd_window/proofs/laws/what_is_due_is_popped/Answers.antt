use Rattle.cd_window.proofs.Ready.{due_is_popped}
use Rattle.cd_window.proofs.laws.what_is_due_is_popped.Goals as goal

pub returns : goal.returns
returns g c = due_is_popped g.E.Keyed.view
