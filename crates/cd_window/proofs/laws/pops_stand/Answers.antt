use Rattle.cd_window.proofs.Popped.{popped_stands}
use Rattle.cd_window.proofs.laws.pops_stand.Goals as goal

pub returns : goal.returns
returns g c = popped_stands g.E.Keyed.view
