use Rattle.cd_window.proofs.Pushing.{pushed_stands}
use Rattle.cd_window.proofs.laws.pushes_stand.Goals as goal

pub returns : goal.returns
returns g c = pushed_stands g.E.Keyed.view
