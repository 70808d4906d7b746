use Rattle.cd_window.proofs.Popping.{finished_tells_all}
use Rattle.cd_window.proofs.laws.finished_windows_tell_all.Goals as goal

pub returns : goal.returns
returns g c = finished_tells_all g.E.Keyed.view
