use Rattle.cd_window.proofs.Closing.{open_were_open}
use Rattle.cd_window.proofs.laws.open_windows_were_open.Goals as goal

pub returns : goal.returns
returns g c = open_were_open g.E.Keyed.view
