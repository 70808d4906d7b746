use Rattle.cd_window.proofs.Closing.{windows_close_in_order}
use Rattle.cd_window.proofs.laws.windows_close_in_order.Goals as goal

pub returns : goal.returns
returns g c = windows_close_in_order g.E.Keyed.view
