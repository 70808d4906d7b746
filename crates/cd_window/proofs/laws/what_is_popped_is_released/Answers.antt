use Rattle.cd_window.proofs.Popping.{popped_is_released}
use Rattle.cd_window.proofs.laws.what_is_popped_is_released.Goals as goal

pub returns : goal.returns
returns g c = popped_is_released g.E.Keyed.view
