use Rattle.std.proofs.Common.{◌≡◌, ◌≤◌, false, subst}
use Rattle.cd_window.specs.Seen.{is_ready}
use Rattle.cd_window.proofs.Rising.{weight_bounded}
use Rattle.cd_window.proofs.window.Window.held_weight.Goals as goal

pub returns-clause-bounded : goal.returns-clause-bounded
returns-clause-bounded g c = subst (λ x. is_ready g.E.Keyed.view x ≡ false → c.self.inside.weight ≤ x.windows.bytes) c.self.view_is
    (weight_bounded g.E.Keyed.view _ c.self.inside.count c.self.inside.weight c.self.invariant.0)
