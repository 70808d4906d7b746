use Rattle.std.proofs.Common.{sym, subst}
use Rattle.cd_window.specs.History.{StandsFor}
use Rattle.cd_window.proofs.Empty.{finished_stands}
use Rattle.cd_window.proofs.window.Window.finish.Goals as goal

pub returns-clause-stands : goal.returns-clause-stands
returns-clause-stands g c = λ pushed popped S.
    finished_stands g.E.Keyed.view _ pushed popped (subst (λ x. StandsFor g.E.Keyed.view x pushed popped) (sym c.self.view_is) S)
