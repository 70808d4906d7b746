use Rattle.std.proofs.Common.{ap, sym, subst, ◌∙◌}
use Rattle.cd_file.specs.contracts.progress.Progress.{the_view}
use Rattle.cd_file.specs.Passing.{Progressed, IsScanned}
use Rattle.cd_file.proofs.Passings.{stops_blocks}
use Rattle.cd_file.proofs.progress.Progress.pass_block.Goals as goal

pub returns-in-Some : goal.returns-in-Some
returns-in-Some c = λ entries few.
    rw (← c.self.view_is)
    (stops_blocks (the_view c.self.inside) entries c.args.held.now c.args.at c.args.left (ap (λ p. p.stage) c.self.view_is ∙ c.requires.stage) c.in-Some.last c.in-Some.ensures (subst (λ (p : Progressed). IsScanned p.stage p.mark c.args.held.now) (sym c.self.view_is) c.requires.scanned))
