use Rattle.std.proofs.Common.{◌≡◌, true, false, ap, sym, ◌∙◌}
use Rattle.cd_file.specs.contracts.progress.Progress.{the_view}
use Rattle.cd_file.specs.ReadFile.{is_title}
use Rattle.cd_file.proofs.Passings.{passes_break, stops_break}
use Rattle.cd_file.proofs.progress.Progress.pass_break.Goals as goal

pub returns-then-not-is_title : goal.returns-then-not-is_title
returns-then-not-is_title c = λ at entries.
    let other : is_title c.self.inside.title.items ≡ false = rw c.deref.ensures.value at (sym c.is_title.ensures ∙ c.if-not-is_title.true) in
    rw (← c.self.view_is) (stops_break (the_view c.self.inside) entries c.args.held.now at (ap (λ p. p.stage) c.self.view_is ∙ c.requires.stage) c.requires.there other)

pub returns : goal.returns
returns c = λ at entries.
    let same : is_title c.self.inside.title.items ≡ true = rw c.deref.ensures.value at (sym c.is_title.ensures ∙ c.if-not-is_title.false) in
    rw (← c.self.view_is) (passes_break (the_view c.self.inside) entries c.args.held.now at (ap (λ p. p.stage) c.self.view_is ∙ c.requires.stage) _ _ c.requires.there same c.new-self-inside.ensures)
