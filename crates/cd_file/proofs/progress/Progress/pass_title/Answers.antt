use Rattle.std.proofs.Common.{ap, ◌∙◌}
use Rattle.cd_file.specs.contracts.progress.Progress.{the_view}
use Rattle.cd_file.proofs.Passings.{begins_title, passes_title, stops_title_head, stops_title}
use Rattle.cd_file.proofs.progress.Progress.pass_title.Goals as goal

pub returns-in-Err : goal.returns-in-Err
returns-in-Err c = λ entries. rw (← c.self.view_is) (stops_title_head (the_view c.self.inside) entries c.args.held.now c.args.at (ap (λ p. p.stage) c.self.view_is ∙ c.requires.stage) c.in-Err.ending c.in-Err.ensures.front)

pub returns-then-is_chunked : goal.returns-then-is_chunked
returns-then-is_chunked c = λ entries.
    rw (c.clear.ensures.items, ← c.self.view_is)
    (begins_title (the_view c.self.inside) entries c.args.held.now c.args.at (ap (λ p. p.stage) c.self.view_is ∙ c.requires.stage) c.self.inside.scan c.in-Ok.head.1 (rw c.if-is_chunked.true at c.in-Ok.ensures.front))

pub returns-in-Ok-title_front : goal.returns-in-Ok-title_front
returns-in-Ok-title_front c = λ entries.
    rw (← c.self.view_is)
    (passes_title (the_view c.self.inside) entries c.args.held.now c.args.at (ap (λ p. p.stage) c.self.view_is ∙ c.requires.stage) _ _ c.in-Ok.head.1 (c.in-Ok-title_front._title.now, c.in-Ok-title_front.size) (rw c.if-is_chunked.false at c.in-Ok.ensures.front) c.in-Ok-title_front.ensures.front c.new-self-inside.ensures)

pub returns-in-Err-title_front : goal.returns-in-Err-title_front
returns-in-Err-title_front c = λ entries.
    rw (← c.self.view_is)
    (stops_title (the_view c.self.inside) entries c.args.held.now c.args.at (ap (λ p. p.stage) c.self.view_is ∙ c.requires.stage) c.in-Ok.head.1 c.in-Err-title_front.ending (rw c.if-is_chunked.false at c.in-Ok.ensures.front) c.in-Err-title_front.ensures.front)
