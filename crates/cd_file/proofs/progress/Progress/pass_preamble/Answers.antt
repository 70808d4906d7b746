use Rattle.std.proofs.Common.{ap, ◌∙◌}
use Rattle.cd_file.specs.contracts.progress.Progress.{the_view}
use Rattle.cd_file.specs.declared.fronts.ending.Unread.TheVariants as unread
use Rattle.cd_file.proofs.Passings.{passes_preamble, stops_preamble}
use Rattle.cd_file.proofs.progress.Progress.pass_preamble.Goals as goal

pub returns-in-Ok : goal.returns-in-Ok
returns-in-Ok c = λ entries. rw (← c.self.view_is) (passes_preamble (the_view c.self.inside) entries c.args.held.now c.args.at (ap (λ p. p.stage) c.self.view_is ∙ c.requires.stage) _ c.preamble_front.new.scan (c.in-Ok.entries, c.in-Ok.size) c.in-Ok.ensures.front)

pub returns-in-Err-Ended : goal.returns-in-Err-Ended
returns-in-Err-Ended c = λ entries.
    rw (← c.self.view_is)
    (stops_preamble (the_view c.self.inside) entries c.args.held.now c.args.at (ap (λ p. p.stage) c.self.view_is ∙ c.requires.stage) (unread.Ended c.in-Err-Ended.ending) c.preamble_front.new.scan (rw c.in-Err-Ended.field-0-is at c.in-Err-Ended.ensures.front) c.in-Err-Ended.ensures.stands)

pub returns-in-Err-NoMemory : goal.returns-in-Err-NoMemory
returns-in-Err-NoMemory c = λ entries. rw (← c.self.view_is) (stops_preamble (the_view c.self.inside) entries c.args.held.now c.args.at (ap (λ p. p.stage) c.self.view_is ∙ c.requires.stage) unread.NoMemory c.preamble_front.new.scan tt c.in-Err-NoMemory.ensures.stands)
