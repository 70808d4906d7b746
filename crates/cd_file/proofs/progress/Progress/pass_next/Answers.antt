use Rattle.std.proofs.Common.{◌≡◌, None, ap, sym, subst, ◌∙◌}
use Rattle.cd_file.specs.contracts.progress.Progress.{the_view}
use Rattle.cd_file.specs.ReadFile.{block_front}
use Rattle.cd_file.specs.Passing.{Progressed, end_of_blocks}
use Rattle.cd_file.specs.declared.fronts.ending.Unread.TheVariants as unread
use Rattle.cd_file.proofs.Passings.{passes_block, stops_block}
use Rattle.cd_file.proofs.progress.Progress.pass_next.Goals as goal

pub returns-in-Ok : goal.returns-in-Ok
returns-in-Ok c = λ entries few.
    rw (c.one_less.ensures, ← c.self.view_is)
    (passes_block (the_view c.self.inside) entries c.args.held.now c.args.at c.args.left (ap (λ p. p.stage) c.self.view_is ∙ c.requires.stage) _ _ (c.in-Ok.block, c.in-Ok.size) (subst (λ (p : Progressed). end_of_blocks p.is_open c.args.left c.args.held.now ≡ None) (sym c.self.view_is) c.requires.goes) (ap (λ n. block_front n c.args.at c.args.held.now) few ∙ c.in-Ok.ensures.front) c.new-self-inside.ensures)

pub returns-in-Err-Ended : goal.returns-in-Err-Ended
returns-in-Err-Ended c = λ entries few.
    let done =
    stops_block (the_view c.self.inside) entries c.args.held.now c.args.at c.args.left (ap (λ p. p.stage) c.self.view_is ∙ c.requires.stage) (unread.Ended c.in-Err-Ended.ending) c.block_front.new.scan (subst (λ (p : Progressed). end_of_blocks p.is_open c.args.left c.args.held.now ≡ None) (sym c.self.view_is) c.requires.goes)
    (ap (λ n. block_front n c.args.at c.args.held.now) few ∙ (rw c.in-Err-Ended.field-0-is at c.in-Err-Ended.ensures.front)) c.in-Err-Ended.ensures.stands in
    rw (c.in-Err-Ended.ending-is, ← c.self.view_is) done

pub returns-in-Err-NoMemory : goal.returns-in-Err-NoMemory
returns-in-Err-NoMemory c = λ entries few.
    rw (← c.self.view_is) (stops_block (the_view c.self.inside) entries c.args.held.now c.args.at c.args.left (ap (λ p. p.stage) c.self.view_is ∙ c.requires.stage) unread.NoMemory c.block_front.new.scan (subst (λ (p : Progressed). end_of_blocks p.is_open c.args.left c.args.held.now ≡ None) (sym c.self.view_is) c.requires.goes) tt c.in-Err-NoMemory.ensures.stands)
