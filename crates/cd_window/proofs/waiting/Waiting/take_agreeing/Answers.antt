-- the first event that agrees and waits still goes
use Rattle.std.proofs.Common.{None, Some, ap, sym, ◌∙◌}
use Rattle.cd_window.specs.Waiting.{waits_of}
use Rattle.cd_window.specs.Lists.{shown}
use Rattle.cd_window.proofs.Agreeing.{found_agreeing, agreeing_in, left_without}
use Rattle.cd_window.proofs.waiting.Waiting.take_agreeing.Goals as goal

pub remove-taken-requires-clause-slot : goal.remove-taken-requires-clause-slot
remove-taken-requires-clause-slot c = agreeing_in c.args.windows.now c.args.side c.args.now c.args.self.now (waits_of c.args.waiter.now) c.in-Some.slot c.in-Some.ensures

pub returns-in-None-clause-found : goal.returns-in-None-clause-found
returns-in-None-clause-found c = sym (found_agreeing c.args.windows.now c.args.side c.args.now c.args.self.now (waits_of c.args.waiter.now) None c.in-None.ensures)

pub returns-in-Some-clause-found : goal.returns-in-Some-clause-found
returns-in-Some-clause-found c = sym (found_agreeing c.args.windows.now c.args.side c.args.now c.args.self.now (waits_of c.args.waiter.now) (Some c.in-Some.slot) c.in-Some.ensures
    ∙ ap (λ o. Some (shown o).index) c.remove-taken.ensures.value)

pub returns-in-Some-clause-left : goal.returns-in-Some-clause-left
returns-in-Some-clause-left c = left_without c.args.self.now c.remove-taken.new.self c.remove-taken.result c.in-Some.slot
    (agreeing_in c.args.windows.now c.args.side c.args.now c.args.self.now (waits_of c.args.waiter.now) c.in-Some.slot c.in-Some.ensures)
    c.requires.rising c.remove-taken.ensures.removes c.remove-taken.ensures.value
