-- the first event waits no more and goes, or waits still
use Rattle.std.proofs.Common.{refl, ◌∙◌}
use Rattle.cd_window.specs.Lists.{slots_in}
use Rattle.cd_window.proofs.Closed.{closes, stays}
use Rattle.cd_window.proofs.Listing.{first_in}
use Rattle.cd_window.proofs.waiting.Waiting.close.Goals as goal

pub discard-requires-clause-slot : goal.discard-requires-clause-slot
discard-requires-clause-slot c = first_in (slots_in c.closing.self) c.in-Some.slot c.in-Some.ensures.front

pub closing-preserved : goal.closing-preserved
closing-preserved c =
    let C = closes c.args.windows.now c.args.side c.args.now c.closing.self c.discard.new.self c.in-Some.slot c.closing.invariant.listed c.discard.ensures.removes c.in-Some.ensures.front c.in-Some.ensures.closed c.closing.invariant.rising c.closing.invariant.before in
    record { listed = c.discard.ensures.listed; filled = c.discard.ensures.filled; rising = C.rising; before = C.before; same = C.same ∙ c.closing.invariant.same }

pub closing-smaller : goal.closing-smaller
closing-smaller c =
    let C = closes c.args.windows.now c.args.side c.args.now c.closing.self c.discard.new.self c.in-Some.slot c.closing.invariant.listed c.discard.ensures.removes c.in-Some.ensures.front c.in-Some.ensures.closed c.closing.invariant.rising c.closing.invariant.before in
    C.shorter

pub returns-clause-closed : goal.returns-clause-closed
returns-clause-closed c = stays c.args.windows.now c.args.side c.args.now c.closing.self c.closing.invariant.rising c.closing.invariant.before (c.in_default.ensures.still refl) ∙ c.closing.invariant.same
