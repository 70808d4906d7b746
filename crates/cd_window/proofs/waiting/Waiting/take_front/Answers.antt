-- the first event stands at the position and goes, or none stands there
use Rattle.std.proofs.Common.{refl}
use Rattle.cd_window.specs.Lists.{slots_in}
use Rattle.cd_window.proofs.Closed.{front_taken, none_taken}
use Rattle.cd_window.proofs.Listing.{first_in}
use Rattle.cd_window.proofs.waiting.Waiting.take_front.Goals as goal

pub discard-requires-clause-slot : goal.discard-requires-clause-slot
discard-requires-clause-slot c = first_in (slots_in c.args.self.now) c.in-Some.slot c.in-Some.ensures.front

pub returns-in-Some-clause-left : goal.returns-in-Some-clause-left
returns-in-Some-clause-left c = front_taken c.args.self.now c.discard.new.self c.in-Some.slot c.args.position c.requires.listed c.discard.ensures.removes c.in-Some.ensures.front c.in-Some.ensures.at c.requires.rising

pub returns-in-None-clause-left : goal.returns-in-None-clause-left
returns-in-None-clause-left c = none_taken c.args.self.now c.args.position c.requires.rising c.requires.first (c.in-None.ensures.other refl)
