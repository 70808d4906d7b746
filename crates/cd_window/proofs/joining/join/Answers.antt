-- an event that is neither closes windows alone
use Rattle.cd_window.specs.Lists.{waits_in}
use Rattle.cd_window.proofs.Meeting.{after_is}
use Rattle.cd_window.proofs.joining.join.Goals as goal

pub close-requires-clause-before : goal.close-requires-clause-before
close-requires-clause-before g c = after_is c.args.next (g.E.Keyed.view c.args.event.now).weight c.after_next-after.result (waits_in c.args.queries.now) c.after_next-after.ensures c.requires.queries.before

pub close-requires-in-Neither-clause-before : goal.close-requires-in-Neither-clause-before
close-requires-in-Neither-clause-before g c = after_is c.args.next (g.E.Keyed.view c.args.event.now).weight c.after_next-after.result (waits_in c.args.responses.now) c.after_next-after.ensures c.requires.responses.before
