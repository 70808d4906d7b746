use Rattle.std.proofs.Common.{map}
use Rattle.cd_pairing.proofs.Meeting.{drops_more, drops_inside}
use Rattle.cd_pairing.proofs.queue.drop_closed.Goals as goal

pub closed-preserved : goal.closed-preserved
closed-preserved g c =
    let es = map g.E.Keyed.view c.args.events.now in
    let dropped = drops_more c.args.windows.now es c.args.waiting.now.items c.closed.waiting.items c.pop_front.new.self.items c.args.now c.closed.invariant.dropped c.closed-test.ensures c.pop_front.ensures.rest in
    record {
      dropped = dropped;
      inside = drops_inside c.args.windows.now es c.args.waiting.now.items c.pop_front.new.self.items c.args.now dropped c.requires.waiting_in;
    }
