use Rattle.std.proofs.Common.{length, map}
use Rattle.cd_pairing.specs.Waiting.{DropsClosed, AreInside}
use Rattle.cd_pairing.proofs.queue.drop_closed.Given as goal

abbrev pub invariant-closed : goal.invariant-closed
invariant-closed g l = record {
  dropped : DropsClosed l.windows (map g.E.Keyed.view l.events) l.initial.waiting.items l.waiting.items l.now;
  inside : AreInside (map g.E.Keyed.view l.events) l.waiting.items;
}

abbrev pub decreases-closed : goal.decreases-closed
decreases-closed g l = length l.waiting.items
