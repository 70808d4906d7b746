-- What was resolved so far, before what the others resolve to, is what all resolve to.
use Rattle.std.proofs.Common.{◌≡◌, drop}
use Rattle.cd_block.specs.Resolving.{each, resolved_item}
use Rattle.cd_block.proofs.EachInTurn.{with_front}
use Rattle.cd_block.proofs.resolving.each_item.Given as goal

abbrev pub invariant-each : goal.invariant-each
invariant-each l = with_front l.items.items (each (resolved_item l.block) (drop l.one-index l.stored)) ≡ each (resolved_item l.block) l.stored
