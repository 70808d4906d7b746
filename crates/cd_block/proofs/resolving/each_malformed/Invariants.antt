-- What was resolved so far, before what the others resolve to, is what all resolve to.
use Rattle.std.proofs.Common.{◌≡◌, drop}
use Rattle.cd_block.specs.Resolving.{each, resolved_malformed}
use Rattle.cd_block.proofs.EachInTurn.{with_front}
use Rattle.cd_block.proofs.resolving.each_malformed.Given as goal

abbrev pub invariant-each : goal.invariant-each
invariant-each l = with_front l.messages.items (each (resolved_malformed l.block) (drop l.one-index l.stored)) ≡ each (resolved_malformed l.block) l.stored
