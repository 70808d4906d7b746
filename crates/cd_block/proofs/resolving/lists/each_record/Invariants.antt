-- What was resolved so far, before what the others resolve to, is what all resolve to.
use Rattle.std.proofs.Common.{◌≡◌, drop}
use Rattle.cd_block.specs.Resolving.{each, resolved_record}
use Rattle.cd_block.proofs.EachInTurn.{with_front}
use Rattle.cd_block.proofs.resolving.lists.each_record.Given as goal

abbrev pub invariant-each : goal.invariant-each
invariant-each l = with_front l.records.items (each (resolved_record l.block) (drop l.index-index l.indexes)) ≡ each (resolved_record l.block) l.indexes
