use Rattle.std.proofs.Common.{◌≡◌, map, take}
use Rattle.cd_hints.specs.Records.{record_parts}
use Rattle.cd_record.specs.Blocks.{kept_items}
use Rattle.cd_record.proofs.block_making.items_of.Given as goal

abbrev pub invariant-loop-rec : goal.invariant-loop-rec
invariant-loop-rec l = l.items.items ≡ kept_items l.settings.params (map record_parts (take l.rec-index l.recs)) l.earliest
