use Rattle.std.proofs.Common.{◌≡◌, map, filter, take}
use Rattle.cd_hints.specs.Items.{kept_malformed}
use Rattle.cd_hints.specs.Records.{record_parts, is_malformed}
use Rattle.cd_record.proofs.block_making.malformed_of.Given as goal

abbrev pub invariant-loop-rec : goal.invariant-loop-rec
invariant-loop-rec l =
    l.items.items ≡ map (kept_malformed l.settings.params l.earliest) (filter is_malformed (map record_parts (take l.rec-index l.recs)))
