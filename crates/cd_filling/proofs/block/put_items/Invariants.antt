-- the items so far stand before those of the other records, and the malformed records so far are aside
use Rattle.std.proofs.Common.{◌≡◌, map, filter, take, drop, length}
use Rattle.cd_hints.specs.Items.{kept_item}
use Rattle.cd_hints.specs.Records.{record_parts, is_item, is_malformed}
use Rattle.cd_table.specs.Growing.{each, in_front, put_item}
use Rattle.cd_table.proofs.Choosing.{chosen}
use Rattle.cd_filling.proofs.block.put_items.Given as goal

abbrev pub invariant-records : goal.invariant-records
invariant-records l =
    (each put_item (chosen is_item (kept_item l.settings.params l.earliest) (map record_parts l.fn.recs.items)) l.fn.tables ≡
    in_front l.items.items (each put_item (chosen is_item (kept_item l.settings.params l.earliest) (drop (length l.yielded) (map record_parts l.fn.recs.items))) l.tables))
    × (map record_parts l.malformed.items ≡ filter is_malformed (take (length l.yielded) (map record_parts l.fn.recs.items)))
