-- what is given so far stands before what the other messages give
use Rattle.std.proofs.Common.{◌≡◌, map, drop}
use Rattle.cd_hints.specs.Items.{kept_malformed}
use Rattle.cd_hints.specs.Records.{record_parts}
use Rattle.cd_table.specs.Growing.{each, in_front, put_malformed}
use Rattle.cd_filling.proofs.malformed.put_each_malformed.Given as goal

abbrev pub invariant-malformed : goal.invariant-malformed
invariant-malformed l =
    each put_malformed (map (kept_malformed l.settings.params l.earliest) (map record_parts l.fn.recs)) l.fn.tables ≡
    in_front l.placed.items (each put_malformed (map (kept_malformed l.settings.params l.earliest) (drop l.rec-index (map record_parts l.recs))) l.tables)
