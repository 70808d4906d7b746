use Rattle.std.proofs.Common.{◌<◌, arith, map}
use Rattle.cd_file.specs.Maps.{number_entry, entries_count}
use Rattle.cd_file.proofs.Maps.{map_left_out, map_added}
use Rattle.cd_file.proofs.entries.push_optional_map.Goals as goal

pub returns-then-present_count-eq0 : goal.returns-then-present_count-eq0
returns-then-present_count-eq0 c =
    map_left_out _ c.args.key (map number_entry c.args.entries.now) (omega (arith, c.present_count.ensures.exact))

pub returns : goal.returns
returns c =
    let some : 0 < entries_count (map number_entry c.args.entries.now) = omega (arith, c.present_count.ensures.exact) in
    map_added _ _ _ c.args.key (map number_entry c.args.entries.now) some c.in_ok-push_unsigned.ensures.ok c.in_ok-push_map.ensures
