use Rattle.std.proofs.Common.{◌<◌, arith}
use Rattle.cd_file.specs.Maps.{entries_count}
use Rattle.cd_file.specs.Tables.{table_entries}
use Rattle.cd_file.proofs.Maps.{map_left_out, map_added, map_written}
use Rattle.cd_file.proofs.tables.push_tables.Goals as goal

pub returns-then-count-eq0 : goal.returns-then-count-eq0
returns-then-count-eq0 c = map_left_out _ _ (table_entries c.args.block.now) (omega (arith, c.table_count-count.ensures.exact))

pub returns : goal.returns
returns c =
    let some : 0 < entries_count (table_entries c.args.block.now) = omega (arith, c.table_count-count.ensures.exact) in
    map_added _ _ _ _ (table_entries c.args.block.now) some c.in_ok-push_unsigned.ensures.ok
    (map_written _ _ _ _ _ c.in_ok-push_map_head.ensures.ok c.in_ok-push_table_entries.ensures c.table_count-count.ensures.exact)
