use Rattle.std.proofs.Common.{arith}
use Rattle.cd_file.specs.Tables.{table_entries}
use Rattle.cd_file.proofs.Maps.{map_count_none, map_count_some}
use Rattle.cd_file.proofs.tables.tables_count.Goals as goal

pub returns-then-table_count-eq0-clause-exact : goal.returns-then-table_count-eq0-clause-exact
returns-then-table_count-eq0-clause-exact c = map_count_none (table_entries c.args.block.now) (omega (arith, c.table_count.ensures.exact))

pub returns-else-table_count-eq0-clause-exact : goal.returns-else-table_count-eq0-clause-exact
returns-else-table_count-eq0-clause-exact c = map_count_some (table_entries c.args.block.now) (omega (arith, c.table_count.ensures.exact))
