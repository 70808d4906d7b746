use Rattle.std.proofs.Common.{None, arith}
use Rattle.cd_file.specs.Maps.{number_entry}
use Rattle.cd_file.proofs.Maps.{entries_count_more}
use Rattle.cd_file.proofs.entries.present_count.Goals as goal

pub overflow_add-count : goal.overflow_add-count
overflow_add-count c = omega (arith, c.entry_count-count.ensures.few)

pub entries-preserved : goal.entries-preserved
entries-preserved c = record {
  exact = omega (arith, c.entries.invariant.exact, c.entry_count-count.ensures.exact, entries_count_more number_entry c.args.entries.now c.entries.entry-index (0, None) c.entries-test.true);
  few = omega (arith, c.entry_count-count.ensures.few);
}
