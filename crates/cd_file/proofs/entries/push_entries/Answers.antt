use Rattle.std.proofs.Common.{None}
use Rattle.cd_cbor.proofs.Spelled.{grown}
use Rattle.cd_file.specs.Maps.{number_entry}
use Rattle.cd_file.proofs.Maps.{entries_begun, entries_spelling_more}
use Rattle.cd_file.proofs.entries.push_entries.Goals as goal

pub entries-init : goal.entries-init
entries-init c = entries_begun _

pub entries-preserved : goal.entries-preserved
entries-preserved c =
    grown _ _ _ _ _ _ c.entries.invariant c.in_ok-push_entry.ensures
    (entries_spelling_more number_entry c.args.entries.now c.entries.entry-index (0, None) c.entries-test.true)
