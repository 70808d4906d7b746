-- the count so far
use Rattle.std.proofs.Common.{◌≡◌, ◌≤◌, take, map}
use Rattle.cd_file.specs.Maps.{number_entry, entries_count}
use Rattle.cd_file.proofs.entries.present_count.Given as goal

abbrev pub invariant-entries : goal.invariant-entries
invariant-entries l = record {
  exact : l.count ≡ entries_count (map number_entry (take l.entry-index l.entries));
  few : l.count ≤ l.entry-index;
}
