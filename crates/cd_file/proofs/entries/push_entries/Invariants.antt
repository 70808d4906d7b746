-- the entries so far
use Rattle.std.proofs.Common.{◌≡◌, ◌++◌, take, map}
use Rattle.cd_file.specs.Maps.{number_entry, entries_spelling}
use Rattle.cd_file.proofs.entries.push_entries.Given as goal

abbrev pub invariant-entries : goal.invariant-entries
invariant-entries l = l.out ≡ l.initial.out ++ entries_spelling (map number_entry (take l.entry-index l.entries))
