-- What is left ends as all does.
use Rattle.std.proofs.Common.{◌≡◌, ◌≤◌, ◌+◌, ◌-◌, length, drop}
use Rattle.cd_file.specs.Passing.{IsPlaced, IsScanned}
use Rattle.cd_file.specs.Steps.{IsAhead, rest_of}
use Rattle.cd_file.proofs.file_reader.FileReader.look_ahead.Given as goal

abbrev pub invariant-parts : goal.invariant-parts
invariant-parts l = record {
  within : l.start ≤ length l.self-inside.bytes.items;
  place : l.at + (length l.self-inside.bytes.items - l.start) ≡ l.self-inside.at + (length l.self-inside.bytes.items - l.self-inside.start);
  given : l.count ≤ l.at;
  placed : IsPlaced l.progress.stage l.at;
  scanned : IsScanned l.progress.stage l.progress.mark (drop l.start l.self-inside.bytes.items);
  ahead : IsAhead (rest_of l.fn.self) l.fn.self.given_count l.progress l.known l.at (drop l.start l.self-inside.bytes.items) l.count;
}

abbrev pub decreases-parts : goal.decreases-parts
decreases-parts l = length l.self-inside.bytes.items - l.start
