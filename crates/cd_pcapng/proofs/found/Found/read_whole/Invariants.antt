use Rattle.std.proofs.Common.{◌≡◌, ◌+◌, ◌-◌, None, length}
use Rattle.cd_pcapng.specs.Founds.{Passes, Keeps}
use Rattle.cd_pcapng.proofs.found.Found.read_whole.Given as goal

abbrev pub invariant-reading : goal.invariant-reading
invariant-reading l = record {
  passes : Passes l.fn.self l.self l.at l.bytes l.size;
  keeps : Keeps l.fn.self l.self;
  start : l.self.order ≡ None → l.at + l.size ≡ 0;
}

abbrev pub decreases-reading : goal.decreases-reading
decreases-reading l = length l.bytes - l.size
