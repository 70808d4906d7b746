use Rattle.std.proofs.Common.{◌≡◌, ℕ, ◌-◌, ◌^◌, false, List}
use Rattle.cd_engine.specs.Events.{rules_of}
use Rattle.cd_engine.specs.Standing.{ReadsOn}
use Rattle.cd_engine.proofs.compactor.Compactor.take_packets.Given as goal

abbrev pub invariant-packets : goal.invariant-packets
invariant-packets l = record {
  history : (fed cleared : List ℕ) → ReadsOn (rules_of l.fn.self.blocks.filing.settings) l.fn.self fed cleared →
      ReadsOn (rules_of l.fn.self.blocks.filing.settings) l.self fed cleared;
  settings : l.self.blocks.filing.settings ≡ l.fn.self.blocks.filing.settings;
  fresh : l.self.blocks.spent ≡ false;
  count : l.self.reader.fed_count ≡ l.fn.self.reader.fed_count;
}

abbrev pub decreases-packets : goal.decreases-packets
decreases-packets l = 2 ^ 48 - l.self.reader.passed
