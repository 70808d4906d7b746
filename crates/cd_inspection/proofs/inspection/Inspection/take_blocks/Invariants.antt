-- Those that were given resolve and are inspected. The reader moves ahead.
use Rattle.std.proofs.Common.{◌≡◌, ℕ, ◌-◌, ◌^◌, List}
use Rattle.cd_inspection.specs.Standing.{Course}
use Rattle.cd_inspection.proofs.inspection.Inspection.take_blocks.Given as goal

abbrev pub invariant-given : goal.invariant-given
invariant-given g l = record {
  history : (fed cleared : List ℕ) → Course g.I.Inspector.rendering l.fn.self fed cleared →
      Course g.I.Inspector.rendering l.self fed cleared;
  count : l.self.reader.fed_count ≡ l.fn.self.reader.fed_count;
  fresh : l.self.spent ≡ l.fn.self.spent;
}

abbrev pub decreases-given : goal.decreases-given
decreases-given g l = 2 ^ 48 - l.self.reader.at
