-- What is passed stands for the bytes.
use Rattle.std.proofs.Common.{◌≡◌, ℕ, ◌-◌, ◌≤◌, length}
use Rattle.cd_cbor.specs.Scanning.{IsMarked}
use Rattle.cd_cbor.proofs.scan.Scan.judge.Given as goal

abbrev pub invariant-heads : goal.invariant-heads
invariant-heads l = record {
  stands : (start : ℕ) → IsMarked start l.fn.self l.item → IsMarked start l.self l.item;
  within : l.self.at ≤ length l.item;
  depth : l.self.depth ≡ l.fn.self.depth;
}

abbrev pub decreases-heads : goal.decreases-heads
decreases-heads l = length l.item - l.self.at
