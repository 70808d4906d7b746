use Rattle.std.proofs.Common.{◌≡◌, ◌≤◌, ◌+◌, length, sum}
use Rattle.cd_bytes.specs.Checksum.{words, carried}
use Rattle.cd_bytes.proofs.internet_checksum.carried_sum.Given as goal

abbrev pub invariant-pieces : goal.invariant-pieces
invariant-pieces l = record {
  total : carried (l.sum + sum (words l.rest)) ≡ carried (sum (words l.bytes));
  small : l.sum ≤ 0xffff;
}

abbrev pub decreases-pieces : goal.decreases-pieces
decreases-pieces l = length l.rest
