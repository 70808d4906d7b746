use Rattle.std.proofs.Common.{◌≡◌, ◌≤◌, ◌+◌, ◌*◌, length, sum}
use Rattle.cd_bytes.specs.Checksum.{words}
use Rattle.cd_bytes.proofs.internet_checksum.block_sum.Given as goal

abbrev pub invariant-words : goal.invariant-words
invariant-words l = record {
  total : l.sum + sum (words l.rest) ≡ sum (words l.bytes);
  bound : l.sum + 0xffff * length l.rest ≤ 0xffff * length l.bytes;
}

abbrev pub decreases-words : goal.decreases-words
decreases-words l = length l.rest
