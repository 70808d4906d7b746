use Rattle.std.proofs.Common.{◌≡◌}
use Rattle.cd_bytes.specs.Checksum.{carried}
use Rattle.cd_bytes.proofs.internet_checksum.with_carry.Given as goal

abbrev pub invariant-carry : goal.invariant-carry
invariant-carry l = carried l.sum ≡ carried l.fn.total

abbrev pub decreases-carry : goal.decreases-carry
decreases-carry l = l.sum
