use Rattle.std.proofs.Common.{◌≡◌, ◌+◌, ◌*◌}
use Rattle.cd_reading_calls.proofs.captures.read_bytes_are_let_go.Given as goal

abbrev pub invariant-loop-index : goal.invariant-loop-index
invariant-loop-index g l = l.reader.fed_count ≡ 24 + 19 * l.index
