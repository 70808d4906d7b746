use Rattle.std.proofs.Common.{◌≡◌, ◌+◌}
use Rattle.cd_reading_calls.proofs.cbor.push_events.Given as goal

abbrev pub invariant-bytes : goal.invariant-bytes
invariant-bytes l = l.reader.fed_count ≡ l.fn.reader.fed_count + l.byte-index
