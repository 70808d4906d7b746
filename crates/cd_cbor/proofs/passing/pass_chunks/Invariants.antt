-- The chunks that are left end where all of them end.
use Rattle.std.proofs.Common.{◌≡◌, ℕ, ◌-◌, ◌<◌, ◌≤◌, length}
use Rattle.cd_cbor.specs.Spells.{most_string}
use Rattle.cd_cbor.specs.Readings.{until_break}
use Rattle.cd_cbor.specs.Reading.{chunk_at, chunked_string_at}
use Rattle.cd_cbor.specs.Ends.{end_of}
use Rattle.cd_cbor.proofs.passing.pass_chunks.Given as goal

abbrev pub invariant-chunks : goal.invariant-chunks
invariant-chunks l = record {
  short : l.before ≤ most_string;
  order : l.at < l.here;
  read : end_of (until_break (λ (p : ℕ × ℕ). p.1) l.bytes (length l.bytes - l.counter) (chunk_at l.is_text l.bytes) (l.before, l.here)) ≡ end_of (chunked_string_at l.is_text l.at l.bytes);
}
