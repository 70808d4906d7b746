-- The chunks so far, before those that are left, are all of them.
use Rattle.std.proofs.Common.{◌≡◌, ℕ, ◌-◌, ◌≤◌, List, length}
use Rattle.std.specs.List.{concat}
use Rattle.cd_cbor.specs.Spells.{most_string}
use Rattle.cd_cbor.specs.Readings.{◌>>=◌, until_break}
use Rattle.cd_cbor.specs.Reading.{joined, chunk_at, chunks_at}
use Rattle.cd_cbor.proofs.Repeats.{with_front}
use Rattle.cd_cbor.proofs.string_reading.chunks_at.Given as goal

abbrev pub invariant-chunks : goal.invariant-chunks
invariant-chunks l = record {
  chunks : List (List ℕ);
  are : l.content.items ≡ concat chunks;
  short : length l.content.items ≤ most_string;
  order : l.at ≤ l.here;
  read : (with_front chunks (until_break (λ place. place.1) l.bytes (length l.bytes - l.counter) (chunk_at l.is_text l.bytes) (length l.content.items, l.here)) >>= joined)
      ≡ chunks_at l.is_text l.at l.bytes;
}
