-- What was read so far, before what is left, is what all is; and each call goes inwards.
use Rattle.std.proofs.Common.{◌≡◌, ◌+◌, ◌-◌, ◌*◌, ◌<◌, ◌≤◌, length}
use Rattle.cd_cbor.specs.Readings.{◌>>=◌, times, until_break}
use Rattle.cd_cbor.specs.Reading.{array_of, map_of, entry_at, array_at, map_at, open_array_at, open_map_at, item_at}
use Rattle.cd_cbor.specs.declared.fault.Why.TheVariants as why
use Rattle.cd_cbor.proofs.Repeats.{with_front}
use Rattle.cd_cbor.proofs.item_reading.+item.Given as goal

abbrev pub decreases-entry_at : goal.decreases-entry_at
decreases-entry_at l = 4 * l.depth + 3

abbrev pub decreases-item_at : goal.decreases-item_at
decreases-item_at l = 4 * l.depth + 2

abbrev pub decreases-definite_at : goal.decreases-definite_at
decreases-definite_at l = 4 * l.depth + 1

abbrev pub decreases-indefinite_at : goal.decreases-indefinite_at
decreases-indefinite_at l = 4 * l.depth + 1

abbrev pub decreases-array_at : goal.decreases-array_at
decreases-array_at l = 4 * l.depth

abbrev pub decreases-map_at : goal.decreases-map_at
decreases-map_at l = 4 * l.depth

abbrev pub decreases-open_array_at : goal.decreases-open_array_at
decreases-open_array_at l = 4 * l.depth

abbrev pub decreases-open_map_at : goal.decreases-open_map_at
decreases-open_map_at l = 4 * l.depth

abbrev pub invariant-array_at-items : goal.invariant-array_at-items
invariant-array_at-items l = record {
  order : l.at < l.here;
  within : l.here ≤ length l.bytes;
  read : (with_front l.items.items (times (l.count - l.counter) (item_at (l.depth - 1) l.bytes why.Break) l.here) >>= array_of)
      ≡ array_at l.depth (item_at (l.depth - 1) l.bytes) l.info l.at l.bytes;
}

abbrev pub invariant-map_at-pairs : goal.invariant-map_at-pairs
invariant-map_at-pairs l = record {
  order : l.at < l.here;
  within : l.here ≤ length l.bytes;
  read : (with_front l.pairs.items (times (l.count - l.counter) (entry_at (item_at (l.depth - 1) l.bytes) why.Break) l.here) >>= map_of)
      ≡ map_at l.depth (item_at (l.depth - 1) l.bytes) l.info l.at l.bytes;
}

abbrev pub invariant-open_array_at-items : goal.invariant-open_array_at-items
invariant-open_array_at-items l = record {
  order : l.at < l.here;
  within : l.here ≤ length l.bytes;
  read : (with_front l.items.items (until_break (λ place. place) l.bytes (length l.bytes - l.counter) (item_at (l.depth - 1) l.bytes why.Break) l.here) >>= array_of)
      ≡ open_array_at l.depth (item_at (l.depth - 1) l.bytes) l.at l.bytes;
}

abbrev pub invariant-open_map_at-pairs : goal.invariant-open_map_at-pairs
invariant-open_map_at-pairs l = record {
  order : l.at < l.here;
  within : l.here ≤ length l.bytes;
  read : (with_front l.pairs.items (until_break (λ place. place) l.bytes (length l.bytes - l.counter) (entry_at (item_at (l.depth - 1) l.bytes) why.Odd) l.here) >>= map_of)
      ≡ open_map_at l.depth (item_at (l.depth - 1) l.bytes) l.at l.bytes;
}
