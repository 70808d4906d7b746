-- What is left ends where all ends; and each call goes inwards.
use Rattle.std.proofs.Common.{◌≡◌, ◌+◌, ◌-◌, ◌*◌, ◌≤◌, length}
use Rattle.cd_cbor.specs.Readings.{times, until_break}
use Rattle.cd_cbor.specs.Reading.{entry_at, item_at}
use Rattle.cd_cbor.specs.Ends.{end_of}
use Rattle.cd_cbor.specs.declared.fault.Why.TheVariants as why
use Rattle.cd_cbor.proofs.passing.+pass.Given as goal

abbrev pub decreases-pass_items : goal.decreases-pass_items
decreases-pass_items l = 5 * l.depth + 4

abbrev pub decreases-pass_pairs : goal.decreases-pass_pairs
decreases-pass_pairs l = 5 * l.depth + 4

abbrev pub decreases-pass_items_to_break : goal.decreases-pass_items_to_break
decreases-pass_items_to_break l = 5 * l.depth + 4

abbrev pub decreases-pass_pairs_to_break : goal.decreases-pass_pairs_to_break
decreases-pass_pairs_to_break l = 5 * l.depth + 4

abbrev pub decreases-pass_entry : goal.decreases-pass_entry
decreases-pass_entry l = 5 * l.depth + 3

abbrev pub decreases-pass_item : goal.decreases-pass_item
decreases-pass_item l = 5 * l.depth + 2

abbrev pub decreases-pass_definite : goal.decreases-pass_definite
decreases-pass_definite l = 5 * l.depth + 1

abbrev pub decreases-pass_indefinite : goal.decreases-pass_indefinite
decreases-pass_indefinite l = 5 * l.depth + 1

abbrev pub decreases-pass_array : goal.decreases-pass_array
decreases-pass_array l = 5 * l.depth

abbrev pub decreases-pass_map : goal.decreases-pass_map
decreases-pass_map l = 5 * l.depth

abbrev pub decreases-pass_tagged : goal.decreases-pass_tagged
decreases-pass_tagged l = 5 * l.depth

abbrev pub decreases-pass_open_array : goal.decreases-pass_open_array
decreases-pass_open_array l = 5 * l.depth

abbrev pub decreases-pass_open_map : goal.decreases-pass_open_map
decreases-pass_open_map l = 5 * l.depth

abbrev pub invariant-pass_items-items : goal.invariant-pass_items-items
invariant-pass_items-items l = record {
  order : l.at ≤ l.here;
  within : l.here ≤ length l.bytes;
  read : end_of (times (l.count - l.counter) (item_at l.depth l.bytes why.Break) l.here) ≡ end_of (times l.count (item_at l.depth l.bytes why.Break) l.at);
}

abbrev pub invariant-pass_pairs-pairs : goal.invariant-pass_pairs-pairs
invariant-pass_pairs-pairs l = record {
  order : l.at ≤ l.here;
  within : l.here ≤ length l.bytes;
  read : end_of (times (l.count - l.counter) (entry_at (item_at l.depth l.bytes) why.Break) l.here) ≡ end_of (times l.count (entry_at (item_at l.depth l.bytes) why.Break) l.at);
}

abbrev pub invariant-pass_items_to_break-items : goal.invariant-pass_items_to_break-items
invariant-pass_items_to_break-items l = record {
  order : l.at ≤ l.here;
  read : end_of (until_break (λ place. place) l.bytes (length l.bytes - l.counter) (item_at l.depth l.bytes why.Break) l.here) ≡ end_of (until_break (λ place. place) l.bytes (length l.bytes) (item_at l.depth l.bytes why.Break) l.at);
}

abbrev pub invariant-pass_pairs_to_break-pairs : goal.invariant-pass_pairs_to_break-pairs
invariant-pass_pairs_to_break-pairs l = record {
  order : l.at ≤ l.here;
  read : end_of (until_break (λ place. place) l.bytes (length l.bytes - l.counter) (entry_at (item_at l.depth l.bytes) why.Odd) l.here) ≡ end_of (until_break (λ place. place) l.bytes (length l.bytes) (entry_at (item_at l.depth l.bytes) why.Odd) l.at);
}
