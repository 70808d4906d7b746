-- Each step of a loop is a step of the definition.
use Rattle.std.proofs.Common.{ℕ, ◌-◌, length, arith}
use Rattle.cd_cbor.specs.Readings.{times, until_break}
use Rattle.cd_cbor.specs.Reading.{entry_at, item_at}
use Rattle.cd_cbor.specs.Ends.{end_of}
use Rattle.cd_cbor.specs.declared.fault.Why.TheVariants as why
use Rattle.cd_cbor.proofs.PassedOver.{pass_more, pass_fault, pass_end, pass_on, pass_wrong, pass_no_byte, pass_stop, pass_none, pass_start, pass_begin, end_value, end_fault, entry_ends, entry_fault, array_ends, map_ends, open_array_ends, open_map_ends}
use Rattle.cd_cbor.proofs.passing.+pass.Goals as goal

pub pass_items-items-init : goal.pass_items-items-init
pass_items-items-init t c = record { order = omega arith; within = omega (arith, c.requires); read = pass_start (item_at c.args.depth c.args.bytes.now why.Break) c.args.count c.args.at }

pub pass_items-returns-in-Err-clause-read : goal.pass_items-returns-in-Err-clause-read
pass_items-returns-in-Err-clause-read t c =
    pass_fault (item_at c.args.depth c.args.bytes.now why.Break) c.args.count c.items.counter c.items.here (end_of (times c.args.count (item_at c.args.depth c.args.bytes.now why.Break) c.args.at)) c.in-Err.fault c.items-test.true c.in-Err.ensures.read c.items.invariant.read

pub pass_items-items-preserved : goal.pass_items-items-preserved
pass_items-items-preserved t c = record {
  order = omega (arith, c.in-Ok.ensures.within, c.items.invariant.order);
  within = omega (arith, c.in-Ok.ensures.within);
  read = pass_more (item_at c.args.depth c.args.bytes.now why.Break) c.args.count c.items.counter c.items.here (end_of (times c.args.count (item_at c.args.depth c.args.bytes.now why.Break) c.args.at)) c.in-Ok.end c.items-test.true c.in-Ok.ensures.read c.items.invariant.read;
}

pub pass_items-returns-clause-read : goal.pass_items-returns-clause-read
pass_items-returns-clause-read t c = pass_end (item_at c.args.depth c.args.bytes.now why.Break) c.args.count c.items.counter c.items.here (end_of (times c.args.count (item_at c.args.depth c.args.bytes.now why.Break) c.args.at)) c.items-test.false c.items.invariant.read

pub pass_pairs-pairs-init : goal.pass_pairs-pairs-init
pass_pairs-pairs-init t c = record { order = omega arith; within = omega (arith, c.requires); read = pass_start (entry_at (item_at c.args.depth c.args.bytes.now) why.Break) c.args.count c.args.at }

pub pass_pairs-returns-in-Err-clause-read : goal.pass_pairs-returns-in-Err-clause-read
pass_pairs-returns-in-Err-clause-read t c =
    pass_fault (entry_at (item_at c.args.depth c.args.bytes.now) why.Break) c.args.count c.pairs.counter c.pairs.here (end_of (times c.args.count (entry_at (item_at c.args.depth c.args.bytes.now) why.Break) c.args.at)) c.in-Err.fault c.pairs-test.true c.in-Err.ensures.read c.pairs.invariant.read

pub pass_pairs-pairs-preserved : goal.pass_pairs-pairs-preserved
pass_pairs-pairs-preserved t c = record {
  order = omega (arith, c.in-Ok.ensures.within, c.pairs.invariant.order);
  within = omega (arith, c.in-Ok.ensures.within);
  read = pass_more (entry_at (item_at c.args.depth c.args.bytes.now) why.Break) c.args.count c.pairs.counter c.pairs.here (end_of (times c.args.count (entry_at (item_at c.args.depth c.args.bytes.now) why.Break) c.args.at)) c.in-Ok.end c.pairs-test.true c.in-Ok.ensures.read c.pairs.invariant.read;
}

pub pass_pairs-returns-clause-read : goal.pass_pairs-returns-clause-read
pass_pairs-returns-clause-read t c = pass_end (entry_at (item_at c.args.depth c.args.bytes.now) why.Break) c.args.count c.pairs.counter c.pairs.here (end_of (times c.args.count (entry_at (item_at c.args.depth c.args.bytes.now) why.Break) c.args.at)) c.pairs-test.false c.pairs.invariant.read

pub pass_items_to_break-items-init : goal.pass_items_to_break-items-init
pass_items_to_break-items-init t c = record { order = omega arith; read = pass_begin c.args.bytes.now (item_at c.args.depth c.args.bytes.now why.Break) c.args.at }

pub pass_items_to_break-returns-in-Err-clause-read : goal.pass_items_to_break-returns-in-Err-clause-read
pass_items_to_break-returns-in-Err-clause-read t c =
    pass_no_byte (λ (p : ℕ). p) c.args.bytes.now (item_at c.args.depth c.args.bytes.now why.Break) (length c.args.bytes.now) c.items.counter c.items.here (end_of (until_break (λ (p : ℕ). p) c.args.bytes.now (length c.args.bytes.now) (item_at c.args.depth c.args.bytes.now why.Break) c.args.at)) c.in-Err.fault (omega arith) c.in-Err.ensures.read c.items.invariant.read

pub pass_items_to_break-returns-then-first-clause-read : goal.pass_items_to_break-returns-then-first-clause-read
pass_items_to_break-returns-then-first-clause-read t c =
    pass_stop (λ (p : ℕ). p) c.args.bytes.now (item_at c.args.depth c.args.bytes.now why.Break) (length c.args.bytes.now) c.items.counter c.items.here (end_of (until_break (λ (p : ℕ). p) c.args.bytes.now (length c.args.bytes.now) (item_at c.args.depth c.args.bytes.now why.Break) c.args.at)) c.in-Ok.first (omega arith) c.in-Ok.ensures.read c.if-first.true c.items.invariant.read

pub pass_items_to_break-returns-in-Err-pass_item-clause-read : goal.pass_items_to_break-returns-in-Err-pass_item-clause-read
pass_items_to_break-returns-in-Err-pass_item-clause-read t c =
    pass_wrong (λ (p : ℕ). p) c.args.bytes.now (item_at c.args.depth c.args.bytes.now why.Break) (length c.args.bytes.now) c.items.counter c.items.here (end_of (until_break (λ (p : ℕ). p) c.args.bytes.now (length c.args.bytes.now) (item_at c.args.depth c.args.bytes.now why.Break) c.args.at)) c.in-Err-pass_item.fault c.in-Ok.first (omega arith) c.in-Ok.ensures.read c.if-first.false
    (end_fault ((item_at c.args.depth c.args.bytes.now why.Break) c.items.here) c.in-Err-pass_item.fault c.in-Err-pass_item.ensures.read) c.items.invariant.read

pub pass_items_to_break-items-preserved : goal.pass_items_to_break-items-preserved
pass_items_to_break-items-preserved t c =
    let v = end_value ((item_at c.args.depth c.args.bytes.now why.Break) c.items.here) c.in-Ok-pass_item.end c.in-Ok-pass_item.ensures.read in
    record {
      order = omega (arith, c.in-Ok-pass_item.ensures.within, c.items.invariant.order);
      read = pass_on (λ (p : ℕ). p) c.args.bytes.now (item_at c.args.depth c.args.bytes.now why.Break) (length c.args.bytes.now) c.items.counter c.items.here (end_of (until_break (λ (p : ℕ). p) c.args.bytes.now (length c.args.bytes.now) (item_at c.args.depth c.args.bytes.now why.Break) c.args.at)) c.in-Ok.first v.0 c.in-Ok-pass_item.end (omega arith) c.in-Ok.ensures.read c.if-first.false v.1 c.items.invariant.read;
    }

pub pass_items_to_break-returns-clause-read : goal.pass_items_to_break-returns-clause-read
pass_items_to_break-returns-clause-read t c = rw c.bad.ensures (pass_none (λ (p : ℕ). p) c.args.bytes.now (item_at c.args.depth c.args.bytes.now why.Break) (length c.args.bytes.now) c.items.counter c.items.here (end_of (until_break (λ (p : ℕ). p) c.args.bytes.now (length c.args.bytes.now) (item_at c.args.depth c.args.bytes.now why.Break) c.args.at)) (omega arith) c.items.invariant.read)

pub pass_pairs_to_break-pairs-init : goal.pass_pairs_to_break-pairs-init
pass_pairs_to_break-pairs-init t c = record { order = omega arith; read = pass_begin c.args.bytes.now (entry_at (item_at c.args.depth c.args.bytes.now) why.Odd) c.args.at }

pub pass_pairs_to_break-returns-in-Err-clause-read : goal.pass_pairs_to_break-returns-in-Err-clause-read
pass_pairs_to_break-returns-in-Err-clause-read t c =
    pass_no_byte (λ (p : ℕ). p) c.args.bytes.now (entry_at (item_at c.args.depth c.args.bytes.now) why.Odd) (length c.args.bytes.now) c.pairs.counter c.pairs.here (end_of (until_break (λ (p : ℕ). p) c.args.bytes.now (length c.args.bytes.now) (entry_at (item_at c.args.depth c.args.bytes.now) why.Odd) c.args.at)) c.in-Err.fault (omega arith) c.in-Err.ensures.read c.pairs.invariant.read

pub pass_pairs_to_break-returns-then-first-clause-read : goal.pass_pairs_to_break-returns-then-first-clause-read
pass_pairs_to_break-returns-then-first-clause-read t c =
    pass_stop (λ (p : ℕ). p) c.args.bytes.now (entry_at (item_at c.args.depth c.args.bytes.now) why.Odd) (length c.args.bytes.now) c.pairs.counter c.pairs.here (end_of (until_break (λ (p : ℕ). p) c.args.bytes.now (length c.args.bytes.now) (entry_at (item_at c.args.depth c.args.bytes.now) why.Odd) c.args.at)) c.in-Ok.first (omega arith) c.in-Ok.ensures.read c.if-first.true c.pairs.invariant.read

pub pass_pairs_to_break-returns-in-Err-pass_entry-clause-read : goal.pass_pairs_to_break-returns-in-Err-pass_entry-clause-read
pass_pairs_to_break-returns-in-Err-pass_entry-clause-read t c =
    pass_wrong (λ (p : ℕ). p) c.args.bytes.now (entry_at (item_at c.args.depth c.args.bytes.now) why.Odd) (length c.args.bytes.now) c.pairs.counter c.pairs.here (end_of (until_break (λ (p : ℕ). p) c.args.bytes.now (length c.args.bytes.now) (entry_at (item_at c.args.depth c.args.bytes.now) why.Odd) c.args.at)) c.in-Err-pass_entry.fault c.in-Ok.first (omega arith) c.in-Ok.ensures.read c.if-first.false
    (end_fault ((entry_at (item_at c.args.depth c.args.bytes.now) why.Odd) c.pairs.here) c.in-Err-pass_entry.fault c.in-Err-pass_entry.ensures.read) c.pairs.invariant.read

pub pass_pairs_to_break-pairs-preserved : goal.pass_pairs_to_break-pairs-preserved
pass_pairs_to_break-pairs-preserved t c =
    let v = end_value ((entry_at (item_at c.args.depth c.args.bytes.now) why.Odd) c.pairs.here) c.in-Ok-pass_entry.end c.in-Ok-pass_entry.ensures.read in
    record {
      order = omega (arith, c.in-Ok-pass_entry.ensures.within, c.pairs.invariant.order);
      read = pass_on (λ (p : ℕ). p) c.args.bytes.now (entry_at (item_at c.args.depth c.args.bytes.now) why.Odd) (length c.args.bytes.now) c.pairs.counter c.pairs.here (end_of (until_break (λ (p : ℕ). p) c.args.bytes.now (length c.args.bytes.now) (entry_at (item_at c.args.depth c.args.bytes.now) why.Odd) c.args.at)) c.in-Ok.first v.0 c.in-Ok-pass_entry.end (omega arith) c.in-Ok.ensures.read c.if-first.false v.1 c.pairs.invariant.read;
    }

pub pass_pairs_to_break-returns-clause-read : goal.pass_pairs_to_break-returns-clause-read
pass_pairs_to_break-returns-clause-read t c = rw c.bad.ensures (pass_none (λ (p : ℕ). p) c.args.bytes.now (entry_at (item_at c.args.depth c.args.bytes.now) why.Odd) (length c.args.bytes.now) c.pairs.counter c.pairs.here (end_of (until_break (λ (p : ℕ). p) c.args.bytes.now (length c.args.bytes.now) (entry_at (item_at c.args.depth c.args.bytes.now) why.Odd) c.args.at)) (omega arith) c.pairs.invariant.read)

pub pass_entry-returns-in-Err-clause-read : goal.pass_entry-returns-in-Err-clause-read
pass_entry-returns-in-Err-clause-read t c = entry_fault (item_at c.args.depth c.args.bytes.now) c.args.broken c.args.at c.in-Err.fault c.in-Err.ensures.read

pub pass_entry-returns-clause-read : goal.pass_entry-returns-clause-read
pass_entry-returns-clause-read t c = rw (entry_ends (item_at c.args.depth c.args.bytes.now) c.args.broken c.args.at c.in-Ok.next c.in-Ok.ensures.read) c.pass_item-2.ensures.read

pub pass_array-returns-clause-read : goal.pass_array-returns-clause-read
pass_array-returns-clause-read t c =
    rw (array_ends c.args.depth (item_at (c.args.depth - 1) c.args.bytes.now) c.args.at c.args.bytes.now c.if-depth-eq0.false c.args.info c.in_ok-count.count c.in_ok-count.next c.in_ok-count.ensures.read) c.pass_items.ensures.read

pub pass_map-returns-clause-read : goal.pass_map-returns-clause-read
pass_map-returns-clause-read t c =
    rw (map_ends c.args.depth (item_at (c.args.depth - 1) c.args.bytes.now) c.args.at c.args.bytes.now c.if-depth-eq0.false c.args.info c.in_ok-count.count c.in_ok-count.next c.in_ok-count.ensures.read) c.pass_pairs.ensures.read

pub pass_open_array-returns-clause-read : goal.pass_open_array-returns-clause-read
pass_open_array-returns-clause-read t c =
    rw (open_array_ends c.args.depth (item_at (c.args.depth - 1) c.args.bytes.now) c.args.at c.args.bytes.now c.if-depth-eq0.false) c.pass_items_to_break.ensures.read

pub pass_open_map-returns-clause-read : goal.pass_open_map-returns-clause-read
pass_open_map-returns-clause-read t c =
    rw (open_map_ends c.args.depth (item_at (c.args.depth - 1) c.args.bytes.now) c.args.at c.args.bytes.now c.if-depth-eq0.false) c.pass_pairs_to_break.ensures.read
