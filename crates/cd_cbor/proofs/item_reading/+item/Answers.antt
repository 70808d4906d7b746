-- Each step of a loop is a step of the definition.
use Rattle.std.proofs.Common.{ℕ, ◌-◌, List, [], length, sym, arith}
use Rattle.cd_cbor.specs.Items.{array, entries}
use Rattle.cd_cbor.specs.Reading.{array_of, map_of, entry_at, array_at, map_at, open_array_at, open_map_at, item_at}
use Rattle.cd_cbor.specs.declared.fault.Why.TheVariants as why
use Rattle.cd_cbor.proofs.Repeats.{times_more, times_fault, times_end, until_more, until_fault, until_no_byte, until_stop, until_none}
use Rattle.cd_cbor.proofs.Binds.{ok_same}
use Rattle.cd_cbor.specs.declared.item.Item.{Item}
use Rattle.cd_cbor.proofs.Loops.{array_start, map_start, open_array_start, open_map_start}
use Rattle.cd_cbor.proofs.item_reading.+item.Goals as goal

pub array_at-items-init : goal.array_at-items-init
array_at-items-init t c = record {
  order = omega (arith, c.in_ok-count.ensures.within);
  within = omega (arith, c.in_ok-count.ensures.within);
  read = array_start c.args.depth (item_at (c.args.depth - 1) c.args.bytes.now) c.args.info c.args.at c.args.bytes.now c.in_ok-count.count c.in_ok-count.next c.in_ok-items.items.items
      c.if-depth-eq0.false c.in_ok-count.ensures.read (sym (ok_same {A = List Item} [] c.in_ok-items.items.items c.in_ok-items.ensures));
}

pub array_at-returns-in-Err-clause-read : goal.array_at-returns-in-Err-clause-read
array_at-returns-in-Err-clause-read t c =
    times_fault (item_at (c.args.depth - 1) c.args.bytes.now why.Break) c.items.items.items c.in_ok-count.count c.items.counter c.items.here array_of
    (array_at c.args.depth (item_at (c.args.depth - 1) c.args.bytes.now) c.args.info c.args.at c.args.bytes.now) c.in-Err.fault c.items-test.true c.in-Err.ensures.read c.items.invariant.read

pub array_at-items-preserved : goal.array_at-items-preserved
array_at-items-preserved t c =
    let e = c.in-Ok-push.ensures.items in
    let more = times_more (item_at (c.args.depth - 1) c.args.bytes.now why.Break) c.items.items.items c.in_ok-count.count c.items.counter c.items.here array_of
    (array_at c.args.depth (item_at (c.args.depth - 1) c.args.bytes.now) c.args.info c.args.at c.args.bytes.now) c.in-Ok.item c.in-Ok.end c.items-test.true c.in-Ok.ensures.read c.items.invariant.read in
    record { order = omega (arith, c.in-Ok.ensures.within, c.items.invariant.order); within = omega (arith, c.in-Ok.ensures.within); read = rw e more }

pub array_at-returns-clause-read : goal.array_at-returns-clause-read
unfolding array
array_at-returns-clause-read t c =
    rw c.from_vec.ensures
    (times_end (item_at (c.args.depth - 1) c.args.bytes.now why.Break) c.items.items.items c.in_ok-count.count c.items.counter c.items.here array_of
    (array_at c.args.depth (item_at (c.args.depth - 1) c.args.bytes.now) c.args.info c.args.at c.args.bytes.now) c.items-test.false c.items.invariant.read)

pub map_at-pairs-init : goal.map_at-pairs-init
map_at-pairs-init t c = record {
  order = omega (arith, c.in_ok-count.ensures.within);
  within = omega (arith, c.in_ok-count.ensures.within);
  read = map_start c.args.depth (item_at (c.args.depth - 1) c.args.bytes.now) c.args.info c.args.at c.args.bytes.now c.in_ok-count.count c.in_ok-count.next c.in_ok-pairs.pairs.items
      c.if-depth-eq0.false c.in_ok-count.ensures.read (sym (ok_same {A = List (Item × Item)} [] c.in_ok-pairs.pairs.items c.in_ok-pairs.ensures));
}

pub map_at-returns-in-Err-clause-read : goal.map_at-returns-in-Err-clause-read
map_at-returns-in-Err-clause-read t c =
    times_fault (entry_at (item_at (c.args.depth - 1) c.args.bytes.now) why.Break) c.pairs.pairs.items c.in_ok-count.count c.pairs.counter c.pairs.here map_of
    (map_at c.args.depth (item_at (c.args.depth - 1) c.args.bytes.now) c.args.info c.args.at c.args.bytes.now) c.in-Err.fault c.pairs-test.true c.in-Err.ensures.read c.pairs.invariant.read

pub map_at-pairs-preserved : goal.map_at-pairs-preserved
map_at-pairs-preserved t c =
    let e = c.in-Ok-push.ensures.items in
    let more = times_more (entry_at (item_at (c.args.depth - 1) c.args.bytes.now) why.Break) c.pairs.pairs.items c.in_ok-count.count c.pairs.counter c.pairs.here map_of
    (map_at c.args.depth (item_at (c.args.depth - 1) c.args.bytes.now) c.args.info c.args.at c.args.bytes.now) c.in-Ok.pair c.in-Ok.end c.pairs-test.true c.in-Ok.ensures.read c.pairs.invariant.read in
    record { order = omega (arith, c.in-Ok.ensures.within, c.pairs.invariant.order); within = omega (arith, c.in-Ok.ensures.within); read = rw e more }

pub map_at-returns-clause-read : goal.map_at-returns-clause-read
unfolding entries
map_at-returns-clause-read t c =
    rw c.from_vec.ensures
    (times_end (entry_at (item_at (c.args.depth - 1) c.args.bytes.now) why.Break) c.pairs.pairs.items c.in_ok-count.count c.pairs.counter c.pairs.here map_of
    (map_at c.args.depth (item_at (c.args.depth - 1) c.args.bytes.now) c.args.info c.args.at c.args.bytes.now) c.pairs-test.false c.pairs.invariant.read)

pub open_array_at-items-init : goal.open_array_at-items-init
open_array_at-items-init t c = record {
  order = omega arith;
  within = omega (arith, c.requires);
  read = open_array_start c.args.depth (item_at (c.args.depth - 1) c.args.bytes.now) c.args.at c.args.bytes.now c.new-items.result.items c.if-depth-eq0.false c.new-items.ensures.items;
}

pub open_array_at-returns-in-Err-clause-read : goal.open_array_at-returns-in-Err-clause-read
open_array_at-returns-in-Err-clause-read t c =
    until_no_byte (λ (p : ℕ). p) c.args.bytes.now (item_at (c.args.depth - 1) c.args.bytes.now why.Break) c.items.items.items (length c.args.bytes.now) c.items.counter c.items.here array_of
    (open_array_at c.args.depth (item_at (c.args.depth - 1) c.args.bytes.now) c.args.at c.args.bytes.now) c.in-Err.fault (omega arith) c.in-Err.ensures.read c.items.invariant.read

pub open_array_at-returns-then-first-clause-read : goal.open_array_at-returns-then-first-clause-read
unfolding array
open_array_at-returns-then-first-clause-read t c =
    rw c.from_vec.ensures
    (until_stop (λ (p : ℕ). p) c.args.bytes.now (item_at (c.args.depth - 1) c.args.bytes.now why.Break) c.items.items.items (length c.args.bytes.now) c.items.counter c.items.here array_of
    (open_array_at c.args.depth (item_at (c.args.depth - 1) c.args.bytes.now) c.args.at c.args.bytes.now) c.in-Ok.first (omega arith) c.in-Ok.ensures.read c.if-first.true c.items.invariant.read)

pub open_array_at-returns-in-Err-item_at-clause-read : goal.open_array_at-returns-in-Err-item_at-clause-read
open_array_at-returns-in-Err-item_at-clause-read t c =
    until_fault (λ (p : ℕ). p) c.args.bytes.now (item_at (c.args.depth - 1) c.args.bytes.now why.Break) c.items.items.items (length c.args.bytes.now) c.items.counter c.items.here array_of
    (open_array_at c.args.depth (item_at (c.args.depth - 1) c.args.bytes.now) c.args.at c.args.bytes.now) c.in-Err-item_at.fault c.in-Ok.first (omega arith) c.in-Ok.ensures.read c.if-first.false
    c.in-Err-item_at.ensures.read c.items.invariant.read

pub open_array_at-items-preserved : goal.open_array_at-items-preserved
open_array_at-items-preserved t c =
    let e = c.in-Ok-push.ensures.items in
    let more = until_more (λ (p : ℕ). p) c.args.bytes.now (item_at (c.args.depth - 1) c.args.bytes.now why.Break) c.items.items.items (length c.args.bytes.now) c.items.counter c.items.here array_of
    (open_array_at c.args.depth (item_at (c.args.depth - 1) c.args.bytes.now) c.args.at c.args.bytes.now) c.in-Ok.first c.in-Ok-item_at.item c.in-Ok-item_at.end (omega arith) c.in-Ok.ensures.read
    c.if-first.false c.in-Ok-item_at.ensures.read c.items.invariant.read in
    record { order = omega (arith, c.in-Ok-item_at.ensures.within, c.items.invariant.order); within = omega (arith, c.in-Ok-item_at.ensures.within); read = rw e more }

pub open_array_at-returns-clause-read : goal.open_array_at-returns-clause-read
open_array_at-returns-clause-read t c =
    rw c.bad-2.ensures
    (until_none (λ (p : ℕ). p) c.args.bytes.now (item_at (c.args.depth - 1) c.args.bytes.now why.Break) c.items.items.items (length c.args.bytes.now) c.items.counter c.items.here array_of
    (open_array_at c.args.depth (item_at (c.args.depth - 1) c.args.bytes.now) c.args.at c.args.bytes.now) (omega arith) c.items.invariant.read)

pub open_map_at-pairs-init : goal.open_map_at-pairs-init
open_map_at-pairs-init t c = record {
  order = omega arith;
  within = omega (arith, c.requires);
  read = open_map_start c.args.depth (item_at (c.args.depth - 1) c.args.bytes.now) c.args.at c.args.bytes.now c.new-pairs.result.items c.if-depth-eq0.false c.new-pairs.ensures.items;
}

pub open_map_at-returns-in-Err-clause-read : goal.open_map_at-returns-in-Err-clause-read
open_map_at-returns-in-Err-clause-read t c =
    until_no_byte (λ (p : ℕ). p) c.args.bytes.now (entry_at (item_at (c.args.depth - 1) c.args.bytes.now) why.Odd) c.pairs.pairs.items (length c.args.bytes.now) c.pairs.counter c.pairs.here map_of
    (open_map_at c.args.depth (item_at (c.args.depth - 1) c.args.bytes.now) c.args.at c.args.bytes.now) c.in-Err.fault (omega arith) c.in-Err.ensures.read c.pairs.invariant.read

pub open_map_at-returns-then-first-clause-read : goal.open_map_at-returns-then-first-clause-read
unfolding entries
open_map_at-returns-then-first-clause-read t c =
    rw c.from_vec.ensures
    (until_stop (λ (p : ℕ). p) c.args.bytes.now (entry_at (item_at (c.args.depth - 1) c.args.bytes.now) why.Odd) c.pairs.pairs.items (length c.args.bytes.now) c.pairs.counter c.pairs.here map_of
    (open_map_at c.args.depth (item_at (c.args.depth - 1) c.args.bytes.now) c.args.at c.args.bytes.now) c.in-Ok.first (omega arith) c.in-Ok.ensures.read c.if-first.true c.pairs.invariant.read)

pub open_map_at-returns-in-Err-entry_at-clause-read : goal.open_map_at-returns-in-Err-entry_at-clause-read
open_map_at-returns-in-Err-entry_at-clause-read t c =
    until_fault (λ (p : ℕ). p) c.args.bytes.now (entry_at (item_at (c.args.depth - 1) c.args.bytes.now) why.Odd) c.pairs.pairs.items (length c.args.bytes.now) c.pairs.counter c.pairs.here map_of
    (open_map_at c.args.depth (item_at (c.args.depth - 1) c.args.bytes.now) c.args.at c.args.bytes.now) c.in-Err-entry_at.fault c.in-Ok.first (omega arith) c.in-Ok.ensures.read c.if-first.false
    c.in-Err-entry_at.ensures.read c.pairs.invariant.read

pub open_map_at-pairs-preserved : goal.open_map_at-pairs-preserved
open_map_at-pairs-preserved t c =
    let e = c.in-Ok-push.ensures.items in
    let more = until_more (λ (p : ℕ). p) c.args.bytes.now (entry_at (item_at (c.args.depth - 1) c.args.bytes.now) why.Odd) c.pairs.pairs.items (length c.args.bytes.now) c.pairs.counter c.pairs.here map_of
    (open_map_at c.args.depth (item_at (c.args.depth - 1) c.args.bytes.now) c.args.at c.args.bytes.now) c.in-Ok.first c.in-Ok-entry_at.pair c.in-Ok-entry_at.end (omega arith) c.in-Ok.ensures.read
    c.if-first.false c.in-Ok-entry_at.ensures.read c.pairs.invariant.read in
    record { order = omega (arith, c.in-Ok-entry_at.ensures.within, c.pairs.invariant.order); within = omega (arith, c.in-Ok-entry_at.ensures.within); read = rw e more }

pub open_map_at-returns-clause-read : goal.open_map_at-returns-clause-read
open_map_at-returns-clause-read t c =
    rw c.bad-2.ensures
    (until_none (λ (p : ℕ). p) c.args.bytes.now (entry_at (item_at (c.args.depth - 1) c.args.bytes.now) why.Odd) c.pairs.pairs.items (length c.args.bytes.now) c.pairs.counter c.pairs.here map_of
    (open_map_at c.args.depth (item_at (c.args.depth - 1) c.args.bytes.now) c.args.at c.args.bytes.now) (omega arith) c.pairs.invariant.read)
