-- What is left to pass is what there was to pass.
use Rattle.std.proofs.Common.{◌≡◌, ◌≤◌, length, reverse}
use Rattle.cd_cbor.specs.Events.{passed}
use Rattle.cd_cbor.proofs.nest.pass_item.Given as goal

abbrev pub invariant-around : goal.invariant-around
invariant-around l = record {
  passed_on : passed (reverse l.wants.items) ≡ passed (reverse l.fn.wants.items);
  fewer : length l.wants.items ≤ length l.fn.wants.items;
}

abbrev pub decreases-around : goal.decreases-around
decreases-around l = length l.wants.items
