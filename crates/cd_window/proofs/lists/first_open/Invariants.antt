-- what was passed waits no more
use Rattle.std.proofs.Common.{◌≡◌, ℕ, true, length, filter, Some}
use Rattle.std.specs.Prelude.{IsSome, IfSome}
use Rattle.cd_chain.specs.Cells.{is_in}
use Rattle.cd_chain.specs.Contents.{value_at, list_at, slots_of}
use Rattle.cd_window.specs.Lists.{still_in_slot}
use Rattle.cd_window.proofs.Passing.{from_slot}
use Rattle.cd_window.proofs.lists.first_open.Given as goal

abbrev pub invariant-passing : goal.invariant-passing
invariant-passing l = record {
  used : IfSome l.found (λ s. IsSome (value_at l.store s));
  among : (s : ℕ) → l.found ≡ Some s → is_in s (slots_of (list_at l.store l.lane l.list)) ≡ true;
  same : filter (still_in_slot l.windows l.side l.now l.store) (from_slot l.found (slots_of (list_at l.store l.lane l.list)))
      ≡ filter (still_in_slot l.windows l.side l.now l.store) (slots_of (list_at l.store l.lane l.list));
}

abbrev pub decreases-passing : goal.decreases-passing
decreases-passing l = length (from_slot l.found (slots_of (list_at l.store l.lane l.list)))
