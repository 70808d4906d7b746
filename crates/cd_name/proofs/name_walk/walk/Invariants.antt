use Rattle.std.proofs.Common.{◌≡◌, ◌+◌, ◌-◌, ◌*◌, ◌≤◌, length}
use Rattle.cd_name.specs.Names.{reading_at, label_then_reading}
use Rattle.cd_name.proofs.Labels.{AreLabels}
use Rattle.cd_name.specs.NameGiving.{reading_with_end, IsEndWithin}
use Rattle.cd_name.proofs.name_walk.walk.Given as goal

-- the bytes so far are labels, and what is left completes what is read
abbrev pub invariant-pieces : goal.invariant-pieces
invariant-pieces l = record {
  same : l.leads ≡ l.fn.leads;
  are_labels : AreLabels l.name.items;
  short : length l.name.items ≤ 254;
  within : IsEndWithin l.at l.here (length l.fn.leads) l.next;
  reads : reading_at l.fn.leads l.at l.at ≡ label_then_reading l.name.items (reading_with_end l.next (reading_at l.fn.leads l.start l.here));
}

-- runs begin ever earlier, and in a run the bytes left fall
abbrev pub decreases-pieces : goal.decreases-pieces
decreases-pieces l = l.start * (length l.fn.leads + 1) + (length l.fn.leads - l.here)
