use Rattle.std.proofs.Common.{◌-◌, ◌≡◌}
use Rattle.cd_name.specs.Names.{reading_at, pointer_then_reading}
use Rattle.cd_name.proofs.leads.Leads.fill.Given as goal

-- what is on the way reads as the end of it does
abbrev pub invariant-offsets : goal.invariant-offsets
invariant-offsets l = record {
  same : l.self ≡ l.fn.self;
  reads : pointer_then_reading 0 (reading_at l.fn.self l.here l.here) ≡ pointer_then_reading 0 (reading_at l.fn.self l.to l.to);
}

abbrev pub decreases-offsets : goal.decreases-offsets
decreases-offsets l = l.here - l.to
