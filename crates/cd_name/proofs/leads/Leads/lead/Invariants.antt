use Rattle.std.proofs.Common.{◌≤◌, ◌+◌}
use Rattle.cd_name.specs.Leads.{LeadsTo}
use Rattle.cd_name.proofs.leads.Leads.lead.Given as goal

-- the hops so far lead from the offset to the present one
abbrev pub invariant-hops : goal.invariant-hops
invariant-hops l = record {
  leads : LeadsTo l.fn.self l.from l.to;
  few : l.hops + l.to ≤ l.from;
}

abbrev pub decreases-hops : goal.decreases-hops
decreases-hops l = l.to
