use Rattle.std.proofs.Common.{◌<◌, length, ℕ, List, sym, subst, ap, ◌∙◌}
use Rattle.std.specs.Prelude.{IfSome}
use Rattle.cd_chain.specs.declared.link.Link.{Link}
use Rattle.cd_chain.specs.declared.lane.Row.{Row}
use Rattle.cd_chain.specs.Lanes.{rows_in, row_at}
use Rattle.cd_chain.specs.Links.{link_in}
use Rattle.cd_chain.proofs.Unlinking.{list_there, list_within, before_within, after_within, unlinks_by, is_out}
use Rattle.cd_chain.proofs.chain.take_out_of.Goals as goal

pub ends_of-ends-requires-clause-within : goal.ends_of-ends-requires-clause-within
ends_of-ends-requires-clause-within g c = rw c.rows_in.ensures (list_within (rows_in c.args.lanes.now c.args.lane) c.args.list (list_there (link_in c.args.slots.now c.args.lane) (length c.args.slots.now) c.args.slot c.args.list (rows_in c.args.lanes.now c.args.lane) c.requires.lists c.requires.list))

pub ends_of-ends-requires-clause-there : goal.ends_of-ends-requires-clause-there
ends_of-ends-requires-clause-there g c = rw c.rows_in.ensures (list_there (link_in c.args.slots.now c.args.lane) (length c.args.slots.now) c.args.slot c.args.list (rows_in c.args.lanes.now c.args.lane) c.requires.lists c.requires.list)

pub lead_on-requires-clause-slot : goal.lead_on-requires-clause-slot
lead_on-requires-clause-slot g c = subst (λ (x : Link). IfSome x.before (λ t. t < length c.args.slots.now)) (sym c.link_at-link.ensures)
    (before_within (link_in c.args.slots.now c.args.lane) (length c.args.slots.now) c.args.slot c.args.list (rows_in c.args.lanes.now c.args.lane) c.requires.lists c.requires.list)

pub lead_back-requires-clause-slot : goal.lead_back-requires-clause-slot
lead_back-requires-clause-slot g c = subst (λ (n : ℕ). IfSome c.link_at-link.result.after (λ t. t < n)) (sym c.lead_on.auto.slots)
    (subst (λ (x : Link). IfSome x.after (λ t. t < length c.args.slots.now)) (sym c.link_at-link.ensures)
    (after_within (link_in c.args.slots.now c.args.lane) (length c.args.slots.now) c.args.slot c.args.list (rows_in c.args.lanes.now c.args.lane) c.requires.lists c.requires.list))

pub returns-clause-lists : goal.returns-clause-lists
returns-clause-lists g c = unlinks_by (link_in c.args.slots.now c.args.lane) (link_in c.lead_on.new.slots c.args.lane) (link_in c.lead_back.new.slots c.args.lane) (link_in c.set_link.new.slots c.args.lane) (length c.args.slots.now) c.args.slot c.args.list (rows_in c.args.lanes.now c.args.lane) _
    c.ends_of-ends.result c.link_at-link.result c.first_past.result c.first_past-2.result c.link_at-link.ensures c.lead_on.ensures.links c.lead_back.ensures.links c.set_link.ensures.links
    (ap (λ (rows : List Row). row_at rows c.args.list) (sym c.rows_in.ensures) ∙ c.ends_of-ends.ensures) c.first_past.ensures c.first_past-2.ensures c.set_row.ensures.rows c.requires.lists c.requires.list

pub returns-clause-out : goal.returns-clause-out
returns-clause-out g c = is_out (link_in c.lead_back.new.slots c.args.lane) (link_in c.set_link.new.slots c.args.lane) c.args.slot c.set_link.ensures.links

pub returns-clause-others : goal.returns-clause-others
returns-clause-others g c l ne = c.set_link.ensures.others l ne ∙ c.lead_back.ensures.others l ne ∙ c.lead_on.ensures.others l ne
