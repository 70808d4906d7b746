use Rattle.std.proofs.Common.{◌<◌, length, ℕ, List, sym, subst, ap, ◌∙◌}
use Rattle.std.specs.Prelude.{IfSome}
use Rattle.cd_chain.specs.declared.lane.Row.{Row}
use Rattle.cd_chain.specs.Lanes.{rows_in, row_at}
use Rattle.cd_chain.specs.Links.{link_in}
use Rattle.cd_chain.proofs.Putting.{puts_by, last_within}
use Rattle.cd_chain.proofs.chain.put_last.Goals as goal

pub lead_on-requires-clause-slot : goal.lead_on-requires-clause-slot
lead_on-requires-clause-slot g c = subst (λ (n : ℕ). IfSome c.ends_of-ends.result.last (λ t. t < n)) (sym c.set_link.auto.slots)
    (last_within (link_in c.args.slots.now c.args.lane) (length c.args.slots.now) c.args.list (rows_in c.args.lanes.now c.args.lane) c.ends_of-ends.result
    (ap (λ (rows : List Row). row_at rows c.args.list) (sym c.rows_in.ensures) ∙ c.ends_of-ends.ensures) c.requires.lists)

pub returns-clause-lists : goal.returns-clause-lists
returns-clause-lists g c = puts_by (link_in c.args.slots.now c.args.lane) (link_in c.set_link.new.slots c.args.lane) (link_in c.lead_on.new.slots c.args.lane) (length c.args.slots.now) c.args.slot c.args.list (rows_in c.args.lanes.now c.args.lane) _
    c.ends_of-ends.result c.or_else.result c.set_link.ensures.links c.lead_on.ensures.links
    (ap (λ (rows : List Row). row_at rows c.args.list) (sym c.rows_in.ensures) ∙ c.ends_of-ends.ensures) c.or_else.ensures c.set_row.ensures.rows c.requires.slot c.requires.there c.requires.lists c.requires.out

pub returns-clause-others : goal.returns-clause-others
returns-clause-others g c l ne = c.lead_on.ensures.others l ne ∙ c.set_link.ensures.others l ne
