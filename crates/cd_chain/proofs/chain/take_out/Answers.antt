use Rattle.std.proofs.Common.{length, ◌∙◌, sym, ap}
use Rattle.cd_chain.specs.declared.link.Link.{Link}
use Rattle.cd_chain.specs.Lanes.{rows_in}
use Rattle.cd_chain.specs.Links.{link_in}
use Rattle.cd_chain.specs.Lists.{gone_from}
use Rattle.cd_chain.proofs.Unlinking.{not_in, not_some}
use Rattle.cd_chain.proofs.Relinking.{in_one, in_none}
use Rattle.cd_chain.proofs.chain.take_out.Goals as goal

pub returns-in-Some-clause-lists : goal.returns-in-Some-clause-lists
returns-in-Some-clause-lists g c = in_one (link_in c.args.slots.now) (link_in c.take_out_of.new.slots) (length c.args.slots.now) c.args.slot c.args.lane (rows_in c.args.lanes.now) (rows_in c.take_out_of.new.lanes) (λ k. gone_from c.args.slot)
    c.requires.lists c.take_out_of.ensures.lists c.take_out_of.ensures.others c.take_out_of.ensures.other_rows

pub returns-in_default-clause-lists : goal.returns-in_default-clause-lists
returns-in_default-clause-lists g c = in_none (link_in c.args.slots.now) (link_in c.args.slots.now) (length c.args.slots.now) c.args.slot c.args.lane (rows_in c.args.lanes.now) (rows_in c.args.lanes.now) (λ k. gone_from c.args.slot)
    c.requires.lists (not_in (link_in c.args.slots.now c.args.lane) (length c.args.slots.now) c.args.slot (rows_in c.args.lanes.now c.args.lane)
    (sym (ap (λ (x : Link). x.list) c.link_at-link.ensures) ∙ not_some c.link_at-link.result.list c.in_default.not-Some) (c.requires.lists c.args.lane))
