use Rattle.std.proofs.Common.{length, sym, ℕ, Option, subst, Some, None}
use Rattle.cd_chain.specs.Lanes.{rows_in}
use Rattle.cd_chain.specs.Links.{link_in}
use Rattle.cd_chain.specs.Lists.{put_last_in, Relinks, in_lane}
use Rattle.cd_chain.proofs.Unlinking.{not_some}
use Rattle.cd_chain.proofs.Relinking.{in_one, in_none, unchanged}
use Rattle.cd_chain.proofs.chain.put_in.Goals as goal

pub returns-in-Some-clause-lists : goal.returns-in-Some-clause-lists
returns-in-Some-clause-lists g c = subst (λ (o : Option ℕ). Relinks (link_in c.args.slots.now) (link_in c.put_last.new.slots) (length c.args.slots.now) c.args.slot (rows_in c.args.lanes.now) (rows_in c.put_last.new.lanes) (in_lane c.args.lane (put_last_in o c.args.slot))) (sym c.in-Some.is)
    (in_one (link_in c.args.slots.now) (link_in c.put_last.new.slots) (length c.args.slots.now) c.args.slot c.args.lane (rows_in c.args.lanes.now) (rows_in c.put_last.new.lanes) (put_last_in (Some c.in-Some.k) c.args.slot)
    c.requires.lists c.put_last.ensures.lists c.put_last.ensures.others c.put_last.ensures.other_rows)

pub returns-in_default-clause-lists : goal.returns-in_default-clause-lists
returns-in_default-clause-lists g c = subst (λ (o : Option ℕ). Relinks (link_in c.args.slots.now) (link_in c.args.slots.now) (length c.args.slots.now) c.args.slot (rows_in c.args.lanes.now) (rows_in c.args.lanes.now) (in_lane c.args.lane (put_last_in o c.args.slot))) (sym (not_some c.args.list c.in_default.not-Some))
    (in_none (link_in c.args.slots.now) (link_in c.args.slots.now) (length c.args.slots.now) c.args.slot c.args.lane (rows_in c.args.lanes.now) (rows_in c.args.lanes.now) (put_last_in None c.args.slot)
    c.requires.lists (unchanged (link_in c.args.slots.now c.args.lane) (length c.args.slots.now) c.args.slot (rows_in c.args.lanes.now c.args.lane) (c.requires.lists c.args.lane)))
