use Rattle.std.proofs.Common.{length, ◌∙◌, sym, ap, subst, List, ℕ, None, get_or, arith}
use Rattle.std.specs.Prelude.{IfSome}
use Rattle.cd_chain.specs.declared.link.Link.{Link}
use Rattle.cd_chain.specs.declared.lane.Row.{Row}
use Rattle.cd_chain.specs.Lanes.{rows_in, row_at}
use Rattle.cd_chain.specs.Links.{link_in}
use Rattle.cd_chain.specs.Lists.{IsThere, put_last_in, in_lane}
use Rattle.cd_chain.proofs.Relinking.{three, at_length, lists_at, none_put}
use Rattle.cd_chain.proofs.chain.put_in_lists.Goals as goal

pub returns-clause-lists : goal.returns-clause-lists
returns-clause-lists g c = three (link_in c.args.slots.now) (link_in c.put_in.new.slots) (link_in c.put_in-2.new.slots) (link_in c.put_in-3.new.slots) (length c.args.slots.now) c.args.slot c.args.lanes.now c.put_in.new.lanes c.put_in-2.new.lanes c.put_in-3.new.lanes
    (λ (l : ℕ). put_last_in (get_or c.args.lists l None) c.args.slot) (λ (l : ℕ). none_put (get_or c.args.lists l None) c.args.slot)
    c.put_in.ensures.lists
    (at_length (link_in c.put_in.new.slots) (link_in c.put_in-2.new.slots) (length c.put_in.new.slots) (length c.args.slots.now) c.args.slot (rows_in c.put_in.new.lanes) (rows_in c.put_in-2.new.lanes) (in_lane 1 (put_last_in (get_or c.args.lists 1 None) c.args.slot)) (c.put_in.auto.slots) c.put_in-2.ensures.lists)
    (at_length (link_in c.put_in-2.new.slots) (link_in c.put_in-3.new.slots) (length c.put_in-2.new.slots) (length c.args.slots.now) c.args.slot (rows_in c.put_in-2.new.lanes) (rows_in c.put_in-3.new.lanes) (in_lane 2 (put_last_in (get_or c.args.lists 2 None) c.args.slot)) (c.put_in-2.auto.slots ∙ c.put_in.auto.slots) c.put_in-3.ensures.lists)

pub returns-clause-free : goal.returns-clause-free
returns-clause-free g c l = c.put_in-3.ensures.free l ∙ c.put_in-2.ensures.free l ∙ c.put_in.ensures.free l

pub put_in-requires-clause-out : goal.put_in-requires-clause-out
put_in-requires-clause-out g c = c.requires.out 0

pub put_in-requires-2-clause-there : goal.put_in-requires-2-clause-there
put_in-requires-2-clause-there g c = subst (λ (rs : List Row). IfSome (get_or c.args.lists 1 None) (λ k. IsThere (row_at rs k))) (sym (c.put_in.ensures.other_rows 1 (λ e. omega arith))) (c.requires.there 1 (omega arith))

pub put_in-requires-2-clause-out : goal.put_in-requires-2-clause-out
put_in-requires-2-clause-out g c = ap (λ (a : ℕ → Link). (a c.args.slot).list) (c.put_in.ensures.others 1 (λ e. omega arith)) ∙ c.requires.out 1

pub put_in-requires-3-clause-there : goal.put_in-requires-3-clause-there
put_in-requires-3-clause-there g c = subst (λ (rs : List Row). IfSome (get_or c.args.lists 2 None) (λ k. IsThere (row_at rs k))) (sym (c.put_in-2.ensures.other_rows 2 (λ e. omega arith) ∙ c.put_in.ensures.other_rows 2 (λ e. omega arith))) (c.requires.there 2 (omega arith))

pub put_in-requires-3-clause-out : goal.put_in-requires-3-clause-out
put_in-requires-3-clause-out g c = ap (λ (a : ℕ → Link). (a c.args.slot).list) (c.put_in-2.ensures.others 2 (λ e. omega arith) ∙ c.put_in.ensures.others 2 (λ e. omega arith)) ∙ c.requires.out 2

pub put_in-requires-3-clause-lists : goal.put_in-requires-3-clause-lists
put_in-requires-3-clause-lists g c = lists_at (link_in c.put_in.new.slots) (link_in c.put_in-2.new.slots) (length c.put_in.new.slots) (length c.put_in-2.new.slots) c.args.slot (rows_in c.put_in.new.lanes) (rows_in c.put_in-2.new.lanes) (in_lane 1 (put_last_in (get_or c.args.lists 1 None) c.args.slot)) (sym c.put_in-2.auto.slots) c.put_in-2.ensures.lists
