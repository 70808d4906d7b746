use Rattle.std.proofs.Common.{length, ◌∙◌, refl, ℕ}
use Rattle.cd_chain.specs.Lanes.{rows_in}
use Rattle.cd_chain.specs.Links.{link_in}
use Rattle.cd_chain.specs.Lists.{gone_from, in_lane}
use Rattle.cd_chain.proofs.Relinking.{three, outs, at_length}
use Rattle.cd_chain.proofs.chain.take_out_of_all.Goals as goal

pub returns-clause-lists : goal.returns-clause-lists
returns-clause-lists g c = three (link_in c.args.slots.now) (link_in c.take_out.new.slots) (link_in c.take_out-2.new.slots) (link_in c.take_out-3.new.slots) (length c.args.slots.now) c.args.slot c.args.lanes.now c.take_out.new.lanes c.take_out-2.new.lanes c.take_out-3.new.lanes
    (λ (l j : ℕ). gone_from c.args.slot) (λ l j. refl)
    c.take_out.ensures.lists
    (at_length (link_in c.take_out.new.slots) (link_in c.take_out-2.new.slots) (length c.take_out.new.slots) (length c.args.slots.now) c.args.slot (rows_in c.take_out.new.lanes) (rows_in c.take_out-2.new.lanes) (in_lane 1 (λ (j : ℕ). gone_from c.args.slot)) (c.take_out.auto.slots) c.take_out-2.ensures.lists)
    (at_length (link_in c.take_out-2.new.slots) (link_in c.take_out-3.new.slots) (length c.take_out-2.new.slots) (length c.args.slots.now) c.args.slot (rows_in c.take_out-2.new.lanes) (rows_in c.take_out-3.new.lanes) (in_lane 2 (λ (j : ℕ). gone_from c.args.slot)) (c.take_out-2.auto.slots ∙ c.take_out.auto.slots) c.take_out-3.ensures.lists)

pub returns-clause-free : goal.returns-clause-free
returns-clause-free g c l = c.take_out-3.ensures.free l ∙ c.take_out-2.ensures.free l ∙ c.take_out.ensures.free l

pub returns-clause-out : goal.returns-clause-out
returns-clause-out g c = outs c.args.slots.now c.take_out.new.slots c.take_out-2.new.slots c.take_out-3.new.slots c.args.slot c.take_out.ensures.out c.take_out-2.ensures.out c.take_out-3.ensures.out c.take_out-2.ensures.others c.take_out-3.ensures.others
