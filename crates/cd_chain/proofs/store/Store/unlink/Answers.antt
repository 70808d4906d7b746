use Rattle.std.proofs.Common.{ℕ, length, ap, ◌∙◌}
use Rattle.std.proofs.lemmas.List.{with_items_is}
use Rattle.cd_chain.specs.Lists.{gone_from, in_lane}
use Rattle.cd_chain.proofs.Seeing.{linked, changes_by}
use Rattle.cd_chain.proofs.Steps.{unlinks_holds}
use Rattle.cd_chain.proofs.store.Store.unlink.Goals as goal

pub take_out-requires-clause-slot : goal.take_out-requires-clause-slot
take_out-requires-clause-slot g c = rw c.deref_mut.ensures.value (linked c.self.inside.slots.items c.self.inside.lanes c.self.inside.spare c.args.lane c.args.slot c.args.self.now c.self.view_is c.self.invariant.lists c.requires).within

pub take_out-requires-clause-lists : goal.take_out-requires-clause-lists
take_out-requires-clause-lists g c = rw c.deref_mut.ensures.value c.self.invariant.lists

pub invariant_of-self : goal.invariant_of-self
invariant_of-self g c =
    let es = with_items_is c.self.inside.slots c.take_out.new.slots (c.take_out.auto.slots ∙ c.deref_mut.ensures.len) in
    let R = rw c.deref_mut.ensures.value at c.take_out.ensures.lists in
    let P = rw c.deref_mut.ensures.value at c.take_out.ensures.places in
    let h = unlinks_holds c.self.inside.slots.items c.take_out.new.slots c.self.inside.lanes c.take_out.new.lanes c.self.inside.spare c.args.lane c.args.slot c.self.inside.free c.args.self.now (in_lane c.args.lane (λ (k : ℕ). gone_from c.args.slot))
    c.self.view_is c.self.invariant c.requires R (c.take_out.auto.slots ∙ ap length c.deref_mut.ensures.value) P c.take_out.ensures.free in
    rw es h

pub returns-clause-lists : goal.returns-clause-lists
returns-clause-lists g c =
    let es = with_items_is c.self.inside.slots c.take_out.new.slots (c.take_out.auto.slots ∙ c.deref_mut.ensures.len) in
    let R = rw c.deref_mut.ensures.value at c.take_out.ensures.lists in
    let h = changes_by c.self.inside.slots.items c.take_out.new.slots c.self.inside.lanes c.take_out.new.lanes c.self.inside.spare c.self.inside.spare c.args.slot c.args.self.now (in_lane c.args.lane (λ (k : ℕ). gone_from c.args.slot))
    c.self.view_is (c.take_out.auto.slots ∙ ap length c.deref_mut.ensures.value) R in
    rw es h
