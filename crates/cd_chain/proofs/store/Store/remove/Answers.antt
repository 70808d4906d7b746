use Rattle.std.proofs.Common.{ℕ, length, ap, ◌∙◌, ◌+◌}
use Rattle.std.specs.Vec.{with_items}
use Rattle.std.proofs.lemmas.List.{with_items_is}
use Rattle.cd_chain.specs.Lists.{gone_from}
use Rattle.cd_chain.proofs.Steps.{removes_holds, removes_lists, removes_values}
use Rattle.cd_chain.proofs.store.Store.remove.Goals as goal

pub invariant_of-self : goal.invariant_of-self
invariant_of-self g c =
    let v = c.deref_mut.ensures.value in
    let e1 = with_items_is c.self.inside.slots c.take_out_of_all.new.slots (c.take_out_of_all.auto.slots ∙ c.deref_mut.ensures.len) in
    let v2 = c.deref_mut-2.ensures.value ∙ e1 in
    let e2 = with_items_is (with_items c.self.inside.slots c.take_out_of_all.new.slots) c.empty-value.new.slots (c.empty-value.auto.slots ∙ c.deref_mut-2.ensures.len) in
    let R = rw v at c.take_out_of_all.ensures.lists in
    let P = rw v at c.take_out_of_all.ensures.places in
    let L = rw v2 at c.empty-value.ensures.links in
    let Q = rw v2 at c.empty-value.ensures.places in
    let h = removes_holds c.self.inside.slots.items c.take_out_of_all.new.slots c.empty-value.new.slots c.self.inside.lanes c.take_out_of_all.new.lanes c.self.inside.spare c.args.slot c.self.inside.free c.args.self.now (λ (l k : ℕ). gone_from c.args.slot)
    c.self.view_is c.self.invariant c.requires R c.take_out_of_all.ensures.out P c.take_out_of_all.ensures.free
    (c.empty-value.auto.slots ∙ ap length v2 ∙ c.take_out_of_all.auto.slots ∙ ap length v) L Q in
    rw e2 h

pub returns-clause-lists : goal.returns-clause-lists
returns-clause-lists g c =
    let v = c.deref_mut.ensures.value in
    let e1 = with_items_is c.self.inside.slots c.take_out_of_all.new.slots (c.take_out_of_all.auto.slots ∙ c.deref_mut.ensures.len) in
    let v2 = c.deref_mut-2.ensures.value ∙ e1 in
    let e2 = with_items_is (with_items c.self.inside.slots c.take_out_of_all.new.slots) c.empty-value.new.slots (c.empty-value.auto.slots ∙ c.deref_mut-2.ensures.len) in
    let R = rw v at c.take_out_of_all.ensures.lists in
    let L = rw v2 at c.empty-value.ensures.links in
    let h = removes_lists c.self.inside.slots.items c.take_out_of_all.new.slots c.empty-value.new.slots c.self.inside.lanes c.take_out_of_all.new.lanes c.self.inside.spare (c.self.inside.spare + 1) c.args.slot c.args.self.now (λ (l k : ℕ). gone_from c.args.slot)
    c.self.view_is R (c.empty-value.auto.slots ∙ ap length v2 ∙ c.take_out_of_all.auto.slots ∙ ap length v) L in
    rw e2 h

pub returns-clause-values : goal.returns-clause-values
returns-clause-values g c =
    let v = c.deref_mut.ensures.value in
    let e1 = with_items_is c.self.inside.slots c.take_out_of_all.new.slots (c.take_out_of_all.auto.slots ∙ c.deref_mut.ensures.len) in
    let v2 = c.deref_mut-2.ensures.value ∙ e1 in
    let e2 = with_items_is (with_items c.self.inside.slots c.take_out_of_all.new.slots) c.empty-value.new.slots (c.empty-value.auto.slots ∙ c.deref_mut-2.ensures.len) in
    let P = rw v at c.take_out_of_all.ensures.places in
    let V = rw v2 at c.empty-value.ensures.value in
    let Q = rw v2 at c.empty-value.ensures.places in
    let h = removes_values c.self.inside.slots.items c.take_out_of_all.new.slots c.empty-value.new.slots c.self.inside.lanes c.take_out_of_all.new.lanes c.self.inside.spare (c.self.inside.spare + 1) c.args.slot c.self.inside.free c.empty-value.result c.args.self.now
    c.self.view_is P V Q in
    rw e2 h
