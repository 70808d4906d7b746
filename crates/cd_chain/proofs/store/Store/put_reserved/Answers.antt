use Rattle.std.proofs.Common.{◌≡◌, ℕ, length, sym, ap, ◌∙◌, subst, ◌<◌, ◌+◌, ◌-◌, None, get_or, arith}
use Rattle.std.specs.Vec.{with_items}
use Rattle.std.proofs.lemmas.List.{with_items_is}
use Rattle.cd_chain.specs.Contents.{Contents}
use Rattle.cd_chain.specs.Lists.{put_last_in}
use Rattle.cd_chain.proofs.Keeping.{spare_there, first_spare}
use Rattle.cd_chain.proofs.Steps.{puts_holds, puts_lists, puts_values, spare_within, spare_apart, filled_lists, lists_there}
use Rattle.cd_chain.specs.Links.{link_in, places_of}
use Rattle.cd_chain.specs.Lanes.{rows_in}
use Rattle.cd_chain.proofs.store.Store.put_reserved.Goals as goal

pub unwrap-slot-requires : goal.unwrap-slot-requires
unwrap-slot-requires g c = spare_there (link_in c.self.inside.slots.items) (places_of c.self.inside.slots.items) c.self.inside.free c.self.inside.spare c.self.invariant.slots_hold (subst (λ (n : ℕ). 0 < n) (ap (λ (x : Contents g.row.T.Denot). x.spare) (sym c.self.view_is)) c.requires.spare)

pub fill-self-inside-requires-clause-slot : goal.fill-self-inside-requires-clause-slot
fill-self-inside-requires-clause-slot g c = rw c.deref_mut.ensures.value (spare_within c.self.inside.slots.items (link_in c.self.inside.slots.items) c.self.inside.free c.self.inside.spare c.unwrap-slot.result c.self.invariant.slots_hold c.unwrap-slot.ensures)

pub fill-self-inside-requires-clause-free : goal.fill-self-inside-requires-clause-free
fill-self-inside-requires-clause-free g c = rw c.deref_mut.ensures.value (first_spare (link_in c.self.inside.slots.items) (places_of c.self.inside.slots.items) c.self.inside.free c.self.inside.spare c.unwrap-slot.result c.self.invariant.slots_hold c.unwrap-slot.ensures)

pub put_in_lists-requires-clause-there : goal.put_in_lists-requires-clause-there
put_in_lists-requires-clause-there g c = lists_there c.self.inside.slots.items c.self.inside.lanes c.self.inside.spare c.args.self.now c.args.lists c.self.view_is c.requires.there

pub put_in_lists-requires-clause-out : goal.put_in_lists-requires-clause-out
put_in_lists-requires-clause-out g c =
    let e1 = with_items_is c.self.inside.slots c.fill-self-inside.new.slots (c.fill-self-inside.auto.slots ∙ c.deref_mut.ensures.len) in
    let v2 = c.deref_mut-2.ensures.value ∙ e1 in
    let L = rw c.deref_mut.ensures.value at c.fill-self-inside.ensures.links in
    rw v2 (spare_apart c.self.inside.slots.items c.fill-self-inside.new.slots c.self.inside.free c.self.inside.spare c.unwrap-slot.result c.self.invariant.slots_hold c.unwrap-slot.ensures L)

pub put_in_lists-requires-clause-lists : goal.put_in_lists-requires-clause-lists
put_in_lists-requires-clause-lists g c =
    let e1 = with_items_is c.self.inside.slots c.fill-self-inside.new.slots (c.fill-self-inside.auto.slots ∙ c.deref_mut.ensures.len) in
    let v2 = c.deref_mut-2.ensures.value ∙ e1 in
    let L = rw c.deref_mut.ensures.value at c.fill-self-inside.ensures.links in
    rw v2 (filled_lists c.self.inside.slots.items c.fill-self-inside.new.slots (rows_in c.self.inside.lanes) (c.fill-self-inside.auto.slots ∙ ap length c.deref_mut.ensures.value) L c.self.invariant.lists)

pub invariant_of-self : goal.invariant_of-self
invariant_of-self g c =
    let v = c.deref_mut.ensures.value in
    let e1 = with_items_is c.self.inside.slots c.fill-self-inside.new.slots (c.fill-self-inside.auto.slots ∙ c.deref_mut.ensures.len) in
    let v2 = c.deref_mut-2.ensures.value ∙ e1 in
    let e2 = with_items_is (with_items c.self.inside.slots c.fill-self-inside.new.slots) c.put_in_lists.new.slots (c.put_in_lists.auto.slots ∙ c.deref_mut-2.ensures.len) in
    let N = rw v at c.fill-self-inside.ensures.next in
    let L = rw v at c.fill-self-inside.ensures.links in
    let P = rw v at c.fill-self-inside.ensures.places in
    let R = rw v2 at c.put_in_lists.ensures.lists in
    let Q = rw v2 at c.put_in_lists.ensures.places in
    let some : 0 < c.self.inside.spare = subst (λ (n : ℕ). 0 < n) (ap (λ (x : Contents g.row.T.Denot). x.spare) (sym c.self.view_is)) c.requires.spare in
    let es : c.self.inside.spare ≡ (c.self.inside.spare - 1) + 1 = omega arith in
    let h = puts_holds c.self.inside.slots.items c.fill-self-inside.new.slots c.put_in_lists.new.slots c.self.inside.lanes c.put_in_lists.new.lanes c.self.inside.spare (c.self.inside.spare - 1) c.unwrap-slot.result c.self.inside.free c.fill-self-inside.result c.args.value
    (λ (l : ℕ). put_last_in (get_or c.args.lists l None) c.unwrap-slot.result) c.self.invariant c.unwrap-slot.ensures es N (c.fill-self-inside.auto.slots ∙ ap length v) L P R (c.put_in_lists.auto.slots ∙ ap length v2) Q c.put_in_lists.ensures.free in
    rw e2 h

pub returns-clause-values : goal.returns-clause-values
returns-clause-values g c =
    let v = c.deref_mut.ensures.value in
    let e1 = with_items_is c.self.inside.slots c.fill-self-inside.new.slots (c.fill-self-inside.auto.slots ∙ c.deref_mut.ensures.len) in
    let v2 = c.deref_mut-2.ensures.value ∙ e1 in
    let e2 = with_items_is (with_items c.self.inside.slots c.fill-self-inside.new.slots) c.put_in_lists.new.slots (c.put_in_lists.auto.slots ∙ c.deref_mut-2.ensures.len) in
    let N = rw v at c.fill-self-inside.ensures.next in
    let P = rw v at c.fill-self-inside.ensures.places in
    let Q = rw v2 at c.put_in_lists.ensures.places in
    let h = puts_values c.self.inside.slots.items c.fill-self-inside.new.slots c.put_in_lists.new.slots c.self.inside.lanes c.put_in_lists.new.lanes c.self.inside.spare (c.self.inside.spare - 1) c.unwrap-slot.result c.fill-self-inside.result c.args.value c.args.self.now
    c.self.view_is N (spare_within c.self.inside.slots.items (link_in c.self.inside.slots.items) c.self.inside.free c.self.inside.spare c.unwrap-slot.result c.self.invariant.slots_hold c.unwrap-slot.ensures) P Q in
    rw e2 h

pub returns-clause-lists : goal.returns-clause-lists
returns-clause-lists g c =
    let v = c.deref_mut.ensures.value in
    let e1 = with_items_is c.self.inside.slots c.fill-self-inside.new.slots (c.fill-self-inside.auto.slots ∙ c.deref_mut.ensures.len) in
    let v2 = c.deref_mut-2.ensures.value ∙ e1 in
    let e2 = with_items_is (with_items c.self.inside.slots c.fill-self-inside.new.slots) c.put_in_lists.new.slots (c.put_in_lists.auto.slots ∙ c.deref_mut-2.ensures.len) in
    let L = rw v at c.fill-self-inside.ensures.links in
    let R = rw v2 at c.put_in_lists.ensures.lists in
    let h = puts_lists c.self.inside.slots.items c.fill-self-inside.new.slots c.put_in_lists.new.slots c.self.inside.lanes c.put_in_lists.new.lanes c.self.inside.spare (c.self.inside.spare - 1) c.unwrap-slot.result c.args.self.now
    (λ (l : ℕ). put_last_in (get_or c.args.lists l None) c.unwrap-slot.result) c.self.view_is (c.fill-self-inside.auto.slots ∙ ap length v) L R (c.put_in_lists.auto.slots ∙ ap length v2) in
    rw e2 h
