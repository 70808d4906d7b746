use Rattle.std.proofs.Common.{◌≡◌, ◌<◌, ◌+◌, ◌-◌, ◌^◌, ◌∙◌, length, refl, arith, vec_len}
use Rattle.cd_chain.proofs.Steps.{missing_few, reserves_holds, reserves_lists, reserves_values}
use Rattle.cd_chain.proofs.store.Store.reserve.Goals as goal

pub add_spare-self-inside-requires-clause-few : goal.add_spare-self-inside-requires-clause-few
add_spare-self-inside-requires-clause-few g c =
    let few : length c.self.inside.slots.items + (c.args.count - c.self.inside.spare) < 2 ^ 31 = missing_few c.self.inside.slots.items c.self.inside.lanes c.self.inside.spare c.self.inside.spare c.args.count c.self.inside.free c.args.self.now c.self.view_is c.self.invariant c.requires in
    let long : vec_len c.reserve.new.self ≡ length c.self.inside.slots.items = c.reserve.ensures.len ∙ c.self.inside.slots.ok.0 in
    let missing : c.saturating_sub-missing.result ≡ c.args.count - c.self.inside.spare = c.saturating_sub-missing.ensures in
    omega arith

pub invariant_of-self-2 : goal.invariant_of-self-2
invariant_of-self-2 g c =
    let few : length c.self.inside.slots.items + (c.args.count - c.self.inside.spare) < 2 ^ 31 = missing_few c.self.inside.slots.items c.self.inside.lanes c.self.inside.spare c.self.inside.spare c.args.count c.self.inside.free c.args.self.now c.self.view_is c.self.invariant c.requires in
    let missing : c.saturating_sub-missing.result ≡ c.args.count - c.self.inside.spare = c.saturating_sub-missing.ensures in
    let M = rw c.reserve.ensures.items at c.add_spare-self-inside.ensures in
    reserves_holds c.self.inside.slots.items c.add_spare-self-inside.new.slots.items c.self.inside.lanes c.self.inside.spare (c.self.inside.spare + c.saturating_sub-missing.result) c.saturating_sub-missing.result c.self.inside.free c.add_spare-self-inside.result
    c.self.invariant M (rw missing few) refl

pub returns-clause-values : goal.returns-clause-values
returns-clause-values g c =
    let M = rw c.reserve.ensures.items at c.add_spare-self-inside.ensures in
    reserves_values c.self.inside.slots.items c.add_spare-self-inside.new.slots.items c.self.inside.lanes c.self.inside.spare (c.self.inside.spare + c.saturating_sub-missing.result) c.saturating_sub-missing.result c.self.inside.free c.add_spare-self-inside.result c.args.self.now
    c.self.view_is M

pub returns-clause-lists : goal.returns-clause-lists
returns-clause-lists g c =
    let M = rw c.reserve.ensures.items at c.add_spare-self-inside.ensures in
    reserves_lists c.self.inside.slots.items c.add_spare-self-inside.new.slots.items c.self.inside.lanes c.self.inside.spare (c.self.inside.spare + c.saturating_sub-missing.result) c.saturating_sub-missing.result c.self.inside.free c.add_spare-self-inside.result c.args.self.now
    c.self.view_is c.self.invariant M
