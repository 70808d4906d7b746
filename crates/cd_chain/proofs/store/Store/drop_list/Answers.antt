use Rattle.std.proofs.Common.{ap, List, ℕ, Option}
use Rattle.std.specs.Prelude.{is_some}
use Rattle.cd_chain.proofs.Seeing.{there_seen}
use Rattle.cd_chain.proofs.Stores.{dropped_holds, drops_list}
use Rattle.cd_chain.proofs.store.Store.drop_list.Goals as goal

pub drop_row-requires-clause-there : goal.drop_row-requires-clause-there
drop_row-requires-clause-there g c = there_seen c.self.inside.slots.items c.self.inside.lanes c.self.inside.spare c.args.lane c.args.list c.args.self.now c.self.view_is (ap (λ (o : Option (List ℕ)). is_some o) c.requires)

pub drop_row-requires-clause-frees : goal.drop_row-requires-clause-frees
drop_row-requires-clause-frees g c = c.self.invariant.numbers c.args.lane

pub invariant_of-self : goal.invariant_of-self
invariant_of-self g c = dropped_holds c.self.inside.slots.items c.self.inside.lanes c.drop_row.new.lanes c.self.inside.spare c.self.inside.spare c.args.lane c.args.list c.self.inside.free c.args.self.now c.self.view_is c.self.invariant c.requires
    c.drop_row.ensures.row c.drop_row.ensures.free c.drop_row.ensures.others c.drop_row.ensures.others_free

pub returns-clause-lists : goal.returns-clause-lists
returns-clause-lists g c = drops_list c.self.inside.slots.items c.self.inside.lanes c.drop_row.new.lanes c.self.inside.spare c.args.lane c.args.list c.args.self.now c.self.view_is c.drop_row.ensures.row c.drop_row.ensures.others
