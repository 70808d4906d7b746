use Rattle.std.proofs.Common.{◌∙◌, ap, sym, List}
use Rattle.cd_chain.specs.declared.lane.Row.{Row}
use Rattle.cd_chain.specs.Lanes.{row_at}
use Rattle.cd_chain.proofs.Seeing.{first_is}
use Rattle.cd_chain.proofs.Stores.{first_used}
use Rattle.cd_chain.proofs.store.Store.first.Goals as goal

pub returns-clause-first : goal.returns-clause-first
returns-clause-first g c = first_is c.self.inside.slots.items c.self.inside.lanes c.self.inside.spare c.args.lane c.args.list c.args.self.now c.ends_of-ends.result c.self.view_is (c.self.invariant.lists c.args.lane)
    (ap (λ (rows : List Row). row_at rows c.args.list) (sym c.rows_in.ensures) ∙ c.ends_of-ends.ensures)

pub returns-clause-used : goal.returns-clause-used
returns-clause-used g c = first_used c.self.inside.slots.items c.self.inside.lanes c.self.inside.spare c.self.inside.spare c.args.lane c.args.list c.self.inside.free c.args.self.now c.ends_of-ends.result c.self.view_is c.self.invariant
    (ap (λ (rows : List Row). row_at rows c.args.list) (sym c.rows_in.ensures) ∙ c.ends_of-ends.ensures)
