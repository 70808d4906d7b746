use Rattle.std.proofs.Common.{◌∙◌, Option, ℕ, set, ap}
use Rattle.cd_chain.specs.declared.lane.Row.TheVariants.{Free}
use Rattle.cd_chain.specs.Lanes.{rows_in}
use Rattle.cd_chain.proofs.Rows.{drops}
use Rattle.cd_chain.specs.Lanes.{free_in}
use Rattle.cd_chain.proofs.lane.drop_row.Goals as goal

pub returns-clause-row : goal.returns-clause-row
returns-clause-row c = drops (rows_in c.args.lanes.now c.args.lane) _ c.args.list (free_in c.args.lanes.now c.args.lane) c.requires.list c.requires.there c.requires.frees
    (c.set_free.ensures.rows c.args.lane ∙ c.set_row.ensures.rows ∙ ap (λ (o : Option ℕ). set (rows_in c.args.lanes.now c.args.lane) c.args.list (Free o)) c.free_in-next.ensures)
