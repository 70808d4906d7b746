-- a list has the place of its vector
use Rattle.std.proofs.Common.{◌∙◌}
use Rattle.std.specs.Cmp.Lexicographic.{pointwise}
use Rattle.cd_table.proofs.Images.{position_map}
use Rattle.cd_table.proofs.slice_table.SliceTable.index_of.Goals as goal

pub returns : goal.returns
returns g c =
    let place = position_map (pointwise g.T.PartialEq.eq c.args.items.now) (λ v. v.items) c.self.inside.values.keys in
    let view = c.self.view_is in
    let got = c.get_index_of.ensures.index in
    rw (← c.self.view_is) (got ∙ place)
