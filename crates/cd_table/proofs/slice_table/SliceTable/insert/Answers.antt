-- the lists of the table are the items of its vectors
use Rattle.std.proofs.Common.{map, ap, sym, ◌∙◌}
use Rattle.std.specs.Cmp.Lexicographic.{pointwise}
use Rattle.cd_table.proofs.Images.{position_or_len_map, put_map}
use Rattle.cd_table.proofs.slice_table.SliceTable.insert.Goals as goal
use Rattle.cd_table.proofs.slice_table.SliceTable.insert.Goals.{in-Ok, in-Err}

pub returns-clause-table : goal.returns-clause-table
returns-clause-table g c =
    let lists = put_map (pointwise g.T.PartialEq.eq) (λ v. v.items) c.self.inside.values.keys c.args.items in
    elim c.match-insert_full.branch [
      | in-Ok w ↦ rw w.result-is (rw (← c.self.view_is) (ap (map (λ v. v.items)) w.in-Ok.ensures.keys ∙ lists))
      | in-Err w ↦ rw w.result-is tt
    ]

pub returns-clause-index : goal.returns-clause-index
returns-clause-index g c =
    let place = position_or_len_map (pointwise g.T.PartialEq.eq c.args.items.items) (λ v. v.items) c.self.inside.values.keys in
    elim c.match-insert_full.branch [
      | in-Ok w ↦ rw w.result-is (rw (← c.self.view_is) (w.in-Ok.ensures.index ∙ sym place))
      | in-Err w ↦ rw w.result-is tt
    ]
