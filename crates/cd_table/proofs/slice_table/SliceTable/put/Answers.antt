-- a list that is there stays where it is
use Rattle.std.specs.Cmp.Lexicographic.{pointwise}
use Rattle.cd_table.proofs.Images.{table_has}
use Rattle.cd_table.proofs.slice_table.SliceTable.put.Goals as goal

pub returns-in-Some-clause-table : goal.returns-in-Some-clause-table
returns-in-Some-clause-table g c =
    table_has (pointwise g.T.PartialEq.eq) c.args.self.now c.args.items.now c.in-Some.index c.in-Some.ensures
