-- the tables have no repeats, nor have those of the images
use Rattle.cd_table.proofs.Once.{each_once}
use Rattle.cd_table.proofs.laws.tables_hold_each_value_once.Goals as goal

pub returns : goal.returns
returns c = each_once
