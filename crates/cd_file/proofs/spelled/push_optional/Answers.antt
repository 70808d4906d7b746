use Rattle.std.proofs.Common.{ap}
use Rattle.std.specs.Option.{option_map}
use Rattle.cd_file.proofs.Maps.{entry_left_out}
use Rattle.cd_file.proofs.spelled.push_optional.Goals as goal

pub returns-in-None : goal.returns-in-None
returns-in-None g c = entry_left_out _ _ _ (ap (option_map g.T.Spelled.item) c.in-None.is)
