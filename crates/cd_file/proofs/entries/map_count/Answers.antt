use Rattle.std.proofs.Common.{arith, map}
use Rattle.cd_file.specs.Maps.{number_entry}
use Rattle.cd_file.proofs.Maps.{map_count_none, map_count_some}
use Rattle.cd_file.proofs.entries.map_count.Goals as goal

pub returns-then-present_count-eq0-clause-exact : goal.returns-then-present_count-eq0-clause-exact
returns-then-present_count-eq0-clause-exact c =
    map_count_none (map number_entry c.args.entries.now) (omega (arith, c.present_count.ensures.exact))

pub returns-else-present_count-eq0-clause-exact : goal.returns-else-present_count-eq0-clause-exact
returns-else-present_count-eq0-clause-exact c =
    map_count_some (map number_entry c.args.entries.now) (omega (arith, c.present_count.ensures.exact))
