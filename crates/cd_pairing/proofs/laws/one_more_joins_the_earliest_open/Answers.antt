use Rattle.cd_pairing.proofs.OpenWindows.{grows_by_open}
use Rattle.cd_pairing.proofs.laws.one_more_joins_the_earliest_open.Goals as goal

pub returns : goal.returns
returns c = grows_by_open
