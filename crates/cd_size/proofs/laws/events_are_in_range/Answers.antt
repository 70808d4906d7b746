use Rattle.cd_size.proofs.EventRanges.{events_in_range}
use Rattle.cd_size.proofs.laws.events_are_in_range.Goals as goal

pub returns : goal.returns
returns c = events_in_range
