use Rattle.cd_size.proofs.EventTimes.{events_timed}
use Rattle.cd_size.proofs.laws.events_are_timed.Goals as goal

pub returns : goal.returns
returns c = events_timed
