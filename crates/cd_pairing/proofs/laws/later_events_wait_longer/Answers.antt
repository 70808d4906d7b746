use Rattle.cd_pairing.proofs.OpenWindows.{later_waits}
use Rattle.cd_pairing.proofs.laws.later_events_wait_longer.Goals as goal

pub returns : goal.returns
returns c = later_waits
