use Rattle.cd_pairing.proofs.Settling.{settled_grows}
use Rattle.cd_pairing.proofs.laws.settled_events_stay_settled.Goals as goal

pub returns : goal.returns
returns c = settled_grows
