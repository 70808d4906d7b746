use Rattle.cd_pairing.proofs.Settling.{settled_stays}
use Rattle.cd_pairing.proofs.laws.settled_events_keep_their_partners.Goals as goal

pub returns : goal.returns
returns c = settled_stays
