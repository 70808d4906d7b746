use Rattle.cd_pairing.proofs.Records.{released_stay}
use Rattle.cd_pairing.proofs.laws.released_records_stay.Goals as goal

pub returns : goal.returns
returns c = released_stay
