use Rattle.cd_hints.proofs.WholeBytes.{whole_address}
use Rattle.cd_hints.proofs.laws.whole_addresses_stay.Goals as goal

pub returns : goal.returns
returns c = whole_address
