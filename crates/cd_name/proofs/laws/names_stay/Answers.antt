use Rattle.cd_name.proofs.Longer.{names_stay, broken_names_stay}
use Rattle.cd_name.proofs.laws.names_stay.Goals as goal

pub returns : goal.returns
returns c = record { read = names_stay; broken = broken_names_stay }
