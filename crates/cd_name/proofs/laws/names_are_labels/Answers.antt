use Rattle.cd_name.proofs.Spelled.{names_are_labels}
use Rattle.cd_name.proofs.laws.names_are_labels.Goals as goal

pub returns : goal.returns
returns c = names_are_labels
