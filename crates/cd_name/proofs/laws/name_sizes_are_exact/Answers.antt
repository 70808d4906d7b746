use Rattle.cd_name.proofs.NameSizes.{name_sizes_are_exact}
use Rattle.cd_name.proofs.laws.name_sizes_are_exact.Goals as goal

pub returns : goal.returns
returns c = name_sizes_are_exact
