use Rattle.std.proofs.Common.{length}
use Rattle.cd_pairing.specs.Pairing.{are_compatible}
use Rattle.cd_pairing.proofs.Unique.{unique}
use Rattle.cd_pairing.proofs.laws.pairings_are_unique.Goals as goal

pub returns : goal.returns
returns c = λ windows events p q P Q. unique (are_compatible windows events) (length events) p q P Q
