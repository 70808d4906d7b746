use Rattle.std.proofs.Common.{length}
use Rattle.cd_pairing.specs.Pairing.{are_compatible}
use Rattle.cd_pairing.proofs.Finding.{exists}
use Rattle.cd_pairing.proofs.laws.each_list_has_a_pairing.Goals as goal

pub returns : goal.returns
returns c = λ windows events. let m = exists (are_compatible windows events) (length events) in (m.partners, m.holds)
