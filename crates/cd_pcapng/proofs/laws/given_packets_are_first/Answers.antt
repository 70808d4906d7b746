use Rattle.cd_pcapng.proofs.Standing.{given_first}
use Rattle.cd_pcapng.proofs.laws.given_packets_are_first.Goals as goal

pub returns : goal.returns
returns c = given_first
