use Rattle.cd_pcapng.proofs.Refusals.{refusals_kept}
use Rattle.cd_pcapng.proofs.laws.refusals_stay.Goals as goal

pub returns : goal.returns
returns c = refusals_kept
