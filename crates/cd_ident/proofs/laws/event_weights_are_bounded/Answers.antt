use Rattle.cd_ident.proofs.WeightBounds.{event_weights_are_bounded}
use Rattle.cd_ident.proofs.laws.event_weights_are_bounded.Goals as goal

pub returns : goal.returns
returns c = event_weights_are_bounded
