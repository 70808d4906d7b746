use Rattle.cd_engine.proofs.Weights.{events_are_linear}
use Rattle.cd_engine.proofs.laws.weights_of_events_are_linear.Goals as goal

pub returns : goal.returns
returns c = events_are_linear
