use Rattle.cd_engine.proofs.Weights.{events_are_light}
use Rattle.cd_engine.proofs.laws.events_are_light.Goals as goal

pub returns : goal.returns
returns c = events_are_light
