use Rattle.cd_engine.proofs.Projected.{kept_is_rebuilt, kept_is_counted}
use Rattle.cd_engine.proofs.laws.what_is_kept_is_rebuilt.Goals as goal

pub returns : goal.returns
returns c = record { capture = kept_is_rebuilt; counts = kept_is_counted }
