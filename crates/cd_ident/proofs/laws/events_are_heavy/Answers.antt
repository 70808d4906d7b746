use Rattle.cd_ident.proofs.HeavyEvents.{events_are_heavy}
use Rattle.cd_ident.proofs.laws.events_are_heavy.Goals as goal

pub returns : goal.returns
returns c = events_are_heavy
