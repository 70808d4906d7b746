-- An event keeps that it is not lighter than the least weight.
use Rattle.std.proofs.Common.{zero, suc, [], ◌∷◌, arith}
use Rattle.cd_ident.specs.EventWeights.{EventsAreHeavy}

pub events_are_heavy : EventsAreHeavy
events_are_heavy [] i lt = absurd (omega arith)
events_are_heavy (e ∷ es) zero lt = e.heavy
events_are_heavy (e ∷ es) (suc i) lt = events_are_heavy es i (omega arith)
