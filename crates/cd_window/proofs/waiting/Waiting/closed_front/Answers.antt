-- the first slot of the list of all
use Rattle.std.proofs.Common.{ℕ, Option, Some, ◌≡◌, ◌∙◌, subst}
use Rattle.std.specs.Prelude.{IfSome}
use Rattle.cd_window.proofs.waiting.Waiting.closed_front.Goals as goal

pub returns-clause-front : goal.returns-clause-front
returns-clause-front c = subst (λ (o : Option ℕ). IfSome c.closed.result (λ s. o ≡ Some s)) c.first-front.ensures.first c.closed.ensures.is

pub returns-clause-still : goal.returns-clause-still
returns-clause-still c = λ e s q. c.closed.ensures.still e s (c.first-front.ensures.first ∙ q)
