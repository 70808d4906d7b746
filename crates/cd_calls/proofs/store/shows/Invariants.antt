-- the slot that comes next stands in the list
use Rattle.std.specs.Prelude.{IsSome, IfSome}
use Rattle.cd_chain.specs.Contents.{list_at, value_at}
use Rattle.cd_chain.specs.Lists.{InList}
use Rattle.cd_calls.proofs.store.shows.Given as goal

abbrev pub invariant-values : goal.invariant-values
invariant-values l = IfSome l.slot (λ s. InList (list_at l.store l.lane l.list) s × IsSome (value_at l.store s))
