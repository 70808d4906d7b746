-- each slot that is met stands in the list
use Rattle.std.proofs.Common.{subst}
use Rattle.std.specs.Prelude.{IsSome, IfSome}
use Rattle.cd_chain.specs.Contents.{list_at, value_at}
use Rattle.cd_chain.specs.Lists.{InList}
use Rattle.cd_calls.proofs.Rowing.{begins_row, goes_on}
use Rattle.cd_calls.proofs.store.shows.Goals as goal

pub values-init : goal.values-init
values-init c = begins_row c.args.store.now c.args.lane c.args.list c.first-slot.result c.first-slot.ensures.first c.first-slot.ensures.used

pub next-slot-requires : goal.next-slot-requires
next-slot-requires c =
    let h = subst (λ o. IfSome o (λ s. InList (list_at c.args.store.now c.args.lane c.args.list) s × IsSome (value_at c.args.store.now s))) c.in-Some.is c.values.invariant in
    record { list = c.args.list; within = h.0 }

pub values-preserved : goal.values-preserved
values-preserved c =
    let h = subst (λ o. IfSome o (λ s. InList (list_at c.args.store.now c.args.lane c.args.list) s × IsSome (value_at c.args.store.now s))) c.in-Some.is c.values.invariant in
    goes_on c.args.store.now c.args.lane c.args.list c.in-Some.here c.next-slot.result (c.next-slot.ensures.next c.args.list h.0) c.next-slot.ensures.used
