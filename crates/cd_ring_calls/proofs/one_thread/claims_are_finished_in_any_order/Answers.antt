use Rattle.std.proofs.Common.{ap, ◌∙◌, None}
use lib.ListN.{get_elem?}
use Rattle.atomic_table.proofs.Lists.{set_else}
use Rattle.cd_ring.specs.Words.{claims}
use Rattle.cd_ring_calls.proofs.Apart.{apart, still_held}
use Rattle.cd_ring_calls.proofs.one_thread.claims_are_finished_in_any_order.Goals as goal

pub finish-requires-clause-claim : goal.finish-requires-clause-claim
finish-requires-clause-claim g c = c.in-Some-try_claim-2.ensures.held

pub finish-requires-2-clause-claim : goal.finish-requires-2-clause-claim
finish-requires-2-clause-claim g c = let x = c.in-Some-try_claim.first in let y = c.in-Some-try_claim-2.second in let more = c.in-Some-try_claim-2.ensures.some in
    let held = c.in-Some-try_claim.ensures.held in
    ap (λ l. get_elem? l x.slot) c.finish.ensures.claims
    ∙ set_else (claims c.try_claim-2.new.self) y.slot x.slot None
    (apart (claims c.try_claim.new.self) (claims c.try_claim-2.new.self) x.slot y.slot x.job y.job more.2 held)
    ∙ still_held (claims c.try_claim.new.self) (claims c.try_claim-2.new.self) x.slot y.slot x.job y.job more.1 more.2 held
