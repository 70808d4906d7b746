use Rattle.std.proofs.Common.{◌≡◌, ℕ, ◌<◌, map, false}
use Rattle.cd_pairing.specs.Pairing.{may_pair}
use Rattle.cd_pairing.specs.Waiting.{stamp_under, event_of}
use Rattle.cd_pairing.proofs.queue.first_fit.Given as goal

abbrev pub invariant-waiting : goal.invariant-waiting
invariant-waiting g l = (m : ℕ) → m < l.k → may_pair l.windows (event_of (map g.E.Keyed.view l.events) (stamp_under l.waiting.items m)) (event_of (map g.E.Keyed.view l.events) l.now) ≡ false
