use Rattle.std.proofs.Common.{◌≡◌, arith, map, refl, ap, sym, ◌∙◌}
use Rattle.cd_pairing.specs.declared.keyed.Side.TheVariants.{Neither}
use Rattle.cd_pairing.specs.declared.stamp.Stamp.{Stamp}
use Rattle.cd_pairing.specs.Events.{EventView, event_at}
use Rattle.cd_pairing.proofs.Matcher.{paired_neither}
use Rattle.cd_pairing.proofs.Stamps.{at_next}
use Rattle.cd_pairing.proofs.whole_list.Matcher.add.Goals as goal

pub returns-in_ok-push-in-Neither-clause-paired : goal.returns-in_ok-push-in-Neither-clause-paired
returns-in_ok-push-in-Neither-clause-paired g c =
    let es = map g.E.Keyed.view c.args.events.now in
    let now = c.next-now.result in
    let x = c.index-events-now in
    let at = at_next g.E.Keyed.view c.args.events.now now.index x.result (let p = ap (λ (s : Stamp). s.index) c.next-now.ensures in omega arith) x.is in
    let is : (event_at es now.index).side ≡ Neither = ap (λ (e : EventView). e.side) at ∙ sym c.in-Neither.ensures in
    paired_neither c.args.windows.now es c.args.self.now _ now c.requires.paired c.next-now.ensures is c.in_ok-push-in-Neither.ensures.items refl refl refl refl
