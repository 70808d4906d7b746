use Rattle.cd_window.proofs.Admitted.{holds_met}
use Rattle.cd_window.proofs.places.hold_next.Goals as goal

pub returns-in-Some : goal.returns-in-Some
returns-in-Some g c = holds_met c.args.first c.args.places.now.items c.push_held.new.places.items c.set_partner.new.places.items c.args.event c.args.next c.args.met c.in-Some.position c.in-Some.is c.push_held.ensures c.set_partner.ensures
