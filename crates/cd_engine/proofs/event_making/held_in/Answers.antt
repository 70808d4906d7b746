use Rattle.std.proofs.Common.{sym}
use Rattle.cd_engine.proofs.EventsMade.{made, made_light, made_linear}
use Rattle.cd_engine.proofs.event_making.held_in.Goals as goal

pub returns-in_ok-event_of-in-Dgram-clause-exact : goal.returns-in_ok-event_of-in-Dgram-clause-exact
returns-in_ok-event_of-in-Dgram-clause-exact c =
    made c.args.rules.now c.args.packet.now _ _ (sym c.in-Dgram.ensures.found) c.in_ok-event_of-in-Dgram.ensures.exact c.in-Dgram.ensures.short_payload

pub returns-in_ok-event_of-in-Dgram-clause-weight : goal.returns-in_ok-event_of-in-Dgram-clause-weight
returns-in_ok-event_of-in-Dgram-clause-weight c =
    made_light c.args.rules.now _ _ c.in_ok-event_of-in-Dgram.ensures.exact c.in-Dgram.ensures.short_payload

pub returns-in_ok-event_of-in-Dgram-clause-linear : goal.returns-in_ok-event_of-in-Dgram-clause-linear
returns-in_ok-event_of-in-Dgram-clause-linear c =
    made_linear c.args.rules.now c.args.packet.now _ _ (sym c.in-Dgram.ensures.found) c.in_ok-event_of-in-Dgram.ensures.exact
