use Rattle.std.proofs.Common.{◌≡◌, ◌≤◌, length, IfOk, Result, Ok, Err, ap, arith}
use Rattle.std.proofs.lemmas.List.{length-take}
use Rattle.cd_ident.proofs.WeightBounds.{event_weights_are_bounded}
use Rattle.cd_ident.specs.Events.{EventParts, event_parts}
use Rattle.cd_ident.specs.Keys.{parts_of}
use Rattle.cd_ident.specs.declared.event.Event.{Event}
use Rattle.cd_ident.specs.declared.event_rules.EventRules.{EventRules}
use Rattle.cd_packet.specs.Layers.{Datagram}
use Rattle.cd_record.specs.Laws.{IsLight}
use Rattle.cd_calls.proofs.runs.event.Goals as goal

-- the event that is made of a datagram is light
of_datagram : {E : Type 0} (rules : EventRules) (d : Datagram) (e : Result Event E) → length d.payload ≤ 65535 → IfOk e (λ event. parts_of event ≡ event_parts rules d) →
    IfOk e (λ event. IsLight (parts_of event))
of_datagram rules d (Ok event) fits same =
    let weight = ap (λ (parts : EventParts). parts.weight) same in
    omega (arith, weight, (event_weights_are_bounded rules d fits).greatest)
of_datagram rules d (Err e) fits same = same

pub returns : goal.returns
returns c = of_datagram _ _ _ (simp length-take (omega (arith, c.min.ensures))) c.event_of.ensures.exact
