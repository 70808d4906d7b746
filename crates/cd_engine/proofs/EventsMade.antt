-- The event that is made of a packet is the packet's, and weighs what its bytes allow.
use Rattle.std.proofs.Common.{◌≡◌, ◌*◌, ◌≤◌, length, Some, refl, ap, sym, ◌∙◌, arith}
use Rattle.std.proofs.lemmas.Bool.{le-ltb}
use Rattle.cd_capture.specs.Laws.{record_size}
use Rattle.cd_ident.proofs.WeightBounds.{event_weights_are_bounded, event_weights_are_linear}
use Rattle.cd_ident.specs.Events.{EventParts, event_parts}
use Rattle.cd_ident.specs.declared.event_making.TheConstants.{GREATEST_WEIGHT}
use Rattle.cd_ident.specs.declared.event_rules.EventRules.{EventRules}
use Rattle.cd_packet.proofs.Payloads.{layer_within}
use Rattle.cd_packet.specs.Layers.{Datagram, datagram, layer_of}
use Rattle.cd_packet.specs.declared.packet.Packet.{Packet}
use Rattle.cd_engine.specs.Events.{event_found, event_of}

-- the event of a packet that holds this datagram
pub made : (rules : EventRules) (p : Packet) (d : Datagram) (e : EventParts) → layer_of rules.port p ≡ datagram d →
    e ≡ event_parts rules d → length d.payload ≤ 65535 → event_of rules p ≡ Some e
unfolding event_of
made rules p d e is parts fits =
    let found : event_found rules (datagram d) ≡ Some (event_parts rules d) = rw (le-ltb 65535 (length d.payload) fits) refl in
    ap (event_found rules) is ∙ found ∙ ap (λ x. Some x) (sym parts)

-- it weighs no more than that of a datagram
pub made_light : (rules : EventRules) (d : Datagram) (e : EventParts) → e ≡ event_parts rules d → length d.payload ≤ 65535 → e.weight ≤ GREATEST_WEIGHT
made_light rules d e parts fits =
    omega (arith, (event_weights_are_bounded rules d fits).greatest, ap (λ (x : EventParts). x.weight) parts)

-- and than its record allows
pub made_linear : (rules : EventRules) (p : Packet) (d : Datagram) (e : EventParts) → layer_of rules.port p ≡ datagram d → e ≡ event_parts rules d →
    16 * e.weight ≤ 829 * record_size p
made_linear rules p d e is parts =
    omega (arith, event_weights_are_linear rules d, layer_within rules.port p d is, ap (λ (x : EventParts). x.weight) parts)
