-- The events of a capture.
use Rattle.std.specs.Prelude.{◌≡◌, nat_lt, List, length, Option, Some, None, if◌then◌else◌, ⊤}
use Rattle.std.specs.List.{filter_map}
use Rattle.cd_hints.specs.declared.settings.Settings.{Settings}
use Rattle.cd_ident.specs.Events.{EventParts, event_parts}
use Rattle.cd_ident.specs.Keys.{parts_of}
use Rattle.cd_ident.specs.declared.event.Event.{Event}
use Rattle.cd_ident.specs.declared.event_rules.EventRules.{EventRules}
use Rattle.cd_packet.specs.Layers.{Found, datagram, skipped, layer_of}
use Rattle.cd_packet.specs.declared.packet.Packet.{Packet}
use Rattle.cd_engine.specs.declared.event_making.Held.{Held}
use Rattle.cd_engine.specs.declared.event_making.Held.TheVariants as held

-- what these settings judge an event by
abbrev pub rules_of : Settings → EventRules
rules_of s = record { port = s.port; opcodes = s.params.opcodes }

-- the event of what was found in a packet; a payload has at most 65,535 bytes, since its length has 16 bits (RFC 768)
abbrev pub event_found : EventRules → Found → Option EventParts
event_found rules (datagram d) = if nat_lt 65535 (length d.payload) then None else Some (event_parts rules d)
event_found rules (skipped why) = None

-- the event of a packet, where its layers hold a datagram
unfoldable pub event_of : EventRules → Packet → Option EventParts
event_of rules p = event_found rules (layer_of rules.port p)

-- the events of these packets, in their order
abbrev pub events_of : EventRules → List Packet → List EventParts
events_of rules packets = filter_map (event_of rules) packets

-- what the code finds in a packet is the event of the packet, or the reason why its layers hold none
abbrev pub IsHeldIn : Held → EventRules → Packet → Type 0
IsHeldIn (held.Event e) rules p = event_of rules p ≡ Some (parts_of e)
IsHeldIn (held.Skipped why) rules p = layer_of rules.port p ≡ skipped why

-- what holds of the event, where there is one
abbrev pub IfEvent : Held → (Event → Type 0) → Type 0
IfEvent (held.Event e) P = P e
IfEvent (held.Skipped why) P = ⊤
