-- The time of an event is that of its packet, which lies before the end of time, and its size is that of a payload.
use Rattle.std.proofs.Common.{◌≡◌, ℕ, ◌<◌, length, Result, Ok, Err, if◌then◌else◌, refl, arith, inl, inr}
use Rattle.std.proofs.lemmas.Bool.{cases_Bool}
use Rattle.cd_message.specs.declared.message.Message as dns
use Rattle.cd_message.specs.declared.message.MsgWhy.{MsgWhy}
use Rattle.cd_message.specs.Messages.{message_of}
use Rattle.cd_ident.specs.Events.{EventParts, parts_of_reading, event_parts}
use Rattle.cd_ident.specs.Headers.{opcode_of, is_listed}
use Rattle.cd_ident.specs.declared.event_rules.EventRules.{EventRules}
use Rattle.cd_packet.specs.Time.{end_of_time}
use Rattle.cd_packet.proofs.Holding.{layer_read}
use Rattle.cd_packet.specs.Layers.{Datagram, datagram, layer_of}
use Rattle.cd_packet.specs.declared.packet.Packet.{Packet}
use Rattle.cd_size.specs.Laws.{EventsAreTimed}

-- a datagram has the time of its packet
layer_timed : (port : ℕ) (p : Packet) (d : Datagram) → layer_of port p ≡ datagram d → d.time < end_of_time
layer_timed port p d is = p.timely d.time (layer_read port p d is).time

-- an event has the time and the size of its payload
record HasPayload (d : Datagram) (e : EventParts) : Type 0 where
  time : e.time ≡ d.time
  size : e.size ≡ length d.payload

reading_has_payload : (rules : EventRules) (d : Datagram) (r : Result (dns.Message × ℕ) MsgWhy) → HasPayload d (parts_of_reading rules d r)
reading_has_payload rules d (Err why) = record { time = refl; size = refl }
reading_has_payload rules d (Ok x) =
    elim (cases_Bool (is_listed rules.opcodes (opcode_of (x.0).bits))) [
      | inl listed ↦ rw listed (record { time = refl; size = refl })
      | inr other ↦ rw other (record { time = refl; size = refl })
    ]

event_has_payload : (rules : EventRules) (d : Datagram) → HasPayload d (event_parts rules d)
unfolding event_parts
event_has_payload rules d = reading_has_payload rules d (message_of d.payload)

-- the law
pub events_timed : EventsAreTimed
events_timed rules p d is few =
    let has : HasPayload d (event_parts rules d) = event_has_payload rules d in
    let early : d.time < end_of_time = layer_timed rules.port p d is in
    record { time = omega (arith, has.time, early); size = omega (arith, has.size, few) }
