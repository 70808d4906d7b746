-- No event of a packet is lighter than the least weight.
use Rattle.std.proofs.Common.{◌≡◌, ℕ, zero, suc, ◌≤◌, List, [], ◌∷◌, length, Option, Some, None, Result, Ok, Err, refl, arith, inl, inr}
use Rattle.std.specs.List.{filter_map}
use Rattle.std.specs.Prelude.{IfSome}
use Rattle.std.proofs.lemmas.Bool.{cases_Bool, cases_lt, lt-ltb, le-ltb}
use Rattle.cd_message.specs.Messages.{message_of}
use Rattle.cd_message.specs.declared.message.Message.{Message}
use Rattle.cd_message.specs.declared.message.MsgWhy.{MsgWhy}
use Rattle.cd_ident.specs.Events.{EventParts, event_parts, parts_of_reading}
use Rattle.cd_ident.specs.Headers.{is_listed, opcode_of}
use Rattle.cd_ident.specs.declared.event_rules.EventRules.{EventRules}
use Rattle.cd_packet.specs.Layers.{Datagram, Found, datagram, skipped, layer_of}
use Rattle.cd_packet.specs.declared.packet.Packet.{Packet}
use Rattle.cd_pairing.specs.Settling.{AreHeavy}
use Rattle.cd_engine.specs.Events.{event_found, event_of, events_of}
use Rattle.cd_engine.specs.Records.{views_of}

-- what a payload spells, or breaks
reading_heavy : (rules : EventRules) (d : Datagram) (r : Result (Message × ℕ) MsgWhy) → 256 ≤ (parts_of_reading rules d r).weight
reading_heavy rules d (Err why) = omega arith
reading_heavy rules d (Ok x) =
    elim (cases_Bool (is_listed rules.opcodes (opcode_of (x.0).bits))) [ inl listed ↦ rw listed (omega arith) | inr other ↦ rw other (omega arith) ]

-- the event that is made of it
event_heavy : (rules : EventRules) (d : Datagram) → 256 ≤ (event_parts rules d).weight
unfolding event_parts
event_heavy rules d = reading_heavy rules d (message_of d.payload)

-- what was found in a packet
found_heavy : (rules : EventRules) (f : Found) → IfSome (event_found rules f) (λ e. 256 ≤ e.weight)
found_heavy rules (skipped reason) = tt
found_heavy rules (datagram d) =
    elim (cases_lt 65535 (length d.payload)) [
      | inl long ↦ rw (lt-ltb 65535 (length d.payload) long) tt
      | inr short ↦ rw (le-ltb 65535 (length d.payload) short) (event_heavy rules d)
    ]

-- the event of a packet, where it has one
pub packet_heavy : (rules : EventRules) (p : Packet) → IfSome (event_of rules p) (λ e. 256 ≤ e.weight)
unfolding event_of
packet_heavy rules p = found_heavy rules (layer_of rules.port p)

-- no event of these is lighter than the least weight
abbrev pub AreHeavyParts : List EventParts → Type 0
AreHeavyParts [] = Unit {0}
AreHeavyParts (e ∷ es) = (256 ≤ e.weight) × AreHeavyParts es

heavy_more : (f : Packet → Option EventParts) (p : Packet) (ps : List Packet) (o : Option EventParts) → f p ≡ o → IfSome o (λ e. 256 ≤ e.weight) →
    AreHeavyParts (filter_map f ps) → AreHeavyParts (filter_map f (p ∷ ps))
heavy_more f p ps None is h rest = rw is rest
heavy_more f p ps (Some e) is h rest = rw is (h, rest)

-- the events of some packets
pub events_heavy : (rules : EventRules) (ps : List Packet) → AreHeavyParts (events_of rules ps)
events_heavy rules [] = tt
events_heavy rules (p ∷ ps) = heavy_more (event_of rules) p ps (event_of rules p) refl (packet_heavy rules p) (events_heavy rules ps)

-- what they show to the pairing
pub views_heavy : (es : List EventParts) → AreHeavyParts es → AreHeavy (views_of es)
views_heavy [] h i lt = absurd (omega arith)
views_heavy (e ∷ es) h zero lt = h.0
views_heavy (e ∷ es) h (suc i) lt = views_heavy es h.1 i (omega arith)
