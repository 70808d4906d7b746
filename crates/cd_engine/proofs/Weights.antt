-- The events of some packets weigh no more than their records allow, and those of a capture no more than its bytes.
use Rattle.std.proofs.Common.{◌≡◌, ℕ, ◌+◌, ◌*◌, ◌≤◌, List, [], ◌∷◌, length, Option, Some, None, refl, arith, inl, inr}
use Rattle.std.specs.List.{All, sum_by, filter_map}
use Rattle.std.specs.Prelude.{IfSome}
use Rattle.std.proofs.lemmas.Bool.{cases_lt, lt-ltb, le-ltb}
use Rattle.std.proofs.lemmas.List.Elements.{All-nil, All-cons}
use Rattle.std.proofs.lemmas.List.Sums.{sum_by-cons}
use Rattle.cd_hints.specs.declared.settings.Settings.{Settings}
use Rattle.cd_ident.proofs.WeightBounds.{event_weights_are_linear, event_weights_are_bounded}
use Rattle.cd_ident.specs.Events.{EventParts}
use Rattle.cd_ident.specs.declared.event_rules.EventRules.{EventRules}
use Rattle.cd_packet.proofs.Payloads.{layer_within}
use Rattle.cd_packet.specs.Layers.{Found, datagram, skipped, layer_of}
use Rattle.cd_packet.specs.declared.packet.Packet.{Packet}
use Rattle.cd_capture.proofs.Growing.{packets_within}
use Rattle.cd_capture.specs.Formats.{capture}
use Rattle.cd_capture.specs.Laws.{record_size}
use Rattle.cd_engine.specs.Events.{rules_of, event_found, event_of, events_of}
use Rattle.cd_record.specs.Laws.{IsLight}
use Rattle.cd_engine.specs.Behaving.{events_in}
use Rattle.cd_engine.specs.Laws.{EventsAreLinear, EventsAreLight}

-- what an event weighs, where there is one
abbrev pub weight_of : Option EventParts → ℕ
weight_of None = 0
weight_of (Some e) = e.weight

-- what was found in a packet weighs no more than its record allows
found_weight : (rules : EventRules) (p : Packet) (f : Found) → layer_of rules.port p ≡ f → 16 * weight_of (event_found rules f) ≤ 829 * record_size p
found_weight rules p (skipped reason) is = omega arith
found_weight rules p (datagram d) is =
    elim (cases_lt 65535 (length d.payload)) [
      | inl long ↦ rw (lt-ltb 65535 (length d.payload) long) (omega arith)
      | inr short ↦ rw (le-ltb 65535 (length d.payload) short)
          (omega (arith, event_weights_are_linear rules d, layer_within rules.port p d is))
    ]

-- the event of a packet
pub event_weight : (rules : EventRules) (p : Packet) → 16 * weight_of (event_of rules p) ≤ 829 * record_size p
unfolding event_of
event_weight rules p = found_weight rules p (layer_of rules.port p) refl

abbrev pub weight : EventParts → ℕ
weight e = e.weight

one_more : (f : Packet → Option EventParts) (p : Packet) (ps : List Packet) (o : Option EventParts) (es : List EventParts) (n m : ℕ) →
    16 * weight_of o ≤ 829 * n → 16 * sum_by weight es ≤ 829 * m → f p ≡ o → filter_map f ps ≡ es →
    16 * sum_by weight (filter_map f (p ∷ ps)) ≤ 829 * (n + m)
one_more f p ps None es n m first rest here more = rw (here, more) (omega (arith, first, rest))
one_more f p ps (Some e) es n m first rest here more = rw (here, more) (omega (arith, first, rest, sum_by-cons weight e es))

-- the events of some packets
pub events_weight : (rules : EventRules) (ps : List Packet) → 16 * sum_by weight (events_of rules ps) ≤ 829 * sum_by record_size ps
events_weight rules [] = omega arith
events_weight rules (p ∷ ps) =
    let k = one_more (event_of rules) p ps (event_of rules p) (events_of rules ps) (record_size p) (sum_by record_size ps)
    (event_weight rules p) (events_weight rules ps) refl refl in
    omega (arith, k, sum_by-cons record_size p ps)

-- those of a capture weigh no more than its bytes allow
pub events_are_linear : EventsAreLinear
events_are_linear rules bytes = omega (arith, events_weight rules (capture bytes).packets, packets_within bytes)

-- those of at most 2^48 bytes weigh less than 2^63
pub events_are_light : EventsAreLight
events_are_light rules bytes few = omega (arith, events_are_linear rules bytes, few)

-- what was found in a packet weighs no more than `GREATEST_WEIGHT`
found_light : (rules : EventRules) (f : Found) → IfSome (event_found rules f) IsLight
found_light rules (skipped reason) = tt
found_light rules (datagram d) =
    elim (cases_lt 65535 (length d.payload)) [
      | inl long ↦ rw (lt-ltb 65535 (length d.payload) long) tt
      | inr short ↦ rw (le-ltb 65535 (length d.payload) short) (event_weights_are_bounded rules d short).greatest
    ]

-- the event of a packet
pub packet_light : (rules : EventRules) (p : Packet) → IfSome (event_of rules p) IsLight
unfolding event_of
packet_light rules p = found_light rules (layer_of rules.port p)

light_more : (f : Packet → Option EventParts) (p : Packet) (ps : List Packet) (o : Option EventParts) → f p ≡ o → IfSome o IsLight →
    All IsLight (filter_map f ps) → All IsLight (filter_map f (p ∷ ps))
light_more f p ps None is light rest = rw is rest
light_more f p ps (Some e) is light rest = rw is (All-cons IsLight e (filter_map f ps) light rest)

-- the events of some packets
pub events_light : (rules : EventRules) (ps : List Packet) → All IsLight (events_of rules ps)
events_light rules [] = All-nil IsLight
events_light rules (p ∷ ps) = light_more (event_of rules) p ps (event_of rules p) refl (packet_light rules p) (events_light rules ps)

-- those that are compacted
pub compacted_light : (s : Settings) (bytes : List ℕ) → All IsLight (events_in s bytes)
compacted_light s bytes = events_light (rules_of s) (capture bytes).packets
