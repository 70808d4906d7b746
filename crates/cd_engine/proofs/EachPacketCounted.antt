-- Each packet of a capture of bytes is counted once.
use Rattle.std.proofs.Common.{◌≡◌, ℕ, ◌+◌, ◌-◌, ◌<◌, ◌≤◌, Bool, false, nat_eq, List, [], ◌∷◌, length, drop, Option, Some, None, refl, ap, sym, ◌∙◌, arith}
use Rattle.std.specs.List.{All, sum, count_by}
use Rattle.std.specs.Option.{option_map_or}
use Rattle.std.proofs.lemmas.Bool.{le-ltb}
use Rattle.std.proofs.lemmas.List.{length-take}
use Rattle.std.proofs.lemmas.List.Elements.{All-head, All-tail}
use Rattle.std.proofs.lemmas.List.Sums.{sum_by-cons}
use Rattle.cd_bytes.specs.Numbers.{be16}
use Rattle.cd_capture.specs.Formats.{capture}
use Rattle.cd_ident.specs.Events.{EventParts, event_parts}
use Rattle.cd_ident.specs.declared.event.Kind.{Kind}
use Rattle.cd_ident.specs.declared.event.Kind.TheVariants as kind
use Rattle.cd_ident.specs.declared.event_rules.EventRules.{EventRules}
use Rattle.cd_message.specs.MessageLaws.{AreBytes}
use Rattle.cd_packet.proofs.Holding.{IsReadFrom, layer_read}
use Rattle.cd_packet.specs.Layers.{Found, Datagram, datagram, skipped, layer_of}
use Rattle.cd_packet.specs.declared.datagram.Reason.{Reason}
use Rattle.cd_packet.specs.declared.datagram.Reason.TheVariants as reason
use Rattle.cd_packet.specs.declared.packet.Packet.{Packet}
use Rattle.cd_engine.specs.Counting.{kind_index, is_of_kind, is_for_reason, is_skipped_for, packet_counts}
use Rattle.cd_engine.specs.Events.{rules_of, event_found, event_of}
use Rattle.cd_engine.specs.Filing.{one_if}
use Rattle.cd_engine.specs.Laws.{EachPacketIsCounted}
use Rattle.cd_engine.specs.declared.counts.Counts.{Counts}
use Rattle.cd_engine.proofs.PacketBytes.{packets_have_bytes}
use Rattle.cd_engine.proofs.PcapBytes.{HasBytes}

-- whether an event, where there is one, is of the kind with this number
abbrev is_kind : ℕ → Option EventParts → Bool
is_kind k o = option_map_or (λ (e : EventParts). nat_eq (kind_index e.kind) k) o false

-- in how many of the counts a packet stands that has this event and holds this
abbrev times : Option EventParts → Found → ℕ
times o f =
    one_if (is_kind 0 o) + one_if (is_kind 1 o) + one_if (is_kind 2 o) + one_if (is_kind 3 o)
    + (one_if (is_for_reason 0 f) + one_if (is_for_reason 1 f) + one_if (is_for_reason 2 f) + one_if (is_for_reason 3 f)
    + one_if (is_for_reason 4 f) + one_if (is_for_reason 5 f) + one_if (is_for_reason 6 f) + one_if (is_for_reason 7 f)
    + one_if (is_for_reason 8 f))

-- a packet that is skipped stands in one
skipped_once : (why : Reason) → times None (skipped why) ≡ 1
skipped_once reason.Link = refl
skipped_once reason.Length = refl
skipped_once reason.NotIp = refl
skipped_once reason.Fragment = refl
skipped_once reason.NotUdp = refl
skipped_once reason.Port = refl
skipped_once reason.Cut = refl
skipped_once reason.Time = refl
skipped_once reason.NoTime = refl

-- so does one with an event
event_once : (e : EventParts) (d : Datagram) (k : Kind) → e.kind ≡ k → times (Some e) (datagram d) ≡ 1
event_once e d kind.Query is = rw is refl
event_once e d kind.Response is = rw is refl
event_once e d kind.Malformed is = rw is refl
event_once e d kind.Discarded is = rw is refl

-- a number of two bytes has 16 bits
word_short : (at : ℕ) (xs : List ℕ) → AreBytes xs → be16 at xs < 0x1_0000
unfolding be16
word_short at xs bytes = omega (arith, bytes at, bytes (at + 1))

-- the payload of a datagram in a packet of bytes has at most 65,535 bytes, since its length has 16 bits
read_short : (p : Packet) (d : Datagram) → HasBytes p → IsReadFrom p d → length d.payload ≤ 65535
read_short p d bytes r =
    omega (
      arith,
      ap length r.payload,
      length-take (be16 (r.at + 4) p.bytes - 8) (drop (r.at + 8) p.bytes),
      word_short (r.at + 4) p.bytes bytes,
    )

-- what is found in a packet of bytes stands in one
found_once : (rules : EventRules) (p : Packet) → HasBytes p → (f : Found) → layer_of rules.port p ≡ f → times (event_found rules f) f ≡ 1
found_once rules p bytes (skipped why) is = skipped_once why
found_once rules p bytes (datagram d) is =
    let short : length d.payload ≤ 65535 = read_short p d bytes (layer_read rules.port p d is) in
    let found : event_found rules (datagram d) ≡ Some (event_parts rules d) = rw (le-ltb 65535 (length d.payload) short) refl in
    ap (λ o. times o (datagram d)) found ∙ event_once (event_parts rules d) d (event_parts rules d).kind refl

packet_once : (rules : EventRules) (p : Packet) → HasBytes p → times (event_of rules p) (layer_of rules.port p) ≡ 1
unfolding event_of
packet_once rules p bytes = found_once rules p bytes (layer_of rules.port p) refl

-- how many of some packets are of a kind, or skipped for a reason
of_kind : EventRules → List Packet → ℕ → ℕ
of_kind rules ps k = count_by (is_of_kind rules k) ps

for_reason : EventRules → List Packet → ℕ → ℕ
for_reason rules ps k = count_by (is_skipped_for rules k) ps

-- all that is counted of some packets
counted : EventRules → List Packet → ℕ
counted rules ps =
    of_kind rules ps 0 + of_kind rules ps 1 + of_kind rules ps 2 + of_kind rules ps 3
    + (for_reason rules ps 0 + for_reason rules ps 1 + for_reason rules ps 2 + for_reason rules ps 3 + for_reason rules ps 4
    + for_reason rules ps 5 + for_reason rules ps 6 + for_reason rules ps 7 + for_reason rules ps 8)

kind_more : (rules : EventRules) (p : Packet) (ps : List Packet) (k : ℕ) →
    of_kind rules (p ∷ ps) k ≡ one_if (is_of_kind rules k p) + of_kind rules ps k
unfolding of_kind
kind_more rules p ps k = sum_by-cons (λ x. one_if (is_of_kind rules k x)) p ps

reason_more : (rules : EventRules) (p : Packet) (ps : List Packet) (k : ℕ) →
    for_reason rules (p ∷ ps) k ≡ one_if (is_skipped_for rules k p) + for_reason rules ps k
unfolding for_reason
reason_more rules p ps k = sum_by-cons (λ x. one_if (is_skipped_for rules k x)) p ps

counted_more : (rules : EventRules) (p : Packet) (ps : List Packet) →
    counted rules (p ∷ ps) ≡ times (event_of rules p) (layer_of rules.port p) + counted rules ps
unfolding counted
counted_more rules p ps =
    omega (
      arith,
      kind_more rules p ps 0,
      kind_more rules p ps 1,
      kind_more rules p ps 2,
      kind_more rules p ps 3,
      reason_more rules p ps 0,
      reason_more rules p ps 1,
      reason_more rules p ps 2,
      reason_more rules p ps 3,
      reason_more rules p ps 4,
      reason_more rules p ps 5,
      reason_more rules p ps 6,
      reason_more rules p ps 7,
      reason_more rules p ps 8,
    )

all_counted : (rules : EventRules) (ps : List Packet) → All HasBytes ps → length ps ≡ counted rules ps
unfolding counted of_kind for_reason
all_counted rules [] all = refl
all_counted rules (p ∷ ps) all =
    omega (
      arith,
      counted_more rules p ps,
      packet_once rules p (All-head HasBytes p ps all),
      all_counted rules ps (All-tail HasBytes p ps all),
    )

-- the counts of some packets are all that is counted of them
sum_counted : (rules : EventRules) (ps : List Packet) →
    (packet_counts rules ps).queries + (packet_counts rules ps).responses + (packet_counts rules ps).malformed
    + (packet_counts rules ps).discarded + sum (packet_counts rules ps).skipped
    ≡ counted rules ps
unfolding counted of_kind for_reason
sum_counted rules ps = omega arith

pub each_counted : EachPacketIsCounted
each_counted s bytes counts all is =
    let ps : List Packet = (capture bytes).packets in
    ap (λ (c : Counts). c.packets) is.same
    ∙ all_counted (rules_of s) ps (packets_have_bytes bytes all)
    ∙ sym (sum_counted (rules_of s) ps)
    ∙ sym (ap (λ (c : Counts). c.queries + c.responses + c.malformed + c.discarded + sum c.skipped) is.same)
