-- What is counted of a capture.
use Rattle.std.specs.Prelude.{◌≡◌, ℕ, ◌+◌, ◌^◌, ◌-◌, min, Bool, true, false, nat_eq, List, [], ◌∷◌, length, map, get_or, set}
use Rattle.std.specs.List.{sum_by, count_by, range_with_len}
use Rattle.std.specs.Option.{option_map_or}
use Rattle.cd_hints.specs.Lists.{dropped}
use Rattle.cd_hints.specs.Records.{RecordParts, pair, unmatched_query, unmatched_response, malformed, discarded, is_item}
use Rattle.cd_hints.specs.declared.settings.Settings.{Settings}
use Rattle.cd_ident.specs.Events.{EventParts}
use Rattle.cd_ident.specs.declared.event.Kind.{Kind}
use Rattle.cd_ident.specs.declared.event.Kind.TheVariants as kind
use Rattle.cd_ident.specs.declared.event_rules.EventRules.{EventRules}
use Rattle.cd_packet.specs.Layers.{Found, datagram, skipped, layer_of}
use Rattle.cd_packet.specs.declared.capture.EndState.{EndState}
use Rattle.cd_packet.specs.declared.capture.EndState.TheVariants.{Whole, Cut, Bad}
use Rattle.cd_packet.specs.declared.datagram.Reason.{Reason}
use Rattle.cd_packet.specs.declared.datagram.Reason.TheVariants as reason
use Rattle.cd_packet.specs.declared.packet.Packet.{Packet}
use Rattle.cd_pairing.specs.Records.{records}
use Rattle.cd_capture.specs.Formats.{capture}
use Rattle.cd_engine.specs.Compactions.{Compaction}
use Rattle.cd_engine.specs.Events.{rules_of, event_of}
use Rattle.cd_engine.specs.Records.{records_at}
use Rattle.cd_engine.specs.Refusals.{compacted_events}
use Rattle.cd_engine.specs.declared.counts.Counts.{Counts}
use Rattle.cd_engine.specs.declared.counts.PacketCounts.{PacketCounts}
use Rattle.cd_engine.specs.declared.counts.RecordCounts.{RecordCounts}

-- the number of a kind, in the order of the report
abbrev pub kind_index : Kind → ℕ
kind_index kind.Query = 0
kind_index kind.Response = 1
kind_index kind.Malformed = 2
kind_index kind.Discarded = 3

-- whether the event of a packet is of the kind with this number
abbrev pub is_of_kind : EventRules → ℕ → Packet → Bool
is_of_kind rules k p = option_map_or (λ (e : EventParts). nat_eq (kind_index e.kind) k) (event_of rules p) false

-- the number of a reason, in the order of the report
abbrev pub reason_index : Reason → ℕ
reason_index reason.Link = 0
reason_index reason.Length = 1
reason_index reason.NotIp = 2
reason_index reason.Fragment = 3
reason_index reason.NotUdp = 4
reason_index reason.Port = 5
reason_index reason.Cut = 6
reason_index reason.Time = 7
reason_index reason.NoTime = 8

-- whether what was found in a packet is skipped for the reason with this number
abbrev pub is_for_reason : ℕ → Found → Bool
is_for_reason k (datagram d) = false
is_for_reason k (skipped why) = nat_eq (reason_index why) k

-- whether a packet is skipped for the reason with this number
abbrev pub is_skipped_for : EventRules → ℕ → Packet → Bool
is_skipped_for rules k p = is_for_reason k (layer_of rules.port p)

-- what is counted of these packets
abbrev pub packet_counts : EventRules → List Packet → PacketCounts
packet_counts rules ps = record {
  packets = length ps;
  queries = count_by (is_of_kind rules 0) ps;
  responses = count_by (is_of_kind rules 1) ps;
  malformed = count_by (is_of_kind rules 2) ps;
  discarded = count_by (is_of_kind rules 3) ps;
  skipped = map (λ k. count_by (is_skipped_for rules k) ps) (range_with_len 0 9);
}

-- whether a record is a pair
abbrev pub is_pair : RecordParts → Bool
is_pair (pair query response) = true
is_pair (unmatched_query e) = false
is_pair (unmatched_response e) = false
is_pair (malformed e) = false
is_pair (discarded e) = false

-- what is counted of these records, for these listed types
abbrev pub record_counts : List ℕ → List RecordParts → RecordCounts
record_counts types rs = record {
  items = count_by is_item rs;
  pairs = count_by is_pair rs;
  dropped = sum_by (dropped types) rs;
}

-- the bytes end within a header, a record or a block
abbrev pub is_cut : EndState → Bool
is_cut Whole = false
is_cut Cut = true
is_cut (Bad b) = false

-- what is counted of packets and of records, in so many blocks
abbrev pub counts_of : PacketCounts → RecordCounts → ℕ → Bool → Counts
counts_of p r blocks cut = record {
  packets = p.packets;
  queries = p.queries;
  responses = p.responses;
  malformed = p.malformed;
  discarded = p.discarded;
  skipped = p.skipped;
  dropped = r.dropped;
  blocks = blocks;
  items = r.items;
  pairs = r.pairs;
  cut = cut;
}

-- These are the counts of the capture in these bytes. Each packet is counted by the kind of its event, or by the reason
-- for which it has none.
pub record AreCountsOf (s : Settings) (bytes : List ℕ) (counts : Counts) : Type 0 where
  pub compaction : Compaction s (compacted_events (rules_of s) bytes)
  pub same : counts ≡ counts_of (packet_counts (rules_of s) (capture bytes).packets)
      (record_counts s.params.rr_types
      (records_at (compacted_events (rules_of s) bytes) (records compaction.partners)))
      (length compaction.runs) (is_cut (capture bytes).end)

-- all counts are 0
abbrev pub no_packet_counts : PacketCounts
no_packet_counts = record {
  packets = 0;
  queries = 0;
  responses = 0;
  malformed = 0;
  discarded = 0;
  skipped = 0 ∷ 0 ∷ 0 ∷ 0 ∷ 0 ∷ 0 ∷ 0 ∷ 0 ∷ 0 ∷ [];
}

-- all counts are 0
abbrev pub no_record_counts : RecordCounts
no_record_counts = record { items = 0; pairs = 0; dropped = 0 }

-- all counts are 0, and nothing is cut off
abbrev pub no_counts : Counts
no_counts = counts_of no_packet_counts no_record_counts 0 false

-- a count as 64 bits hold it
abbrev pub held_in_64 : ℕ → ℕ
held_in_64 n = min n (2 ^ 64 - 1)

-- counts as 64 bits hold them
abbrev pub held_packet_counts : PacketCounts → PacketCounts
held_packet_counts p = record {
  packets = held_in_64 p.packets;
  queries = held_in_64 p.queries;
  responses = held_in_64 p.responses;
  malformed = held_in_64 p.malformed;
  discarded = held_in_64 p.discarded;
  skipped = map held_in_64 p.skipped;
}

-- counts as 64 bits hold them
abbrev pub held_record_counts : RecordCounts → RecordCounts
held_record_counts r = record {
  items = held_in_64 r.items;
  pairs = held_in_64 r.pairs;
  dropped = held_in_64 r.dropped;
}

-- the counts with one packet more, which holds an event of this kind
abbrev pub packet_counts_with : PacketCounts → Kind → PacketCounts
packet_counts_with c kind.Query =
    record c { packets = held_in_64 (c.packets + 1); queries = held_in_64 (c.queries + 1) }
packet_counts_with c kind.Response =
    record c { packets = held_in_64 (c.packets + 1); responses = held_in_64 (c.responses + 1) }
packet_counts_with c kind.Malformed =
    record c { packets = held_in_64 (c.packets + 1); malformed = held_in_64 (c.malformed + 1) }
packet_counts_with c kind.Discarded =
    record c { packets = held_in_64 (c.packets + 1); discarded = held_in_64 (c.discarded + 1) }

-- the counts with one packet more, which is skipped for this reason
abbrev pub packet_counts_without : PacketCounts → Reason → PacketCounts
packet_counts_without c why = record c {
  packets = held_in_64 (c.packets + 1);
  skipped = set c.skipped (reason_index why) (held_in_64 (get_or c.skipped (reason_index why) 0 + 1));
}
