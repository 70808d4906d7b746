-- For which histories a compactor stands.
use Rattle.std.specs.Prelude.{◌≡◌, ℕ, ◌≤◌, ◌^◌, List}
use Rattle.std.specs.List.{sum_by}
use Rattle.cd_capture.specs.Formats.{capture}
use Rattle.cd_capture.specs.Laws.{record_size}
use Rattle.cd_capture.specs.Reading.{Kept}
use Rattle.cd_capture.specs.Reading as reader
use Rattle.cd_ident.specs.declared.event_rules.EventRules.{EventRules}
use Rattle.cd_packet.specs.declared.packet.Packet.{Packet}
use Rattle.cd_engine.specs.Blocks.{BlocksSeen, BlocksStand}
use Rattle.cd_engine.specs.Counting.{packet_counts, held_packet_counts}
use Rattle.cd_engine.specs.Events.{rules_of, events_of}
use Rattle.cd_engine.specs.declared.counts.PacketCounts.{PacketCounts}

-- what a compactor shows: the reader of its capture, what is counted of the packets, and its blocks
pub record CompactorSeen : Type 0 where
  pub reader : Kept
  pub packets : PacketCounts
  pub blocks : BlocksSeen

-- These packets are counted, and the events of those that have one are compacted.
pub record HasCompacted (rules : EventRules) (c : CompactorSeen) (given : List Packet) (cleared : List ℕ) : Type 0 where
  pub packets : c.packets ≡ held_packet_counts (packet_counts rules given)
  pub blocks : BlocksStand c.blocks (events_of rules given) cleared

-- The packets that were given of the bytes fed are compacted.
pub record ReadsOn (rules : EventRules) (c : CompactorSeen) (fed cleared : List ℕ) : Type 0 where
  pub given : List Packet
  pub reads : reader.StandsFor c.reader fed given
  -- They have room in the bytes that are passed, and take at most as many as may be fed.
  pub room : sum_by record_size given ≤ c.reader.passed
  pub small : sum_by record_size given ≤ 2 ^ 48
  pub compacts : HasCompacted rules c given cleared

-- The compactor was fed these bytes, and this output was cleared. All packets of these bytes are compacted.
pub record CompactorStands (c : CompactorSeen) (fed cleared : List ℕ) : Type 0 where
  pub on : ReadsOn (rules_of c.blocks.filing.settings) c fed cleared
  pub all : (capture fed).packets ≡ on.given
