-- What a kept block is rebuilt to (RFC 8618 7.3.2): packets, and what was left out.
use Rattle.std.specs.Prelude.{ℕ, ◌+◌, ◌<◌, ◌≤◌, length, Bool, is_none, List, ◌++◌, Option}
use Rattle.std.specs.List.{count_by, flat_map, filter_map}
use Rattle.std.specs.Option.{option_map}
use Rattle.cd_block.specs.declared.kept.KeptBlock.{KeptBlock}
use Rattle.cd_packet.specs.Time.{end_of_time}
use Rattle.cd_rebuild.specs.Datagrams.{item_sendings, malformed_sendings}
use Rattle.cd_rebuild.specs.Flags.{is_bare, is_bare_malformed, is_not_udp, is_not_udp_malformed}
use Rattle.cd_rebuild.specs.Order.{by_time}
use Rattle.cd_rebuild.specs.declared.rebuilt_block.Raw.{Raw}
use Rattle.cd_rebuild.specs.declared.rebuilt_block.RebuiltBlock.{RebuiltBlock}
use Rattle.cd_rebuild.specs.declared.sending.Sending.{Sending}

-- what is sent of a block: the items in their order, each with its query before its response, and then the malformed
-- messages
abbrev pub block_sendings : ℕ → KeptBlock → List Sending
block_sendings ticks b =
    flat_map (item_sendings ticks b.earliest) b.items ++ flat_map (malformed_sendings ticks b.earliest) b.malformed

-- what is sent has no packet: its message or its payload is too long
abbrev pub is_too_long : Sending → Bool
is_too_long s = is_none s.packet

-- the packet of what is sent, where it has one
abbrev pub packet_of : Sending → Option Raw
packet_of s = option_map (λ bytes. record { time = s.time; bytes = bytes }) s.packet

-- the packets of a block, by time, then by the number of the item, then the query before the response
abbrev pub block_packets : ℕ → KeptBlock → List Raw
block_packets ticks b = by_time (filter_map packet_of (block_sendings ticks b))

-- how many items and malformed messages are bare
abbrev pub bare_count : KeptBlock → ℕ
bare_count b = count_by is_bare b.items + count_by is_bare_malformed b.malformed

-- how many have another transport than UDP
abbrev pub not_udp_count : KeptBlock → ℕ
not_udp_count b = count_by is_not_udp b.items + count_by is_not_udp_malformed b.malformed

-- how many messages are too long
abbrev pub too_long_count : ℕ → KeptBlock → ℕ
too_long_count ticks b = count_by is_too_long (block_sendings ticks b)

-- What a block is rebuilt to.
abbrev pub rebuilt : ℕ → KeptBlock → RebuiltBlock
rebuilt ticks b = record {
  packets = block_packets ticks b;
  bare = bare_count b;
  not_udp = not_udp_count b;
  too_long = too_long_count ticks b;
}

-- a packet fits a record of a capture: its time is within the 2^32 seconds since 1970, and its header of IP, its header
-- of UDP and its payload have at most 40, 8 and 65,527 bytes (RFC 8200 3, RFC 768)
pub record FitsCapture (p : Raw) : Type 0 where
  pub timely : p.time < end_of_time
  pub short : length p.bytes ≤ 65575
