-- What is rebuilt of the blocks of a C-DNS file: a capture of IP packets (RFC 8618 7.3; the pcap draft, 4 and 5).
use Rattle.std.specs.Prelude.{◌≡◌, ℕ, ◌+◌, ◌<◌, ◌^◌, List, [], ◌++◌, length, Option}
use Rattle.std.specs.List.{flat_map, sum_by}
use Rattle.std.specs.Option.{option_map_or}
use Rattle.cd_block.specs.declared.kept.KeptBlock.{KeptBlock}
use Rattle.cd_block.specs.declared.params.Params.{Params}
use Rattle.cd_file.specs.KeptFile.{kept_file}
use Rattle.cd_file.specs.PartsInBytes.{item_count, malformed_count}
use Rattle.cd_pcap.specs.Spelled.{spelling_of}
use Rattle.cd_pcap.specs.Writing.{written_form, written_header, written_record}
use Rattle.cd_rebuild.specs.Rebuilding.{block_packets, bare_count, not_udp_count, too_long_count}
use Rattle.cd_rebuild.specs.declared.rebuilt_block.Raw.{Raw}
use Rattle.cd_inspection.specs.Inspecting.{Rendering, params_at, inspecting}
use Rattle.cd_inspection.specs.ReadCounting.{held_in_64, no_read_counts, counts_with_block}
use Rattle.cd_inspection.specs.declared.counting.ReadCounts.{ReadCounts}

-- the record of a packet
abbrev pub packet_record : Raw → List ℕ
packet_record p = spelling_of written_form (written_record p.time p.bytes)

-- the records of the packets of a block with these parameters, in their order
abbrev pub block_records : Params → KeptBlock → List ℕ
block_records params kept = flat_map packet_record (block_packets params.ticks kept)

-- the counts with a block of these parameters more, and what is rebuilt of it
abbrev pub counts_with_rebuilt : Params → KeptBlock → ReadCounts → ReadCounts
counts_with_rebuilt params kept c =
    let counted = counts_with_block kept c in
    record counted {
      packets = held_in_64 (c.packets + length (block_packets params.ticks kept));
      bare = held_in_64 (c.bare + bare_count kept);
      not_udp = held_in_64 (c.not_udp + not_udp_count kept);
      too_long = held_in_64 (c.too_long + too_long_count params.ticks kept);
    }

-- a capture is written of the packets of each block, and they are counted
abbrev pub rebuilding : Rendering ReadCounts
rebuilding = record {
  begins = written_header;
  bytes_of = block_records;
  no_counts = no_read_counts;
  counts_with = counts_with_rebuilt;
}

-- what a block has by the block parameters that it names, and by default where they are not there
abbrev pub by_params : {A : Type 0} → Option (List Params) → A → (Params → KeptBlock → A) → KeptBlock → A
by_params entries default of kept = option_map_or (λ p. of p kept) (params_at entries kept.params) default

-- how many packets are rebuilt of a block
abbrev pub packet_count : Params → KeptBlock → ℕ
packet_count params kept = length (block_packets params.ticks kept)

-- The capture of some blocks, of a file with these block parameters: its header, and of each block the records of its
-- packets.
abbrev pub capture_of : Option (List Params) → List KeptBlock → List ℕ
capture_of entries blocks = written_header ++ flat_map (by_params entries [] block_records) blocks

-- what is counted of these blocks, and of what is rebuilt of them
abbrev pub rebuilt_counts : Option (List Params) → List KeptBlock → ReadCounts
rebuilt_counts entries blocks = record {
  blocks = length blocks;
  items = item_count blocks;
  malformed = malformed_count blocks;
  packets = sum_by (by_params entries 0 packet_count) blocks;
  bare = sum_by (by_params entries 0 (λ params. bare_count)) blocks;
  not_udp = sum_by (by_params entries 0 (λ params. not_udp_count)) blocks;
  too_long = sum_by (by_params entries 0 (λ params. too_long_count params.ticks)) blocks;
}

-- the capture that is rebuilt of bytes: that of the blocks which they hold, up to the first refusal
abbrev pub rebuilt_capture : List ℕ → List ℕ
rebuilt_capture bytes = capture_of (kept_file bytes).params (kept_file bytes).blocks

-- these are the counts of the blocks that the bytes hold, up to the first refusal, and of what is rebuilt of them
abbrev pub AreRebuiltCountsOf : List ℕ → ReadCounts → Type 0
AreRebuiltCountsOf bytes counts = counts ≡ rebuilt_counts (kept_file bytes).params (kept_file bytes).blocks

-- what an inspection that rebuilds writes of bytes is their capture
abbrev pub CapturesAreRebuilt : Type 0
CapturesAreRebuilt = (bytes : List ℕ) → (inspecting rebuilding).whole bytes ≡ rebuilt_capture bytes

-- what it counts of fewer than 2^62 bytes are their counts
abbrev pub RebuiltCountsAreTold : Type 0
RebuiltCountsAreTold = (bytes : List ℕ) → length bytes < 2 ^ 62 → AreRebuiltCountsOf bytes ((inspecting rebuilding).counts bytes)
