-- What is counted of the blocks of a file that is read.
use Rattle.std.specs.Prelude.{◌≡◌, ℕ, ◌+◌, ◌-◌, ◌<◌, ◌^◌, min, List, [], length}
use Rattle.cd_block.specs.declared.kept.KeptBlock.{KeptBlock}
use Rattle.cd_file.specs.KeptFile.{kept_file}
use Rattle.cd_file.specs.PartsInBytes.{item_count, malformed_count}
use Rattle.cd_inspection.specs.Inspecting.{Rendering, inspecting}
use Rattle.cd_inspection.specs.declared.counting.ReadCounts.{ReadCounts}

-- a count as 64 bits hold it
abbrev pub held_in_64 : ℕ → ℕ
held_in_64 n = min n (2 ^ 64 - 1)

-- nothing was counted
abbrev pub no_read_counts : ReadCounts
no_read_counts = record { blocks = 0; items = 0; malformed = 0; packets = 0; bare = 0; not_udp = 0; too_long = 0 }

-- the counts with one block more
abbrev pub counts_with_block : KeptBlock → ReadCounts → ReadCounts
counts_with_block kept c =
    record c {
      blocks = held_in_64 (c.blocks + 1);
      items = held_in_64 (c.items + length kept.items);
      malformed = held_in_64 (c.malformed + length kept.malformed);
    }

-- nothing is written of a block, and it is counted with its items and malformed messages
abbrev pub counting : Rendering ReadCounts
counting = record {
  begins = [];
  bytes_of = λ params kept. [];
  no_counts = no_read_counts;
  counts_with = λ params kept. counts_with_block kept;
}

-- the counts of these blocks
abbrev pub read_counts : List KeptBlock → ReadCounts
read_counts blocks = record {
  blocks = length blocks;
  items = item_count blocks;
  malformed = malformed_count blocks;
  packets = 0;
  bare = 0;
  not_udp = 0;
  too_long = 0;
}

-- what is counted of fewer than 2^64 bytes are the blocks of their file, and what is in them
abbrev pub CountsAreOfBlocks : Type 0
CountsAreOfBlocks = (bytes : List ℕ) → length bytes < 2 ^ 64 →
    (inspecting counting).counts bytes ≡ read_counts (kept_file bytes).blocks
