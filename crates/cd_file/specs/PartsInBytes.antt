-- How many parts a file has, and that the block parameters of each of its blocks are there.
use Rattle.std.specs.Prelude.{ℕ, ◌+◌, ◌<◌, ◌≤◌, List, length, Option, Some, None}
use Rattle.std.specs.List.{AllByRecursion, sum_by}
use Rattle.cd_block.specs.declared.kept.KeptBlock.{KeptBlock}
use Rattle.cd_block.specs.declared.params.Params.{Params}
use Rattle.cd_file.specs.KeptFile.{kept_file}

-- how many items some blocks have
abbrev pub item_count : List KeptBlock → ℕ
item_count blocks = sum_by (λ (b : KeptBlock). length b.items) blocks

-- how many malformed messages some blocks have
abbrev pub malformed_count : List KeptBlock → ℕ
malformed_count blocks = sum_by (λ (b : KeptBlock). length b.malformed) blocks

-- each block, item and malformed message of a file has a byte of its own
abbrev pub PartsHaveBytes : Type 0
PartsHaveBytes = (bytes : List ℕ) →
    length (kept_file bytes).blocks + (item_count (kept_file bytes).blocks + malformed_count (kept_file bytes).blocks)
    ≤ length bytes

-- the block parameters of a block are among these
abbrev pub HasParams : Option (List Params) → KeptBlock → Type 0
HasParams None block = ⊥
HasParams (Some entries) block = block.params < length entries

-- the block parameters of each block of a file are there
abbrev pub BlocksHaveParams : Type 0
BlocksHaveParams = (bytes : List ℕ) → AllByRecursion (HasParams (kept_file bytes).params) (kept_file bytes).blocks
