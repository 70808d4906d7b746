-- What a file holds as its bytes go on.
use Rattle.std.specs.Prelude.{◌≡◌, ℕ, List, [], ◌++◌, Some, None, refl}
use Rattle.cd_cbor.specs.Readings.{byte_at}
use Rattle.cd_block.specs.declared.block.Block.{Block}
use Rattle.cd_block.specs.declared.params.Params.{Params}
use Rattle.cd_file.specs.declared.refusal.FileWhy.{FileWhy}
use Rattle.cd_file.specs.ItemHeads.{begun_item}
use Rattle.cd_file.specs.ReadFile.{FileRead, Open, Refused, headless, outer_front, read_file}

-- The block parameters stay, the blocks stay and others may follow; after a refusal nothing does. Blocks come after the head.
pub record Grows (now later : FileRead) : Type 0 where
  pub rest : List Block
  pub blocks : later.blocks ≡ now.blocks ++ rest
  pub params : (entries : List Params) → now.params ≡ Some entries → later.params ≡ Some entries
  pub headless : now.params ≡ None → now.blocks ≡ []
  pub refused : (why : FileWhy) → now.end ≡ Refused why → later ≡ now

-- so it is with any bytes
abbrev pub FilesGrow : Type 0
FilesGrow = (bytes more : List ℕ) → Grows (read_file bytes) (read_file (bytes ++ more))

-- no bytes are an open file without a head
pub nothing_read : read_file [] ≡ headless Open
unfolding read_file outer_front begun_item byte_at
nothing_read = refl
