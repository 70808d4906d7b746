-- What is written is read back.
use Rattle.std.specs.Prelude.{◌≡◌, List, [], ◌∷◌, Some, Ok}
use Rattle.std.specs.List.{AllByRecursion, AllZip}
use Rattle.cd_block.specs.Resolving.{resolved}
use Rattle.cd_block.specs.declared.block.Block.{Block}
use Rattle.cd_block.specs.declared.kept.KeptBlock.{KeptBlock}
use Rattle.cd_block.specs.declared.params.Params.{Params}
use Rattle.cd_file.specs.Files.{file_begun, file_of}
use Rattle.cd_file.specs.KeptFile.{KeptFile, kept_file}
use Rattle.cd_file.specs.ReadFile.{FileEnd, Whole, Open, FileRead, read_file}
use Rattle.cd_file.specs.Readable.{ReadableParams, ReadableBlock}

-- a file of these block parameters alone and these blocks, which ends so
abbrev pub holding : Params → List Block → FileEnd → FileRead
holding params blocks e = record { params = Some (params ∷ []); blocks = blocks; end = e }

-- The file of some block parameters and blocks is read as these, and ends whole.
abbrev pub FileIsReadBack : Type 0
FileIsReadBack = (params : Params) (blocks : List Block) → ReadableParams params → AllByRecursion ReadableBlock blocks →
    read_file (file_of params blocks) ≡ holding params blocks Whole

-- A file whose array of blocks is still open is read as the blocks so far, and is open.
abbrev pub OpenFileIsReadBack : Type 0
OpenFileIsReadBack = (params : Params) (blocks : List Block) → ReadableParams params → AllByRecursion ReadableBlock blocks →
    read_file (file_begun params blocks) ≡ holding params blocks Open

-- these blocks resolve to these kept blocks, one by one
abbrev pub AreResolved : List Block → List KeptBlock → Type 0
AreResolved blocks kept = AllZip (λ block one. resolved block ≡ Ok one) blocks kept

-- a file of these block parameters alone and these kept blocks, which ends so
abbrev pub keeping : Params → List KeptBlock → FileEnd → KeptFile
keeping params kept e = record { params = Some (params ∷ []); blocks = kept; end = e }

-- With each value in its place, the file of blocks that resolve is read as the kept blocks, and ends whole.
abbrev pub FileIsKept : Type 0
FileIsKept = (params : Params) (blocks : List Block) (kept : List KeptBlock) → ReadableParams params →
    AllByRecursion ReadableBlock blocks → AreResolved blocks kept →
    kept_file (file_of params blocks) ≡ keeping params kept Whole
