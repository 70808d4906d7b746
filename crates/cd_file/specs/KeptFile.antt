-- What a file holds with each value in its place: the kept blocks of its blocks, up to the first that does not resolve, which
-- is then refused (RFC 8618 7.3.2.3).
use Rattle.std.specs.Prelude.{ℕ, List, [], ◌∷◌, length, Option, Ok, Err}
use Rattle.cd_block.specs.declared.block.Block.{Block}
use Rattle.cd_block.specs.declared.kept.KeptBlock.{KeptBlock}
use Rattle.cd_block.specs.declared.params.Params.{Params}
use Rattle.cd_block.specs.Resolving.{Resolving, Unresolved, PastTable, NotName, resolved}
use Rattle.cd_file.specs.declared.refusal.FileWhy.{FileWhy}
use Rattle.cd_file.specs.declared.refusal.FileWhy.TheVariants.{Index, Name}
use Rattle.cd_file.specs.declared.refusal.BadFile.{BadFile}
use Rattle.cd_file.specs.ReadFile.{FileEnd, Refused, FileRead, read_file, number_after, refusal_at, told}

-- why a block that does not resolve is refused
abbrev pub why_unresolved : Unresolved → FileWhy
why_unresolved (PastTable table) = Index table
why_unresolved NotName = Name

-- What a file holds: its block parameters, once its head is whole, its kept blocks up to the first refusal, and how it ends
-- after them.
pub record KeptFile : Type 0 where
  pub params : Option (List Params)
  pub blocks : List KeptBlock
  pub end : FileEnd

-- kept blocks, and the end after them
abbrev pub KeptBlocks : Type 0
KeptBlocks = List KeptBlock × FileEnd

-- a kept block before others, or a refusal
abbrev pub before_kept : Resolving KeptBlock → KeptBlocks → KeptBlocks
before_kept (Ok kept) others = (kept ∷ others.0, others.1)
before_kept (Err why) others = ([], Refused (why_unresolved why))

-- the kept blocks of blocks with this end after them
unfoldable pub kept_blocks : List Block → FileEnd → KeptBlocks
kept_blocks [] e = ([], e)
kept_blocks (block ∷ blocks) e = before_kept (resolved block) (kept_blocks blocks e)

-- the file with each value in its place
abbrev pub kept_in : FileRead → KeptFile
kept_in file = record {
  params = file.params;
  blocks = (kept_blocks file.blocks file.end).0;
  end = (kept_blocks file.blocks file.end).1;
}

-- what some bytes hold as a file with each value in its place
unfoldable pub kept_file : List ℕ → KeptFile
kept_file bytes = kept_in (read_file bytes)

-- the first refusal of a file whose indexes are looked up
abbrev pub kept_refusal_in : KeptFile → Option BadFile
kept_refusal_in file = refusal_at (number_after file.params (length file.blocks)) file.end

-- the first refusal of a file that has no byte after these, and whose indexes are looked up
abbrev pub told_kept_refusal : List ℕ → Option BadFile
told_kept_refusal bytes =
    refusal_at (number_after (kept_file bytes).params (length (kept_file bytes).blocks)) (told (length bytes) (kept_file bytes).end)
