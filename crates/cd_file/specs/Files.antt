-- A file: an array of the text "C-DNS", a preamble and the array of blocks, which alone has an indefinite length
-- (RFC 8618 7.3, RFC 8949 3.2.2).
use Rattle.std.specs.Prelude.{ℕ, List, [], ◌∷◌, ◌++◌, map, codes}
use Rattle.std.specs.List.{concat}
use Rattle.cd_cbor.specs.Items.{text}
use Rattle.cd_cbor.specs.Spelling.{head, spelling}
use Rattle.cd_file.specs.Head.{preamble_item}
use Rattle.cd_file.specs.Blocks.{block_item}
use Rattle.cd_block.specs.declared.block.Block.{Block}
use Rattle.cd_block.specs.declared.params.Params.{Params}

-- the head of the file's array of three, its text and its preamble, and the head of the array of blocks
unfoldable pub file_head : Params → List ℕ
file_head params = head 4 3 ++ (spelling (text (codes "C-DNS")) ++ (spelling (preamble_item params) ++ 0x9f ∷ []))

-- the spelling of a block
unfoldable pub block_spelling : Block → List ℕ
block_spelling block = spelling (block_item block)

-- the byte that ends the array of blocks
abbrev pub file_end : List ℕ
file_end = 0xff ∷ []

-- a file of these parameters and blocks, whose array of blocks is still open
unfoldable pub file_begun : Params → List Block → List ℕ
file_begun params blocks = file_head params ++ concat (map block_spelling blocks)

-- the file of these parameters and blocks
unfoldable pub file_of : Params → List Block → List ℕ
file_of params blocks = file_begun params blocks ++ file_end
