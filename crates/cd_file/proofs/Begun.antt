-- A file whose array of blocks is open.
use Rattle.std.proofs.Common.{◌≡◌, List, [], ◌∷◌, ◌++◌, map, refl, ap, sym, ◌∙◌, append_assoc}
use Rattle.std.specs.List.{concat}
use Rattle.std.proofs.lemmas.List.{append-nil, map-append}
use Rattle.std.proofs.lemmas.List.Folds.{concat-append}
use Rattle.cd_block.specs.declared.block.Block.{Block}
use Rattle.cd_block.specs.declared.params.Params.{Params}
use Rattle.cd_file.specs.Files.{file_head, block_spelling, file_begun, file_end, file_of}

-- no block yet
pub file_begun_none : (params : Params) → file_begun params [] ≡ file_head params
unfolding file_begun
file_begun_none params = append-nil (file_head params)

-- one more block
pub file_begun_more : (params : Params) (blocks : List Block) (block : Block) →
    file_begun params (blocks ++ block ∷ []) ≡ file_begun params blocks ++ block_spelling block
unfolding file_begun
file_begun_more params blocks block =
    ap (λ pieces. file_head params ++ concat pieces) (map-append block_spelling blocks (block ∷ []))
    ∙ ap (λ t. file_head params ++ t) (concat-append (map block_spelling blocks) (block_spelling block ∷ []))
    ∙ ap (λ t. file_head params ++ (concat (map block_spelling blocks) ++ t)) (append-nil (block_spelling block))
    ∙ sym (append_assoc (file_head params) (concat (map block_spelling blocks)) (block_spelling block))

-- the end after the last block
pub file_ended : (params : Params) (blocks : List Block) → file_of params blocks ≡ file_begun params blocks ++ file_end
unfolding file_of
file_ended params blocks = refl
