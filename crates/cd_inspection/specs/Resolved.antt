-- The kept blocks of some blocks, and of more blocks behind them.
use Rattle.std.proofs.Common.{◌≡◌, suc, List, [], ◌∷◌, ◌++◌, length, Ok, Err, refl, ap, inl, inr, ◌⊎◌}
use Rattle.cd_block.specs.declared.block.Block.{Block}
use Rattle.cd_block.specs.declared.kept.KeptBlock.{KeptBlock}
use Rattle.cd_block.specs.Resolving.{Resolving, Unresolved, resolved}
use Rattle.cd_file.specs.KeptFile.{KeptBlocks, kept_blocks, why_unresolved}
use Rattle.cd_file.specs.ReadFile.{FileEnd, Refused}

-- these blocks resolve to these
abbrev pub ResolveTo : List Block → List KeptBlock → Type 0
ResolveTo [] kept = kept ≡ []
ResolveTo (block ∷ blocks) [] = ⊥
ResolveTo (block ∷ blocks) (k ∷ kept) = (resolved block ≡ Ok k) × ResolveTo blocks kept

-- kept blocks before others
abbrev pub after_kept : List KeptBlock → KeptBlocks → KeptBlocks
after_kept kept others = (kept ++ others.0, others.1)

-- one block more
pub resolve_more : (blocks : List Block) (kept : List KeptBlock) (block : Block) (k : KeptBlock) →
    ResolveTo blocks kept → resolved block ≡ Ok k → ResolveTo (blocks ++ block ∷ []) (kept ++ k ∷ [])
resolve_more [] [] block k all is = (is, refl)
resolve_more [] (x ∷ kept) block k all is = absurd cc
resolve_more (b ∷ blocks) [] block k all is = absurd all
resolve_more (b ∷ blocks) (x ∷ kept) block k all is = (all.0, resolve_more blocks kept block k all.1 is)

-- there are as many kept blocks
pub resolved_count : (blocks : List Block) (kept : List KeptBlock) → ResolveTo blocks kept → length blocks ≡ length kept
resolved_count [] [] all = refl
resolved_count [] (k ∷ kept) all = absurd cc
resolved_count (b ∷ blocks) [] all = absurd all
resolved_count (b ∷ blocks) (k ∷ kept) all = ap suc (resolved_count blocks kept all.1)

-- the kept blocks of blocks that resolve, and of others behind them
pub kept_after : (blocks rest : List Block) (kept : List KeptBlock) (e : FileEnd) → ResolveTo blocks kept →
    kept_blocks (blocks ++ rest) e ≡ after_kept kept (kept_blocks rest e)
unfolding kept_blocks
kept_after [] rest [] e all = refl
kept_after [] rest (k ∷ kept) e all = absurd cc
kept_after (b ∷ blocks) rest [] e all = absurd all
kept_after (b ∷ blocks) rest (k ∷ kept) e all = rw (all.0, kept_after blocks rest kept e all.1) refl

-- the kept blocks of blocks that resolve
pub kept_of_all : (blocks : List Block) (kept : List KeptBlock) (e : FileEnd) → ResolveTo blocks kept →
    kept_blocks blocks e ≡ (kept, e)
unfolding kept_blocks
kept_of_all [] [] e all = refl
kept_of_all [] (k ∷ kept) e all = absurd cc
kept_of_all (b ∷ blocks) [] e all = absurd all
kept_of_all (b ∷ blocks) (k ∷ kept) e all = rw (all.0, kept_of_all blocks kept e all.1) refl

-- the kept blocks before one that does not resolve
pub kept_before : (blocks rest : List Block) (kept : List KeptBlock) (block : Block) (why : Unresolved) (e : FileEnd) →
    ResolveTo blocks kept → resolved block ≡ Err why →
    kept_blocks (blocks ++ block ∷ rest) e ≡ (kept, Refused (why_unresolved why))
unfolding kept_blocks
kept_before [] rest [] block why e all is = rw is refl
kept_before [] rest (k ∷ kept) block why e all is = absurd cc
kept_before (b ∷ blocks) rest [] block why e all is = absurd all
kept_before (b ∷ blocks) rest (k ∷ kept) block why e all is =
    rw (all.0, kept_before blocks rest kept block why e all.1 is) refl

-- One of the blocks does not resolve: then neither the end nor what stands behind them changes their kept blocks.
abbrev pub StopsWithin : List Block → Type 0
StopsWithin blocks = (rest : List Block) (e f : FileEnd) → kept_blocks (blocks ++ rest) f ≡ kept_blocks blocks e

-- blocks of which the first resolves so
decided_first : (block : Block) (blocks : List Block) (r : Resolving KeptBlock) → resolved block ≡ r →
    ((kept : List KeptBlock) × ResolveTo blocks kept) ⊎ StopsWithin blocks →
    ((kept : List KeptBlock) × ResolveTo (block ∷ blocks) kept) ⊎ StopsWithin (block ∷ blocks)
unfolding kept_blocks
decided_first block blocks (Ok k) is (inl all) = inl (k ∷ all.0, (is, all.1))
decided_first block blocks (Ok k) is (inr stops) = inr (λ rest e f. rw (is, stops rest e f) refl)
decided_first block blocks (Err why) is others = inr (λ rest e f. rw is refl)

-- blocks all resolve, or one does not
pub resolving_decided : (blocks : List Block) → ((kept : List KeptBlock) × ResolveTo blocks kept) ⊎ StopsWithin blocks
resolving_decided [] = inl ([], refl)
resolving_decided (block ∷ blocks) = decided_first block blocks (resolved block) refl (resolving_decided blocks)
