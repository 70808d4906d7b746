-- What an inspection makes of the bytes of a file as they go on.
use Rattle.std.proofs.Common.{◌≡◌, ℕ, List, [], ◌∷◌, ◌++◌, Option, Some, None, refl, ap, sym, ◌∙◌, inl, inr, ◌⊎◌, append_assoc, subst}
use Rattle.std.proofs.lemmas.List.{append-nil}
use Rattle.std.proofs.lemmas.List.Sums.{fold-append}
use Rattle.std.specs.List.{fold}
use Rattle.cd_block.specs.declared.block.Block.{Block}
use Rattle.cd_block.specs.declared.kept.KeptBlock.{KeptBlock}
use Rattle.cd_block.specs.declared.params.Params.{Params}
use Rattle.cd_drive.specs.Behaviors.{IsFront}
use Rattle.cd_file.specs.FileGrowth.{Grows, FilesGrow, nothing_read}
use Rattle.cd_file.specs.KeptFile.{KeptBlocks, kept_blocks, kept_in, kept_file, kept_refusal_in}
use Rattle.cd_file.specs.ReadFile.{FileRead, FileEnd, Whole, Open, Refused, read_file, refusal_at}
use Rattle.cd_file.specs.declared.refusal.FileWhy.{FileWhy}
use Rattle.cd_file.specs.declared.refusal.BadFile.{BadFile}
use Rattle.cd_inspection.specs.Inspecting.{Rendering, Inspected, params_at, with_block, inspected_more, inspected_none, inspected, inspected_in}
use Rattle.cd_inspection.specs.Resolved.{ResolveTo, StopsWithin, kept_after, kept_of_all, resolving_decided}

module _ {C : Type 0} (r : Rendering C) where
  -- what a block adds stands behind what was written
  with_block_front : (kept : KeptBlock) (so_far : Inspected C) (p : Option Params) →
      IsFront so_far.bytes (with_block r kept so_far p).bytes
  with_block_front kept so_far None = ([], sym (append-nil so_far.bytes))
  with_block_front kept so_far (Some p) = (r.bytes_of p kept, refl)

  -- fronts of fronts
  front_then : (xs ys zs : List ℕ) → IsFront xs ys → IsFront ys zs → IsFront xs zs
  front_then xs ys zs a b =
      (a.0 ++ b.0, b.1 ∙ ap (λ t. t ++ b.0) a.1 ∙ append_assoc xs a.0 b.0)

  -- so do many
  fold_front : (entries : Option (List Params)) (kept : List KeptBlock) (so_far : Inspected C) →
      IsFront so_far.bytes (fold (inspected_more r entries) so_far kept).bytes
  fold_front entries [] so_far = ([], sym (append-nil so_far.bytes))
  fold_front entries (k ∷ kept) so_far =
      let more : Inspected C = inspected_more r entries so_far k in
      front_then so_far.bytes more.bytes (fold (inspected_more r entries) more kept).bytes
      (with_block_front k so_far (params_at entries k.params))
      (fold_front entries kept more)

  -- what was written of some blocks is a front of what is written of these and others
  pub inspected_front : (entries : Option (List Params)) (kept more : List KeptBlock) →
      IsFront (inspected r entries kept).bytes (inspected r entries (kept ++ more)).bytes
  unfolding inspected
  inspected_front entries kept more =
      rw (fold-append (inspected_more r entries) (inspected_none r) kept more)
      (fold_front entries more (fold (inspected_more r entries) (inspected_none r) kept))

  -- what was written before the first block is a front
  pub none_front : (entries others : Option (List Params)) (kept : List KeptBlock) →
      IsFront (inspected r entries []).bytes (inspected r others kept).bytes
  unfolding inspected
  none_front entries others kept = fold_front others kept (inspected_none r)

  -- one block more
  pub inspected_one : (entries : Option (List Params)) (kept : List KeptBlock) (k : KeptBlock) →
      inspected r entries (kept ++ k ∷ []) ≡ inspected_more r entries (inspected r entries kept) k
  unfolding inspected
  inspected_one entries kept k = fold-append (inspected_more r entries) (inspected_none r) kept (k ∷ [])

-- an end that refuses something is a refusal
refusing_end : (number : ℕ) (e : FileEnd) (bad : BadFile) → refusal_at number e ≡ Some bad → (why : FileWhy) × (e ≡ Refused why)
refusing_end number Whole bad is = absurd cc
refusing_end number Open bad is = absurd cc
refusing_end number (Refused why) bad is = (why, refl)

-- no block stops within
stops_within_none : StopsWithin [] → ⊥
unfolding kept_blocks
stops_within_none stops = open_or_whole (ap (λ (k : KeptBlocks). k.1) (stops [] Whole Open))
  where
    open_or_whole : Open ≡ Whole → ⊥
    open_or_whole e = cc

-- the block parameters of blocks that are there stay
pub params_stay : (now later : FileRead) → Grows now later → (now.blocks ≡ [] → ⊥) → later.params ≡ now.params
params_stay now later g some = by_params now.params refl
  where
    by_params : (p : Option (List Params)) → now.params ≡ p → later.params ≡ now.params
    by_params None is = absurd (some (g.headless is))
    by_params (Some entries) is = g.params entries is ∙ sym is

-- a file is its parameters, its blocks and its end
same_kept : (a b : FileRead) → a.params ≡ b.params → kept_blocks a.blocks a.end ≡ kept_blocks b.blocks b.end → kept_in a ≡ kept_in b
same_kept a b p k i = record { params = p i; blocks = (k i).0; end = (k i).1 }

-- a file that is refused stays as it is
kept_stays : (now later : FileRead) (bad : BadFile) → Grows now later → kept_refusal_in (kept_in now) ≡ Some bad → kept_in later ≡ kept_in now
kept_stays now later bad g is = by_decision (resolving_decided now.blocks)
  where
    by_decision : ((kept : List KeptBlock) × ResolveTo now.blocks kept) ⊎ StopsWithin now.blocks → kept_in later ≡ kept_in now
    by_decision (inl all) =
        let e : (kept_in now).end ≡ now.end = ap (λ (k : KeptBlocks). k.1) (kept_of_all now.blocks all.0 now.end all.1) in
        let refused = refusing_end _ (kept_in now).end bad is in
        ap kept_in (g.refused refused.0 (sym e ∙ refused.1))
    by_decision (inr stops) =
        same_kept later now
        (params_stay now later g (λ none. stops_within_none (let P : List Block → Type 0 = λ bs. StopsWithin bs in subst P none stops)))
        (ap (λ bs. kept_blocks bs later.end) g.blocks ∙ stops g.rest now.end later.end)

-- what was refused stays so, and nothing more is read
pub refused_stays : FilesGrow → (xs ys : List ℕ) (bad : BadFile) → kept_refusal_in (kept_file xs) ≡ Some bad → kept_file (xs ++ ys) ≡ kept_file xs
unfolding kept_file
refused_stays grow xs ys bad is = kept_stays (read_file xs) (read_file (xs ++ ys)) bad (grow xs ys) is

-- no block has no kept block
no_kept : (e : FileEnd) → (kept_blocks [] e).0 ≡ []
unfolding kept_blocks
no_kept e = refl

module _ {C : Type 0} (r : Rendering C) where
  -- what was written of a file is a front of what is written as it goes on
  grown_front : (now later : FileRead) → Grows now later → IsFront (inspected_in r (kept_in now)).bytes (inspected_in r (kept_in later)).bytes
  grown_front now later g = by_params now.params refl
    where
      Front : Option (List Params) → List KeptBlock → List KeptBlock → Type 0
      Front entries kept more = IsFront (inspected r entries kept).bytes (inspected r entries more).bytes

      by_decision : ((kept : List KeptBlock) × ResolveTo now.blocks kept) ⊎ StopsWithin now.blocks → later.params ≡ now.params →
          IsFront (inspected_in r (kept_in now)).bytes (inspected_in r (kept_in later)).bytes
      by_decision (inl all) same =
          let now_kept : (kept_in now).blocks ≡ all.0 = ap (λ (k : KeptBlocks). k.0) (kept_of_all now.blocks all.0 now.end all.1) in
          let others : List KeptBlock = (kept_blocks g.rest later.end).0 in
          let later_kept : (kept_in later).blocks ≡ all.0 ++ others =
          ap (λ bs. (kept_blocks bs later.end).0) g.blocks ∙ ap (λ (k : KeptBlocks). k.0) (kept_after now.blocks g.rest all.0 later.end all.1) in
          rw (now_kept, later_kept, same) (inspected_front r now.params all.0 others)
      by_decision (inr stops) same =
          let same_blocks : (kept_in later).blocks ≡ (kept_in now).blocks =
          ap (λ bs. (kept_blocks bs later.end).0) g.blocks ∙ ap (λ (k : KeptBlocks). k.0) (stops g.rest now.end later.end) in
          rw (same_blocks, same) ([], sym (append-nil _))

      by_params : (p : Option (List Params)) → now.params ≡ p → IsFront (inspected_in r (kept_in now)).bytes (inspected_in r (kept_in later)).bytes
      by_params None is =
          let none : (kept_in now).blocks ≡ [] = ap (λ bs. (kept_blocks bs now.end).0) (g.headless is) ∙ no_kept now.end in
          rw none (none_front r now.params later.params (kept_in later).blocks)
      by_params (Some entries) is = by_decision (resolving_decided now.blocks) (g.params entries is ∙ sym is)

  -- what was written is a front of what is written as the bytes go on
  pub written_grows : FilesGrow → (xs ys : List ℕ) → IsFront (inspected_in r (kept_file xs)).bytes (inspected_in r (kept_file (xs ++ ys))).bytes
  unfolding kept_file
  written_grows grow xs ys = grown_front (read_file xs) (read_file (xs ++ ys)) (grow xs ys)

-- no bytes are not refused
pub nothing_unrefused : kept_refusal_in (kept_file []) ≡ None
unfolding kept_file kept_blocks
nothing_unrefused = rw nothing_read refl
