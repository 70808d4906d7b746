-- What is rebuilt of the file of a capture.
use Rattle.std.proofs.Common.{◌≡◌, ℕ, ◌+◌, List, [], ◌∷◌, ◌++◌, length, map, Some, refl, sym, ap, ◌∙◌}
use Rattle.std.specs.List.{sum_by}
use Rattle.std.proofs.lemmas.List.{length-map}
use Rattle.std.proofs.lemmas.List.Folds.{flat_map-map}
use Rattle.std.proofs.lemmas.List.Sums.{sum_by-cons}
use Rattle.cd_block.specs.declared.kept.KeptBlock.{KeptBlock}
use Rattle.cd_block.specs.declared.params.Params.{Params}
use Rattle.cd_file.specs.KeptFile.{KeptFile}
use Rattle.cd_hints.specs.Records.{RecordParts}
use Rattle.cd_inspection.specs.Rebuilding.{by_params, packet_count, block_records, capture_of, rebuilt_counts}
use Rattle.cd_pcap.specs.Writing.{written_header}
use Rattle.cd_rebuild.specs.Rebuilding.{bare_count, not_udp_count, too_long_count}
use Rattle.cd_record.specs.Blocks.{kept_block}
use Rattle.cd_engine.specs.Projecting.{capture_of_runs, counts_of_runs, WhatIsKeptIsRebuilt, WhatIsKeptIsCounted}
use Rattle.cd_engine.proofs.FilesReadBack.{files_kept}

-- a sum over what is made of some values
sum_by_map : {A B : Type 0} (f : B → ℕ) (g : A → B) (xs : List A) → sum_by f (map g xs) ≡ sum_by (λ x. f (g x)) xs
sum_by_map f g [] = refl
sum_by_map f g (x ∷ xs) =
    sum_by-cons f (g x) (map g xs) ∙ ap (λ n. f (g x) + n) (sum_by_map f g xs) ∙ sym (sum_by-cons (λ y. f (g y)) x xs)

module _ (p : Params) (runs : List (List RecordParts)) where
  -- what is kept of the runs
  abbrev kept : List KeptBlock
  kept = map (kept_block p) runs

  -- what the blocks have by the one block parameters of the file is what they have by these
  sum_of_runs : (told : Params → KeptBlock → ℕ) → sum_by (by_params (Some (p ∷ [])) 0 told) kept ≡ sum_by (λ run. told p (kept_block p run)) runs
  sum_of_runs told = sum_by_map (by_params (Some (p ∷ [])) 0 told) (kept_block p) runs

  -- the capture of the blocks
  capture_of_blocks : capture_of (Some (p ∷ [])) kept ≡ capture_of_runs p runs
  capture_of_blocks = ap (λ records. written_header ++ records) (flat_map-map (by_params (Some (p ∷ [])) [] block_records) (kept_block p) runs)

  -- the counts of the blocks
  counts_of_blocks : rebuilt_counts (Some (p ∷ [])) kept ≡ counts_of_runs p runs
  counts_of_blocks = λ i. record {
    blocks = length-map runs (kept_block p) i;
    items = sum_by_map (λ (b : KeptBlock). length b.items) (kept_block p) runs i;
    malformed = sum_by_map (λ (b : KeptBlock). length b.malformed) (kept_block p) runs i;
    packets = sum_of_runs packet_count i;
    bare = sum_of_runs (λ params. bare_count) i;
    not_udp = sum_of_runs (λ params. not_udp_count) i;
    too_long = sum_of_runs (λ params. too_long_count params.ticks) i;
  }

-- the law of what is rebuilt
pub kept_is_rebuilt : WhatIsKeptIsRebuilt
kept_is_rebuilt s bytes file valid range all is =
    ap (λ (f : KeptFile). capture_of f.params f.blocks) (files_kept s bytes file valid range all is)
    ∙ capture_of_blocks s.params is.compaction.runs

-- the law of what is counted
pub kept_is_counted : WhatIsKeptIsCounted
kept_is_counted s bytes file valid range all is =
    sym (ap (λ (f : KeptFile). rebuilt_counts f.params f.blocks) (files_kept s bytes file valid range all is)
    ∙ counts_of_blocks s.params is.compaction.runs)
