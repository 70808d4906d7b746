-- What an inspection makes of the bytes of a C-DNS file: of each kept block, with its block parameters, in turn
-- (RFC 8618 7.3).
use Rattle.std.specs.Prelude.{ℕ, List, ◌++◌, slice_get, Option, Some, None, option_and_then}
use Rattle.std.specs.List.{fold}
use Rattle.cd_block.specs.declared.kept.KeptBlock.{KeptBlock}
use Rattle.cd_block.specs.declared.params.Params.{Params}
use Rattle.cd_drive.specs.Behaviors.{Behavior}
use Rattle.cd_file.specs.KeptFile.{KeptFile, kept_file, kept_refusal_in, told_kept_refusal}
use Rattle.cd_file.specs.declared.refusal.BadFile.{BadFile}

-- What is written before the first block, what is written of a block with its parameters, and what is counted of it.
pub record Rendering (C : Type 0) : Type 0 where
  pub begins : List ℕ
  pub bytes_of : Params → KeptBlock → List ℕ
  pub no_counts : C
  pub counts_with : Params → KeptBlock → C → C

-- what was written and counted
pub record Inspected (C : Type 0) : Type 0 where
  pub bytes : List ℕ
  pub counts : C

-- the block parameters with this number, where the head has them
abbrev pub params_at : Option (List Params) → ℕ → Option Params
params_at entries number = option_and_then (λ es. slice_get es number) entries

-- what was written and counted, and then a block with these parameters
abbrev pub with_block : {C : Type 0} → Rendering C → KeptBlock → Inspected C → Option Params → Inspected C
with_block r kept so_far None = so_far
with_block r kept so_far (Some p) = record {
  bytes = so_far.bytes ++ r.bytes_of p kept;
  counts = r.counts_with p kept so_far.counts;
}

-- one block more, of a file with these block parameters
abbrev pub inspected_more : {C : Type 0} → Rendering C → Option (List Params) → Inspected C → KeptBlock → Inspected C
inspected_more r entries so_far kept = with_block r kept so_far (params_at entries kept.params)

-- before the first block
abbrev pub inspected_none : {C : Type 0} → Rendering C → Inspected C
inspected_none r = record { bytes = r.begins; counts = r.no_counts }

-- some blocks, of a file with these block parameters
unfoldable pub inspected : {C : Type 0} → Rendering C → Option (List Params) → List KeptBlock → Inspected C
inspected r entries blocks = fold (inspected_more r entries) (inspected_none r) blocks

-- the blocks of a file
abbrev pub inspected_in : {C : Type 0} → Rendering C → KeptFile → Inspected C
inspected_in r file = inspected r file.params file.blocks

-- What an inspection makes of bytes. What is written of a block that is there whole is due at once.
abbrev pub inspecting : {C : Type 0} → Rendering C → Behavior BadFile C
inspecting r = record {
  refusal = λ bytes. kept_refusal_in (kept_file bytes);
  at_end = told_kept_refusal;
  ready = λ bytes. (inspected_in r (kept_file bytes)).bytes;
  whole = λ bytes. (inspected_in r (kept_file bytes)).bytes;
  counts = λ bytes. (inspected_in r (kept_file bytes)).counts;
}
