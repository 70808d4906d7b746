-- What is written of the blocks of a file, one after another, stands behind what was written before them.
use Rattle.std.proofs.Common.{◌≡◌, ℕ, ◌+◌, ◌<◌, List, [], ◌∷◌, ◌++◌, length, get_or, take, Option, Some, None, refl, ap, sym, ◌∙◌, append_assoc}
use Rattle.std.proofs.lemmas.List.{append-nil}
use Rattle.std.specs.List.{flat_map, fold}
use Rattle.cd_block.specs.declared.kept.KeptBlock.{KeptBlock}
use Rattle.cd_block.specs.declared.params.Params.{Params}
use Rattle.cd_file.specs.KeptFile.{kept_file}
use Rattle.cd_inspection.specs.Inspecting.{Rendering, Inspected, params_at, with_block, inspected_more, inspected_none, inspected}
use Rattle.cd_inspection.specs.Rebuilding.{by_params, rebuilding, CapturesAreRebuilt}
use Rattle.std.specs.Option.{option_map_or}
use Rattle.cd_rebuild.proofs.Flattening.{flat_map_next}

module _ {C : Type 0} (r : Rendering C) where
  -- what is written of a block with these parameters, or of one whose parameters are not there
  one_written : (k : KeptBlock) (so_far : Inspected C) (p : Option Params) →
      (with_block r k so_far p).bytes ≡ so_far.bytes ++ option_map_or (λ q. r.bytes_of q k) p []
  one_written k so_far None = sym (append-nil so_far.bytes)
  one_written k so_far (Some p) = refl

  -- what is written of blocks
  all_written : (entries : Option (List Params)) (blocks : List KeptBlock) (so_far : Inspected C) →
      (fold (inspected_more r entries) so_far blocks).bytes ≡ so_far.bytes ++ flat_map (by_params entries [] r.bytes_of) blocks
  all_written entries [] so_far = sym (append-nil so_far.bytes)
  all_written entries (k ∷ blocks) so_far =
      let more : Inspected C = inspected_more r entries so_far k in
      let rest : List ℕ = flat_map (by_params entries [] r.bytes_of) blocks in
      all_written entries blocks more
      ∙ ap (λ bytes. bytes ++ rest) (one_written k so_far (params_at entries k.params))
      ∙ append_assoc so_far.bytes (by_params entries [] r.bytes_of k) rest

-- what the elements of a list give, behind what was there: one element further
pub one_behind : {X : Type 0} (f : X → List ℕ) (start old new : List ℕ) (xs : List X) (i : ℕ) (x : X) → i < length xs → x ≡ get_or xs i x →
    old ≡ start ++ flat_map f (take i xs) → new ≡ old ++ f x → new ≡ start ++ flat_map f (take (i + 1) xs)
one_behind f start old new xs i x within is before now =
    now ∙ ap (λ t. t ++ f x) before ∙ append_assoc start (flat_map f (take i xs)) (f x)
    ∙ ap (λ t. start ++ t) (ap (λ y. flat_map f (take i xs) ++ f y) is ∙ sym (flat_map_next f xs i x within))

-- the capture of the blocks that bytes hold
pub captures_rebuilt : CapturesAreRebuilt
unfolding inspected
captures_rebuilt bytes =
    let file = kept_file bytes in all_written rebuilding file.params file.blocks (inspected_none rebuilding)
