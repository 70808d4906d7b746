-- What is counted of few blocks, one after another, is how many there are and how many items and malformed messages they have.
use Rattle.std.proofs.Common.{◌≡◌, ℕ, zero, suc, ◌+◌, ◌<◌, ◌^◌, List, [], ◌∷◌, length, Option, Some, None, refl, ap, ◌∙◌, arith}
use Rattle.std.specs.Prelude.{slice_get}
use Rattle.std.specs.List.{AllByRecursion, fold}
use Rattle.std.proofs.lemmas.List.Sums.{sum_by-cons}
use Rattle.cd_block.specs.declared.kept.KeptBlock.{KeptBlock}
use Rattle.cd_block.specs.declared.params.Params.{Params}
use Rattle.cd_file.specs.KeptFile.{kept_file}
use Rattle.cd_file.specs.PartsInBytes.{item_count, malformed_count, HasParams}
use Rattle.cd_file.proofs.KeptTold.{parts_have_bytes, blocks_have_params}
use Rattle.cd_inspection.specs.Inspecting.{Inspected, inspected_more, inspected_none, inspected}
use Rattle.cd_inspection.specs.ReadCounting.{held_in_64, counting, counts_with_block, CountsAreOfBlocks}
use Rattle.cd_inspection.specs.declared.counting.ReadCounts.{ReadCounts}

-- an element that is there
pub there : {A : Type 0} (xs : List A) (k : ℕ) → k < length xs → (x : A) × (slice_get xs k ≡ Some x)
there [] k few = absurd omega (arith, few)
there (x ∷ xs) zero few = (x, refl)
there (x ∷ xs) (suc k) few = there xs k (omega (arith, few))

-- a block whose parameters are there is counted
counted : (entries : Option (List Params)) (k : KeptBlock) (so_far : Inspected ReadCounts) → HasParams entries k →
    (inspected_more counting entries so_far k).counts ≡ counts_with_block k so_far.counts
counted None k so_far has = absurd has
counted (Some entries) k so_far has = let p = there entries k.params has in rw p.1 refl

-- a count of at most 64 bits grows
pub grown : (n x rest sum total : ℕ) → sum ≡ x + rest → n + sum ≡ total → total < 2 ^ 64 → held_in_64 (n + x) + rest ≡ total
grown n x rest sum total parts all few = omega (arith, parts, all, few)

pub none_more : (n total : ℕ) → n + 0 ≡ total → n ≡ total
none_more n total all = omega (arith, all)

-- these are the counts, and then some blocks
record Totals (c : ReadCounts) (more : List KeptBlock) (b i m : ℕ) : Type 0 where
  pub blocks : c.blocks + length more ≡ b
  pub items : c.items + item_count more ≡ i
  pub malformed : c.malformed + malformed_count more ≡ m

module _ (entries : Option (List Params)) (b i m : ℕ) (few_blocks : b < 2 ^ 64) (few_items : i < 2 ^ 64) (few_malformed : m < 2 ^ 64) where
  totals_more : (c : ReadCounts) (k : KeptBlock) (blocks : List KeptBlock) → Totals c (k ∷ blocks) b i m → Totals (counts_with_block k c) blocks b i m
  totals_more c k blocks t = record {
    blocks = grown c.blocks 1 (length blocks) (length (k ∷ blocks)) b (omega arith) t.blocks few_blocks;
    items = grown c.items (length k.items) (item_count blocks) (item_count (k ∷ blocks)) i (sum_by-cons (λ (b : KeptBlock). length b.items) k blocks) t.items few_items;
    malformed = grown c.malformed (length k.malformed) (malformed_count blocks) (malformed_count (k ∷ blocks)) m (sum_by-cons (λ (b : KeptBlock). length b.malformed) k blocks) t.malformed few_malformed;
  }

  -- what is counted of these blocks
  fold_counts : (blocks : List KeptBlock) (so_far : Inspected ReadCounts) (c : ReadCounts) → so_far.counts ≡ c → AllByRecursion (HasParams entries) blocks → Totals c blocks b i m →
      (fold (inspected_more counting entries) so_far blocks).counts ≡ record c { blocks = b; items = i; malformed = m }
  fold_counts [] so_far c is all t =
      is ∙ (λ j. record c { blocks = none_more c.blocks b t.blocks j; items = none_more c.items i t.items j; malformed = none_more c.malformed m t.malformed j })
  fold_counts (k ∷ blocks) so_far c is all t =
      fold_counts blocks (inspected_more counting entries so_far k) (counts_with_block k c) (counted entries k so_far all.0 ∙ ap (counts_with_block k) is) all.1 (totals_more c k blocks t)

pub counts_are_of_blocks : CountsAreOfBlocks
unfolding inspected
counts_are_of_blocks bytes short =
    let file = kept_file bytes in
    let parts = parts_have_bytes bytes in
    let few_blocks : length file.blocks < 2 ^ 64 = omega (arith, parts, short) in
    let few_items : item_count file.blocks < 2 ^ 64 = omega (arith, parts, short) in
    let few_malformed : malformed_count file.blocks < 2 ^ 64 = omega (arith, parts, short) in
    fold_counts file.params (length file.blocks) (item_count file.blocks) (malformed_count file.blocks) few_blocks few_items few_malformed file.blocks
    (inspected_none counting) counting.no_counts refl (blocks_have_params bytes)
    (record { blocks = omega arith; items = omega arith; malformed = omega arith })
