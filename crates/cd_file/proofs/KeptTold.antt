-- What holds of the blocks of a file holds of its kept blocks, of which each has as many parts.
use Rattle.std.proofs.Common.{◌≡◌, ℕ, ◌+◌, ◌≤◌, List, [], ◌∷◌, length, Option, Some, None, Ok, Err, refl, ap, sym, subst, arith}
use Rattle.std.specs.Prelude.{nat_lt, true, ⊤}
use Rattle.std.specs.List.{AllByRecursion}
use Rattle.std.proofs.lemmas.List.Sums.{sum_by-cons}
use Rattle.std.proofs.lemmas.Bool.{ltb-true}
use Rattle.cd_block.specs.Resolving.{Resolving, ◌>>=◌, each, resolved, resolved_item, resolved_malformed}
use Rattle.cd_block.specs.declared.block.Block.{Block}
use Rattle.cd_block.specs.declared.kept.KeptBlock.{KeptBlock}
use Rattle.cd_block.specs.declared.params.Params.{Params}
use Rattle.cd_file.specs.KeptFile.{KeptBlocks, before_kept, kept_blocks, kept_file}
use Rattle.cd_file.specs.PartsInBytes.{item_count, malformed_count, PartsHaveBytes, HasParams, BlocksHaveParams}
use Rattle.cd_file.specs.ReadFile.{FileEnd, read_file}
use Rattle.cd_file.proofs.BlockParts.{block_parts}
use Rattle.cd_file.proofs.BlocksTold.{parts_of, Holding, Named, Holds, file_holds}

-- a value that is resolved after another
pub bind_resolved : {A B : Type 0} (r : Resolving A) (f : A → Resolving B) (y : B) → (r >>= f) ≡ Ok y → (x : A) × (r ≡ Ok x) × (f x ≡ Ok y)
bind_resolved (Ok x) f y h = (x, refl, h)
bind_resolved (Err e) f y h = absurd cc

pub resolved_same : {A : Type 0} (x y : A) → ◌≡◌ {A = Resolving A} (Ok x) (Ok y) → x ≡ y
resolved_same x y h = cc

-- what a block is that resolves
pub record Resolves (b : Block) (k : KeptBlock) : Type 0 where
  pub items : each (resolved_item b) b.items ≡ Ok k.items
  pub malformed : each (resolved_malformed b) b.malformed ≡ Ok k.malformed
  pub params : k.params ≡ b.params

pub block_resolves : (b : Block) (k : KeptBlock) → resolved b ≡ Ok k → Resolves b k
unfolding resolved
block_resolves b k h =
    let items = bind_resolved (each (resolved_item b) b.items) _ k h in
    let malformed = bind_resolved (each (resolved_malformed b) b.malformed) _ k items.2 in
    subst (Resolves b) (resolved_same _ k malformed.2) (record { items = items.1; malformed = malformed.1; params = refl })

-- as many values
each_count : {A B : Type 0} (f : A → Resolving B) (xs : List A) (ys : List B) → each f xs ≡ Ok ys → length ys ≡ length xs
unfolding each
each_count f [] ys h = ap length (sym (resolved_same [] ys h))
each_count f (x ∷ xs) ys h =
    let one = bind_resolved (f x) _ ys h in
    let others = bind_resolved (each f xs) _ ys one.2 in
    let same = resolved_same (one.0 ∷ others.0) ys others.2 in
    let rest = each_count f xs others.0 others.1 in
    rw (sym same, rest) refl

-- what holds of blocks, of their kept blocks
module _ (Q : Block → Type 0) (H : KeptBlock → Type 0) (resolves : (b : Block) (k : KeptBlock) → resolved b ≡ Ok k → Q b → H k) where
  kept_more : (b : Block) (others : KeptBlocks) (r : Resolving KeptBlock) → resolved b ≡ r → Q b → AllByRecursion H others.0 → AllByRecursion H (before_kept r others).0
  kept_more b others (Ok k) is q all = (resolves b k is q, all)
  kept_more b others (Err why) is q all = tt

  pub kept_all : (blocks : List Block) (e : FileEnd) → AllByRecursion Q blocks → AllByRecursion H (kept_blocks blocks e).0
  unfolding kept_blocks
  kept_all [] e all = tt
  kept_all (b ∷ blocks) e all = kept_more b (kept_blocks blocks e) (resolved b) refl all.0 (kept_all blocks e all.1)

-- how many kept blocks, items and malformed messages there are
abbrev pub kept_parts : List KeptBlock → ℕ
kept_parts blocks = length blocks + (item_count blocks + malformed_count blocks)

parts_more : (b : Block) (others : KeptBlocks) (r : Resolving KeptBlock) (few : ℕ) → resolved b ≡ r → kept_parts others.0 ≤ few → kept_parts (before_kept r others).0 ≤ 1 + block_parts b + few
parts_more b others (Ok k) few is less =
    let of = block_resolves b k is in
    let items = each_count (resolved_item b) b.items k.items of.items in
    let malformed = each_count (resolved_malformed b) b.malformed k.malformed of.malformed in
    let first = sum_by-cons (λ (b : KeptBlock). length b.items) k others.0 in
    let second = sum_by-cons (λ (b : KeptBlock). length b.malformed) k others.0 in
    omega (arith, items, malformed, first, second, less)
parts_more b others (Err why) few is less = omega arith

kept_few : (blocks : List Block) (e : FileEnd) → kept_parts (kept_blocks blocks e).0 ≤ parts_of blocks
unfolding kept_blocks parts_of
kept_few [] e = omega arith
kept_few (b ∷ blocks) e = parts_more b (kept_blocks blocks e) (resolved b) (parts_of blocks) refl (kept_few blocks e)

-- what holds of any file
any_file : Holding
any_file = record { of_params = λ entries. ⊤; of_block = λ count b. nat_lt b.params count ≡ true }

any_holds : Holds any_file
unfolding any_file
any_holds = record { params = λ item entries h. tt; block = λ count item b h named. named }

pub parts_have_bytes : PartsHaveBytes
unfolding kept_file
parts_have_bytes bytes =
    let f = file_holds any_file any_holds bytes in
    let few = kept_few (read_file bytes).blocks (read_file bytes).end in
    omega (arith, few, f.parts)

has_params : (entries : Option (List Params)) (b : Block) (k : KeptBlock) → resolved b ≡ Ok k → Named any_file entries b → HasParams entries k
unfolding any_file
has_params None b k is named = named
has_params (Some entries) b k is named = let of = block_resolves b k is in rw of.params (ltb-true b.params (length entries) named)

pub blocks_have_params : BlocksHaveParams
unfolding kept_file
blocks_have_params bytes =
    let f = file_holds any_file any_holds bytes in
    kept_all (Named any_file (read_file bytes).params) (HasParams (read_file bytes).params) (has_params (read_file bytes).params) (read_file bytes).blocks (read_file bytes).end f.blocks
