-- What is counted of few blocks that are rebuilt, one after another, are their counts.
use Rattle.std.proofs.Common.{◌≡◌, ℕ, ◌+◌, ◌*◌, ◌<◌, ◌≤◌, ◌^◌, List, [], ◌∷◌, length, Option, Some, None, refl, ap, ◌∙◌, arith}
use Rattle.std.specs.List.{AllByRecursion, fold, sum_by}
use Rattle.std.specs.Option.{option_map_or}
use Rattle.std.proofs.lemmas.List.Sums.{sum_by-cons}
use Rattle.cd_block.specs.declared.kept.KeptBlock.{KeptBlock}
use Rattle.cd_block.specs.declared.params.Params.{Params}
use Rattle.cd_file.specs.KeptFile.{kept_file}
use Rattle.cd_file.specs.PartsInBytes.{item_count, malformed_count, HasParams}
use Rattle.cd_file.proofs.KeptTold.{parts_have_bytes, blocks_have_params}
use Rattle.cd_rebuild.specs.Rebuilding.{bare_count, not_udp_count, too_long_count}
use Rattle.cd_inspection.specs.Inspecting.{Rendering, Inspected, params_at, with_block, inspected_more, inspected_none, inspected}
use Rattle.cd_inspection.specs.ReadCounting.{held_in_64, no_read_counts, counts_with_block}
use Rattle.cd_inspection.specs.Rebuilding.{by_params, packet_count, rebuilding, RebuiltCountsAreTold}
use Rattle.cd_inspection.specs.declared.counting.ReadCounts.{ReadCounts}
use Rattle.cd_inspection.proofs.CountsTold.{there, grown, none_more}
use Rattle.cd_inspection.proofs.RebuiltParts.{most_sent, packets_few, too_long_few, bare_few, not_udp_few}

-- what is counted of a block with these parameters
abbrev Counter : Type 0
Counter = Params → KeptBlock → ℕ

-- what blocks have by the parameters that they name
abbrev sum_of : Option (List Params) → Counter → List KeptBlock → ℕ
sum_of entries of blocks = sum_by (by_params entries 0 of) blocks

-- the parameters of a block are there
named : (entries : Option (List Params)) (k : KeptBlock) → HasParams entries k → (p : Params) × (params_at entries k.params ≡ Some p)
named None k has = absurd has
named (Some entries) k has = there entries k.params has

-- the sum with a block more, whose parameters are there
sum_more : (entries : Option (List Params)) (of : Counter) (k : KeptBlock) (blocks : List KeptBlock) (p : Params) → params_at entries k.params ≡ Some p →
    sum_of entries of (k ∷ blocks) ≡ of p k + sum_of entries of blocks
sum_more entries of k blocks p is =
    sum_by-cons (by_params entries 0 of) k blocks
    ∙ ap (λ o. option_map_or (λ q. of q k) o 0 + sum_of entries of blocks) is

-- a count of a block, where its parameters are there
at_most_by : (of : Counter) → ((p : Params) (k : KeptBlock) → of p k ≤ most_sent k) → (k : KeptBlock) (o : Option Params) →
    option_map_or (λ p. of p k) o 0 ≤ most_sent k
at_most_by of few k None = omega arith
at_most_by of few k (Some p) = few p k

-- a sum of counts that are at most as many as messages may be sent
sum_few : (entries : Option (List Params)) (of : Counter) → ((p : Params) (k : KeptBlock) → of p k ≤ most_sent k) → (blocks : List KeptBlock) →
    sum_of entries of blocks ≤ 2 * item_count blocks + malformed_count blocks
sum_few entries of few [] = omega arith
sum_few entries of few (k ∷ blocks) =
    let all = sum_by-cons (by_params entries 0 of) k blocks in
    let items = sum_by-cons (λ (b : KeptBlock). length b.items) k blocks in
    let malformed = sum_by-cons (λ (b : KeptBlock). length b.malformed) k blocks in
    let one = at_most_by of few k (params_at entries k.params) in
    let rest = sum_few entries of few blocks in
    omega (arith, all, items, malformed, one, rest)

-- such a sum fits 64 bits
sum_fits : (sum blocks items malformed n : ℕ) → sum ≤ 2 * items + malformed → blocks + (items + malformed) ≤ n → n < 2 ^ 62 → sum < 2 ^ 64
sum_fits sum blocks items malformed n few parts short = omega (arith, few, parts, short)

-- no count before another
none_before : (n : ℕ) → 0 + n ≡ n
none_before n = omega arith

module _ (packets_of bare_of not_udp_of too_long_of : Counter) where
  -- the counts with a block more
  abbrev counts_more : Params → KeptBlock → ReadCounts → ReadCounts
  counts_more p k c =
      let counted = counts_with_block k c in
      record counted {
        packets = held_in_64 (c.packets + packets_of p k);
        bare = held_in_64 (c.bare + bare_of p k);
        not_udp = held_in_64 (c.not_udp + not_udp_of p k);
        too_long = held_in_64 (c.too_long + too_long_of p k);
      }

  -- the counts of blocks
  abbrev counts_of : Option (List Params) → List KeptBlock → ReadCounts
  counts_of entries blocks = record {
    blocks = length blocks;
    items = item_count blocks;
    malformed = malformed_count blocks;
    packets = sum_of entries packets_of blocks;
    bare = sum_of entries bare_of blocks;
    not_udp = sum_of entries not_udp_of blocks;
    too_long = sum_of entries too_long_of blocks;
  }

  -- these are the counts, and then those of some blocks
  record Totals (entries : Option (List Params)) (c total : ReadCounts) (more : List KeptBlock) : Type 0 where
    pub blocks : c.blocks + length more ≡ total.blocks
    pub items : c.items + item_count more ≡ total.items
    pub malformed : c.malformed + malformed_count more ≡ total.malformed
    pub packets : c.packets + sum_of entries packets_of more ≡ total.packets
    pub bare : c.bare + sum_of entries bare_of more ≡ total.bare
    pub not_udp : c.not_udp + sum_of entries not_udp_of more ≡ total.not_udp
    pub too_long : c.too_long + sum_of entries too_long_of more ≡ total.too_long

-- the counts fit 64 bits
record Few (total : ReadCounts) : Type 0 where
  pub blocks : total.blocks < 2 ^ 64
  pub items : total.items < 2 ^ 64
  pub malformed : total.malformed < 2 ^ 64
  pub packets : total.packets < 2 ^ 64
  pub bare : total.bare < 2 ^ 64
  pub not_udp : total.not_udp < 2 ^ 64
  pub too_long : total.too_long < 2 ^ 64

module _ (a b d e : Counter) (entries : Option (List Params)) (total : ReadCounts) (few : Few total) where
  totals_more : (c : ReadCounts) (k : KeptBlock) (blocks : List KeptBlock) (p : Params) → params_at entries k.params ≡ Some p →
      Totals a b d e entries c total (k ∷ blocks) → Totals a b d e entries (counts_more a b d e p k c) total blocks
  totals_more c k blocks p is t = record {
    blocks = grown c.blocks 1 (length blocks) (length (k ∷ blocks)) total.blocks (omega arith) t.blocks few.blocks;
    items = grown c.items (length k.items) (item_count blocks) (item_count (k ∷ blocks)) total.items
        (sum_by-cons (λ (b : KeptBlock). length b.items) k blocks) t.items few.items;
    malformed = grown c.malformed (length k.malformed) (malformed_count blocks) (malformed_count (k ∷ blocks)) total.malformed
        (sum_by-cons (λ (b : KeptBlock). length b.malformed) k blocks) t.malformed few.malformed;
    packets = grown c.packets (a p k) (sum_of entries a blocks) (sum_of entries a (k ∷ blocks)) total.packets
        (sum_more entries a k blocks p is) t.packets few.packets;
    bare = grown c.bare (b p k) (sum_of entries b blocks) (sum_of entries b (k ∷ blocks)) total.bare
        (sum_more entries b k blocks p is) t.bare few.bare;
    not_udp = grown c.not_udp (d p k) (sum_of entries d blocks) (sum_of entries d (k ∷ blocks)) total.not_udp
        (sum_more entries d k blocks p is) t.not_udp few.not_udp;
    too_long = grown c.too_long (e p k) (sum_of entries e blocks) (sum_of entries e (k ∷ blocks)) total.too_long
        (sum_more entries e k blocks p is) t.too_long few.too_long;
  }

  -- after no more blocks these are the counts
  totals_none : (c : ReadCounts) → Totals a b d e entries c total [] → c ≡ total
  totals_none c t = λ j. record {
    blocks = none_more c.blocks total.blocks t.blocks j;
    items = none_more c.items total.items t.items j;
    malformed = none_more c.malformed total.malformed t.malformed j;
    packets = none_more c.packets total.packets t.packets j;
    bare = none_more c.bare total.bare t.bare j;
    not_udp = none_more c.not_udp total.not_udp t.not_udp j;
    too_long = none_more c.too_long total.too_long t.too_long j;
  }

  -- what is counted of these blocks
  fold_counts : (r : Rendering ReadCounts) → ((p : Params) (k : KeptBlock) (c : ReadCounts) → r.counts_with p k c ≡ counts_more a b d e p k c) →
      (blocks : List KeptBlock) (so_far : Inspected ReadCounts) (c : ReadCounts) → so_far.counts ≡ c → AllByRecursion (HasParams entries) blocks →
      Totals a b d e entries c total blocks → (fold (inspected_more r entries) so_far blocks).counts ≡ total
  fold_counts r counts [] so_far c is all t = is ∙ totals_none c t
  fold_counts r counts (k ∷ blocks) so_far c is all t =
      let p = named entries k all.0 in
      let more : (inspected_more r entries so_far k).counts ≡ counts_more a b d e p.0 k c =
      ap (λ o. (with_block r k so_far o).counts) p.1 ∙ counts p.0 k so_far.counts ∙ ap (counts_more a b d e p.0 k) is in
      fold_counts r counts blocks (inspected_more r entries so_far k) (counts_more a b d e p.0 k c) more all.1 (totals_more c k blocks p.0 p.1 t)

module _ (a b d e : Counter) (a_few : (p : Params) (k : KeptBlock) → a p k ≤ most_sent k) (b_few : (p : Params) (k : KeptBlock) → b p k ≤ most_sent k)
    (d_few : (p : Params) (k : KeptBlock) → d p k ≤ most_sent k) (e_few : (p : Params) (k : KeptBlock) → e p k ≤ most_sent k) where
  -- the counts of blocks with few parts fit 64 bits
  counts_few : (entries : Option (List Params)) (blocks : List KeptBlock) (n : ℕ) → length blocks + (item_count blocks + malformed_count blocks) ≤ n →
      n < 2 ^ 62 → Few (counts_of a b d e entries blocks)
  counts_few entries blocks n parts short =
      let fits : (sum : ℕ) → sum ≤ 2 * item_count blocks + malformed_count blocks → sum < 2 ^ 64 =
      λ sum less. sum_fits sum (length blocks) (item_count blocks) (malformed_count blocks) n less parts short in
      record {
        blocks = omega (arith, parts, short);
        items = omega (arith, parts, short);
        malformed = omega (arith, parts, short);
        packets = fits (sum_of entries a blocks) (sum_few entries a a_few blocks);
        bare = fits (sum_of entries b blocks) (sum_few entries b b_few blocks);
        not_udp = fits (sum_of entries d blocks) (sum_few entries d d_few blocks);
        too_long = fits (sum_of entries e blocks) (sum_few entries e e_few blocks);
      }

  -- no count, and then those of blocks
  totals_first : (entries : Option (List Params)) (blocks : List KeptBlock) → Totals a b d e entries no_read_counts (counts_of a b d e entries blocks) blocks
  totals_first entries blocks = record {
    blocks = none_before (length blocks);
    items = none_before (item_count blocks);
    malformed = none_before (malformed_count blocks);
    packets = none_before (sum_of entries a blocks);
    bare = none_before (sum_of entries b blocks);
    not_udp = none_before (sum_of entries d blocks);
    too_long = none_before (sum_of entries e blocks);
  }

  -- what is counted of few blocks, whose parameters are there
  counts_told : (r : Rendering ReadCounts) → ((p : Params) (k : KeptBlock) (c : ReadCounts) → r.counts_with p k c ≡ counts_more a b d e p k c) →
      r.no_counts ≡ no_read_counts → (entries : Option (List Params)) (blocks : List KeptBlock) (n : ℕ) → AllByRecursion (HasParams entries) blocks →
      length blocks + (item_count blocks + malformed_count blocks) ≤ n → n < 2 ^ 62 →
      (inspected r entries blocks).counts ≡ counts_of a b d e entries blocks
  unfolding inspected
  counts_told r counts none entries blocks n all parts short =
      fold_counts a b d e entries (counts_of a b d e entries blocks) (counts_few entries blocks n parts short) r counts blocks
      (inspected_none r) no_read_counts none all (totals_first entries blocks)

pub rebuilt_counts_told : RebuiltCountsAreTold
rebuilt_counts_told bytes short =
    counts_told packet_count (λ params. bare_count) (λ params. not_udp_count) (λ params. too_long_count params.ticks)
    (λ p. packets_few p.ticks) (λ p. bare_few) (λ p. not_udp_few) (λ p. too_long_few p.ticks)
    rebuilding (λ p k c. refl) refl (kept_file bytes).params (kept_file bytes).blocks (length bytes) (blocks_have_params bytes) (parts_have_bytes bytes) short
