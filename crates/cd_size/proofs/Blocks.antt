-- A kept block takes at most 205 bytes, and the costs of its items and of its malformed messages.
use Rattle.std.proofs.Common.{◌≡◌, ℕ, ◌+◌, ◌≤◌, true, nat_lt, List, [], ◌∷◌, length, map, Option, refl, arith}
use Rattle.std.specs.List.{flat_map, sum_by}
use Rattle.std.proofs.lemmas.List.Sums.{sum_by-cons}
use Rattle.cd_cbor.specs.declared.item.Item.{Item}
use Rattle.cd_cbor.specs.Items.{bytes, unsigned}
use Rattle.cd_file.specs.Maps.{numbers, optional_array, entry_spelling, entries_spelling}
use Rattle.cd_file.specs.Tables.{classtype_item, signature_item, question_item, rr_item, malformed_data_item, table_entries}
use Rattle.cd_file.specs.Blocks.{stamp_item, block_preamble_item, statistics_item, query_response_item, malformed_item}
use Rattle.cd_file.specs.Files.{block_spelling}
use Rattle.cd_file.proofs.Sizes.{map_short, entries_more, entries_end, entry_short}
use Rattle.cd_file.proofs.MapSizes.{statistics_short}
use Rattle.cd_block.specs.declared.kept.KeptBlock.{KeptBlock}
use Rattle.cd_block.specs.declared.kept.KeptItem.{KeptItem}
use Rattle.cd_block.specs.declared.kept.KeptMalformed.{KeptMalformed}
use Rattle.cd_block.specs.declared.stamp.Stamp.{Stamp}
use Rattle.cd_block.specs.Tables.{KeptTables, tables_of, question_index, record_index, indexed_signature, indexed_question, indexed_record, indexed_data, indexed_item, indexed_malformed, indexed_in}
use Rattle.cd_block.specs.Traversal.{Visited, visited, visited_item, visited_malformed}
use Rattle.cd_size.specs.Costs.{size, value_size, item_cost, malformed_cost}
use Rattle.cd_size.specs.Laws.{KeptBlocksAreShort}
use Rattle.cd_size.proofs.Totals.{total, sum_is_total, total_append, total_flat_map, total_map}
use Rattle.cd_size.proofs.Arrays.{array_short, numbers_total, entry_there, optional_array_short, optional_map_short}
use Rattle.cd_size.proofs.Visits.{tables_size, tables_within}

-- an earliest time
stamp_short : (s : Stamp) → size (stamp_item s) ≤ 27
stamp_short s =
    omega (arith, array_short unsigned (s.seconds ∷ s.ticks ∷ []), numbers_total (s.seconds ∷ s.ticks ∷ []))

-- the preamble of a block
preamble_short : (earliest : Option Stamp) → size (block_preamble_item earliest) ≤ 29
preamble_short earliest =
    map_short _ 28 (omega arith)
    (entries_more _ _ _ 28 0 (entry_short stamp_item _ 27 earliest refl stamp_short) entries_end)

-- an array of what is made of some values
optional_array_of : {X Y : Type 0} (f : Y → Item) (g : X → Y) (key : ℕ) (xs : List X) → nat_lt key 24 ≡ true →
    length (entry_spelling key (optional_array (map f (map g xs)))) ≤ 10 + total (λ x. size (f (g x))) xs
optional_array_of f g key xs small =
    omega (arith, optional_array_short f key (map g xs) small, total_map (λ y. size (f y)) g xs)

-- the tables of a block
tables_short : (t : KeptTables) (b : KeptBlock) →
    length (entries_spelling (table_entries (indexed_in t b))) ≤ 90 + tables_size t t
unfolding indexed_in
tables_short t b =
    let lengths = entries_more _ _ _ _ _ (optional_array_short bytes 0 t.ip_address refl)
    (entries_more _ _ _ _ _ (optional_array_short classtype_item 1 t.classtype refl)
    (entries_more _ _ _ _ _ (optional_array_short bytes 2 t.name_rdata refl)
    (entries_more _ _ _ _ _ (optional_array_of signature_item (indexed_signature t) 3 t.qr_sig refl)
    (entries_more _ _ _ _ _ (optional_array_of numbers (map (question_index t)) 4 t.qlist refl)
    (entries_more _ _ _ _ _ (optional_array_of question_item (indexed_question t) 5 t.qrr refl)
    (entries_more _ _ _ _ _ (optional_array_of numbers (map (record_index t)) 6 t.rrlist refl)
    (entries_more _ _ _ _ _ (optional_array_of rr_item (indexed_record t) 7 t.rr refl)
    (entries_more _ _ _ _ _ (optional_array_of malformed_data_item
    (indexed_data t) 8 t.malformed_message_data refl) entries_end)))))))) in
    omega (arith, lengths)

-- a block with some tables
block_within : (t : KeptTables) (b : KeptBlock) → length (block_spelling (indexed_in t b)) ≤
    205 + (tables_size t t + (total (λ i. size (query_response_item (indexed_item t i))) b.items
    + total (λ m. size (malformed_item (indexed_malformed t m))) b.malformed))
unfolding block_spelling indexed_in
block_within t b =
    let lengths =
    entries_more _ _ _ _ _ (entry_there 0 29 (block_preamble_item b.earliest) refl (preamble_short b.earliest))
    (entries_more _ _ _ _ _ (entry_short statistics_item 1 61 b.stats refl statistics_short)
    (entries_more _ _ _ _ _ (optional_map_short 2 _ (table_entries (indexed_in t b)) refl (omega arith)
    (tables_short t b))
    (entries_more _ _ _ _ _ (optional_array_of query_response_item (indexed_item t) 3 b.items refl)
    (entries_more _ _ _ _ _ (optional_array_of malformed_item
    (indexed_malformed t) 5 b.malformed refl) entries_end)))) in
    let whole = map_short _ _ (omega arith) lengths in omega (arith, whole)

-- the values of a block are those of its items and of its malformed messages
pub visits_of_block : (f : Visited → ℕ) (b : KeptBlock) →
    total f (visited b) ≡ total (λ i. total f (visited_item i)) b.items
    + total (λ m. total f (visited_malformed m)) b.malformed
unfolding visited
visits_of_block f b =
    omega (
      arith,
      total_append f (flat_map visited_item b.items) (flat_map visited_malformed b.malformed),
      total_flat_map f visited_item b.items,
      total_flat_map f visited_malformed b.malformed,
    )

-- the cost of each value is its own bytes and those of what it uses
costs_in_turn : {X : Type 0} (own : X → ℕ) (f : Visited → ℕ) (uses : X → List Visited) (xs : List X) →
    sum_by (λ x. own x + sum_by f (uses x)) xs ≡ total own xs + total (λ x. total f (uses x)) xs
costs_in_turn own f uses [] = refl
costs_in_turn own f uses (x ∷ xs) =
    omega (
      arith,
      sum_by-cons (λ y. own y + sum_by f (uses y)) x xs,
      sum_is_total f (uses x),
      costs_in_turn own f uses xs,
    )

-- what items cost
pub items_in_turn : (t : KeptTables) (items : List KeptItem) → sum_by (item_cost t) items ≡
    total (λ i. size (query_response_item (indexed_item t i))) items
    + total (λ i. total (value_size t) (visited_item i)) items
items_in_turn t items = costs_in_turn (λ i. size (query_response_item (indexed_item t i)))
    (value_size t) visited_item items

-- what malformed messages cost
pub malformed_in_turn : (t : KeptTables) (ms : List KeptMalformed) → sum_by (malformed_cost t) ms ≡
    total (λ m. size (malformed_item (indexed_malformed t m))) ms
    + total (λ m. total (value_size t) (visited_malformed m)) ms
malformed_in_turn t ms = costs_in_turn (λ m. size (malformed_item (indexed_malformed t m)))
    (value_size t) visited_malformed ms

-- a kept block with tables that take no more than what it uses
block_costs : (t : KeptTables) (b : KeptBlock) → tables_size t t ≤ total (value_size t) (visited b) →
    length (block_spelling (indexed_in t b)) ≤ 205
    + (sum_by (item_cost t) b.items + sum_by (malformed_cost t) b.malformed)
block_costs t b within =
    omega (
      arith,
      block_within t b,
      within,
      visits_of_block (value_size t) b,
      items_in_turn t b.items,
      malformed_in_turn t b.malformed,
    )

-- a kept block with its own tables
pub kept_blocks_short : KeptBlocksAreShort
kept_blocks_short b = block_costs (tables_of (visited b)) b (tables_within (tables_of (visited b)) (visited b))
