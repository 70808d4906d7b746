-- A block that is written is read back.
use Rattle.std.proofs.Common.{◌≡◌, ℕ, suc, Some, Ok, refl, ap, sym, arith}
use Rattle.std.specs.Prelude.{IfSome}
use Rattle.cd_cbor.specs.Integers.{signed}
use Rattle.cd_cbor.specs.Fitting.{Fits}
use Rattle.cd_block.specs.declared.block.Block.{Block}
use Rattle.cd_block.specs.declared.block.BlockItem.{BlockItem}
use Rattle.cd_block.specs.declared.block.BlockLists.{BlockLists}
use Rattle.cd_block.specs.declared.block.BlockMalformed.{BlockMalformed}
use Rattle.cd_block.specs.declared.stats.Stats.{Stats}
use Rattle.cd_file.specs.Kinds.{unsigned as unsigned_kind, signed as signed_kind, stamp}
use Rattle.cd_file.specs.MapReading.{value_read, line_of, map_from}
use Rattle.cd_file.specs.ReadTables.{tables_table}
use Rattle.cd_file.specs.ReadBlock.{block_preamble_table, statistics_table, no_statistics, extended_table, no_lists, item_table, no_item, malformed_table, no_malformed, block_table, no_block, read_block}
use Rattle.cd_file.specs.Tables.{table_entries}
use Rattle.cd_file.specs.Blocks.{stamp_item, block_preamble_item, statistics_item, extended_entries, query_response_item, malformed_item, block_item}
use Rattle.cd_file.specs.Readable.{IsSigned, ReadableStamp, ReadableStats, ReadableLists, ReadableItem, ReadableMalformed, ReadableBlock}
use Rattle.cd_file.proofs.ValuesReadBack.{IsShort, ReadsBack, number_back, signed_back, stamp_back, all_by}
use Rattle.cd_file.proofs.MapsReadBack.{PutsAll, puts_none, puts_more, puts_value, puts_option, puts_index, puts_below, puts_array, puts_map, MapReadsBack, map_parts, map_back, said}
use Rattle.cd_file.proofs.TablesReadBack.{begun, with_tables, tables_put}

-- the preamble of a block
preamble_back : (depth : ℕ) (b : Block) → IfSome b.earliest ReadableStamp →
    ReadsBack (map_from block_preamble_table no_block) (suc (suc depth)) (block_preamble_item b.earliest) (record no_block { earliest = b.earliest })
unfolding value_read line_of
preamble_back depth b r =
    map_back block_preamble_table (suc depth) _ no_block _ refl refl
    (puts_more
    (puts_option stamp_item b.earliest (λ o f. record f { earliest = o }) refl
    (λ s is. puts_value stamp s (λ x f. record f { earliest = Some x }) (stamp_back depth s (said ReadableStamp b.earliest s r is)) (λ e. rw e refl)))
    (puts_none refl))

-- statistics
statistics_back : (depth : ℕ) (s : Stats) → ReadableStats s → ReadsBack (map_from statistics_table no_statistics) (suc depth) (statistics_item s) s
unfolding value_read line_of
statistics_back depth s r =
    map_back statistics_table depth _ no_statistics s refl refl
    (puts_more (puts_value unsigned_kind s.processed (λ n f. record f { processed = n }) (number_back depth s.processed r.processed) (λ e. rw e refl))
    (puts_more (puts_value unsigned_kind s.items (λ n f. record f { items = n }) (number_back depth s.items r.items) (λ e. rw e refl))
    (puts_more
    (puts_value unsigned_kind s.unmatched_queries (λ n f. record f { unmatched_queries = n }) (number_back depth s.unmatched_queries r.unmatched_queries) (λ e. rw e refl))
    (puts_more
    (puts_value unsigned_kind s.unmatched_responses (λ n f. record f { unmatched_responses = n }) (number_back depth s.unmatched_responses r.unmatched_responses)
    (λ e. rw e refl))
    (puts_more (puts_value unsigned_kind s.discarded (λ n f. record f { discarded = n }) (number_back depth s.discarded r.discarded) (λ e. rw e refl))
    (puts_more (puts_value unsigned_kind s.malformed (λ n f. record f { malformed = n }) (number_back depth s.malformed r.malformed) (λ e. rw e refl))
    (puts_none refl)))))))

-- the lists of an extended part
lists_put : (depth : ℕ) (l : BlockLists) → ReadableLists l → PutsAll extended_table depth (extended_entries l) no_lists l
unfolding value_read line_of
lists_put depth l r =
    puts_more (puts_index l.question (λ o f. record f { question = o }) r.question refl (λ n e. rw e refl))
    (puts_more (puts_index l.answer (λ o f. record f { answer = o }) r.answer refl (λ n e. rw e refl))
    (puts_more (puts_index l.authority (λ o f. record f { authority = o }) r.authority refl (λ n e. rw e refl))
    (puts_more (puts_index l.additional (λ o f. record f { additional = o }) r.additional refl (λ n e. rw e refl))
    (puts_none refl))))

-- an item
item_back : (depth : ℕ) (i : BlockItem) → ReadableItem i → ReadsBack (map_from item_table no_item) (suc (suc depth)) (query_response_item i) i
unfolding value_read line_of
item_back depth i r =
    map_back item_table (suc depth) _ no_item i refl refl
    (puts_more (puts_index i.time_offset (λ o f. record f { time_offset = o }) r.time_offset refl (λ n e. rw e refl))
    (puts_more (puts_index i.client_address (λ o f. record f { client_address = o }) r.client_address refl (λ n e. rw e refl))
    (puts_more (puts_below 0x1_0000 i.client_port (λ o f. record f { client_port = o }) (omega arith) r.ranges.client_port refl (λ n e. rw e refl))
    (puts_more (puts_below 0x1_0000 i.transaction_id (λ o f. record f { transaction_id = o }) (omega arith) r.ranges.transaction_id refl (λ n e. rw e refl))
    (puts_more (puts_index i.signature (λ o f. record f { signature = o }) r.signature refl (λ n e. rw e refl))
    (puts_more (puts_below 0x100 i.client_hoplimit (λ o f. record f { client_hoplimit = o }) (omega arith) r.ranges.client_hoplimit refl (λ n e. rw e refl))
    (puts_more
    (puts_option signed i.response_delay (λ o f. record f { response_delay = o }) refl
    (λ z is. puts_value signed_kind z (λ x f. record f { response_delay = Some x }) (signed_back (suc depth) z (said IsSigned i.response_delay z r.response_delay is)) (λ e. rw e refl)))
    (puts_more (puts_index i.query_name (λ o f. record f { query_name = o }) r.query_name refl (λ n e. rw e refl))
    (puts_more (puts_index i.query_size (λ o f. record f { query_size = o }) r.query_size refl (λ n e. rw e refl))
    (puts_more (puts_index i.response_size (λ o f. record f { response_size = o }) r.response_size refl (λ n e. rw e refl))
    (puts_more
    (puts_map extended_table (extended_entries i.query_extended) no_lists i.query_extended (λ l f. record f { query_extended = l }) refl refl
    (lists_put depth i.query_extended r.query_extended) refl (λ e. rw e refl))
    (puts_more
    (puts_map extended_table (extended_entries i.response_extended) no_lists i.response_extended (λ l f. record f { response_extended = l }) refl refl
    (lists_put depth i.response_extended r.response_extended) refl (λ e. rw e refl))
    (puts_none refl)))))))))))))

-- a malformed message
malformed_back : (depth : ℕ) (m : BlockMalformed) → ReadableMalformed m → ReadsBack (map_from malformed_table no_malformed) (suc depth) (malformed_item m) m
unfolding value_read line_of
malformed_back depth m r =
    map_back malformed_table depth _ no_malformed m refl refl
    (puts_more (puts_index m.time_offset (λ o f. record f { time_offset = o }) r.time_offset refl (λ n e. rw e refl))
    (puts_more (puts_index m.client_address (λ o f. record f { client_address = o }) r.client_address refl (λ n e. rw e refl))
    (puts_more (puts_below 0x1_0000 m.client_port (λ o f. record f { client_port = o }) (omega arith) r.ranges.client_port refl (λ n e. rw e refl))
    (puts_more (puts_index m.message_data (λ o f. record f { message_data = o }) r.message_data refl (λ n e. rw e refl))
    (puts_none refl)))))

-- the pairs of a block
block_parts : (depth : ℕ) (b : Block) → ReadableBlock b →
    MapReadsBack block_table no_block (suc (suc (suc (suc depth)))) (block_item b) (record b { params = 0 })
unfolding value_read line_of
block_parts depth b r =
    map_parts block_table (suc (suc (suc depth))) _ no_block _ refl refl
    (puts_more
    (puts_value (map_from block_preamble_table no_block) (record no_block { earliest = b.earliest }) (λ x f. x) (preamble_back (suc depth) b r.earliest) (λ e. e))
    (puts_more
    (puts_option statistics_item b.stats (λ o f. record f { stats = o }) refl
    (λ s is. puts_value (map_from statistics_table no_statistics) s (λ x f. record f { stats = Some x })
    (statistics_back (suc (suc depth)) s (said ReadableStats b.stats s r.stats is)) (λ e. rw e refl)))
    (puts_more
    (puts_map tables_table (table_entries b) (begun b) (with_tables b) (λ x f. x) refl refl (tables_put depth b r.tables) refl (λ e. e))
    (puts_more
    (puts_array (map_from item_table no_item) query_response_item b.items (λ xs f. record f { items = xs })
    (all_by _ _ (item_back depth) b.items r.items) refl (λ e. rw e refl))
    (puts_more
    (puts_array (map_from malformed_table no_malformed) malformed_item b.malformed (λ xs f. record f { malformed = xs })
    (all_by _ _ (malformed_back (suc depth)) b.malformed r.malformed) refl (λ e. rw e refl))
    (puts_none refl))))))

-- a block without the index of its block parameters is one of the first
of_the_first : (b : Block) → b.params ≡ 0 → record b { params = 0 } ≡ b
of_the_first b first = ap (λ n. record b { params = n }) (sym first)

-- a block
pub block_read : (b : Block) → ReadableBlock b → read_block (block_item b) ≡ Ok b
unfolding read_block
block_read b r = let m = block_parts 0 b r in rw (m.are, m.fields) (ap Ok (of_the_first b r.params))

-- its bytes are those of an item in which at most four maps and arrays are open
pub block_fits : (depth : ℕ) (b : Block) → ReadableBlock b → IsShort (block_item b) → Fits (suc (suc (suc (suc depth)))) (block_item b)
block_fits depth b r = (block_parts depth b r).fits
