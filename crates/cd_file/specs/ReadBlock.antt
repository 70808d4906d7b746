-- What a block gives, or the first refusal (RFC 8618 7.3.2). Each kind of map has one table here, with a line a key: whether
-- it is required, its kind, and its place.
use Rattle.std.specs.Prelude.{List, [], ◌∷◌, None, Some, ok_or}
use Rattle.cd_cbor.specs.declared.item.Item.{Item}
use Rattle.cd_cbor.specs.declared.item.Item.TheViews.{out-Item}
use Rattle.cd_block.specs.declared.block.Block.{Block}
use Rattle.cd_block.specs.declared.block.BlockItem.{BlockItem}
use Rattle.cd_block.specs.declared.block.BlockLists.{BlockLists}
use Rattle.cd_block.specs.declared.block.BlockMalformed.{BlockMalformed}
use Rattle.cd_block.specs.declared.stats.Stats.{Stats}
use Rattle.cd_block.specs.declared.keys.TheConstants as key
use Rattle.cd_file.specs.declared.refusal.FileWhy.TheVariants.{NotMap}
use Rattle.cd_file.specs.Refusing.{Refusing, ◌>>=◌}
use Rattle.cd_file.specs.Kinds.{unsigned, unsigned_if_below, signed, stamp, array_of, pairs_in}
use Rattle.cd_file.specs.MapReading.{Line, optional, required_within, optional_within, map_from, fields_of}
use Rattle.cd_file.specs.ReadTables.{tables_table}

-- the keys of the preamble of a block; block parameters without an index are the first (RFC 8618 7.3.2.1)
abbrev pub block_preamble_table : List (Line Block)
block_preamble_table =
    optional key.BLOCK_PREAMBLE_EARLIEST_TIME stamp (λ s b. record b { earliest = Some s })
    ∷ optional key.BLOCK_PREAMBLE_PARAMETERS_INDEX unsigned (λ n b. record b { params = n })
    ∷ []

-- the keys of block statistics (RFC 8618 7.3.2.2)
abbrev pub statistics_table : List (Line Stats)
statistics_table =
    optional key.STATISTICS_PROCESSED unsigned (λ n s. record s { processed = n })
    ∷ optional key.STATISTICS_ITEMS unsigned (λ n s. record s { items = n })
    ∷ optional key.STATISTICS_UNMATCHED_QUERIES unsigned (λ n s. record s { unmatched_queries = n })
    ∷ optional key.STATISTICS_UNMATCHED_RESPONSES unsigned (λ n s. record s { unmatched_responses = n })
    ∷ optional key.STATISTICS_DISCARDED unsigned (λ n s. record s { discarded = n })
    ∷ optional key.STATISTICS_MALFORMED unsigned (λ n s. record s { malformed = n })
    ∷ []

-- block statistics before their first entry: one that is not there is 0
abbrev pub no_statistics : Stats
no_statistics = record {
  processed = 0;
  items = 0;
  unmatched_queries = 0;
  unmatched_responses = 0;
  discarded = 0;
  malformed = 0;
}

-- the keys of the extended part of a query or a response (RFC 8618 7.3.2.4.2)
abbrev pub extended_table : List (Line BlockLists)
extended_table =
    optional key.EXTENDED_QUESTION unsigned (λ n l. record l { question = Some n })
    ∷ optional key.EXTENDED_ANSWER unsigned (λ n l. record l { answer = Some n })
    ∷ optional key.EXTENDED_AUTHORITY unsigned (λ n l. record l { authority = Some n })
    ∷ optional key.EXTENDED_ADDITIONAL unsigned (λ n l. record l { additional = Some n })
    ∷ []

-- an extended part without lists, which is absent
abbrev pub no_lists : BlockLists
no_lists = record { question = None; answer = None; authority = None; additional = None }

-- the keys of a query-response item (RFC 8618 7.3.2.4); here a port, an identifier or a hop limit beyond its range is absent
abbrev pub item_table : List (Line BlockItem)
item_table =
    optional key.ITEM_TIME_OFFSET unsigned (λ n i. record i { time_offset = Some n })
    ∷ optional key.ITEM_CLIENT_ADDRESS unsigned (λ n i. record i { client_address = Some n })
    ∷ optional key.ITEM_CLIENT_PORT (unsigned_if_below 0x1_0000) (λ n i. record i { client_port = n })
    ∷ optional key.ITEM_TRANSACTION_ID (unsigned_if_below 0x1_0000) (λ n i. record i { transaction_id = n })
    ∷ optional key.ITEM_SIGNATURE unsigned (λ n i. record i { signature = Some n })
    ∷ optional key.ITEM_CLIENT_HOPLIMIT (unsigned_if_below 0x100) (λ n i. record i { client_hoplimit = n })
    ∷ optional key.ITEM_RESPONSE_DELAY signed (λ z i. record i { response_delay = Some z })
    ∷ optional key.ITEM_QUERY_NAME unsigned (λ n i. record i { query_name = Some n })
    ∷ optional key.ITEM_QUERY_SIZE unsigned (λ n i. record i { query_size = Some n })
    ∷ optional key.ITEM_RESPONSE_SIZE unsigned (λ n i. record i { response_size = Some n })
    ∷ optional key.ITEM_QUERY_EXTENDED (map_from extended_table no_lists) (λ l i. record i { query_extended = l })
    ∷ optional key.ITEM_RESPONSE_EXTENDED (map_from extended_table no_lists) (λ l i. record i { response_extended = l })
    ∷ []

-- an item without fields
abbrev pub no_item : BlockItem
no_item = record {
  time_offset = None;
  client_address = None;
  client_port = None;
  transaction_id = None;
  signature = None;
  client_hoplimit = None;
  response_delay = None;
  query_name = None;
  query_size = None;
  response_size = None;
  query_extended = no_lists;
  response_extended = no_lists;
}

-- the keys of a malformed message (RFC 8618 7.3.2.6); here a port beyond its range is absent
abbrev pub malformed_table : List (Line BlockMalformed)
malformed_table =
    optional key.MALFORMED_TIME_OFFSET unsigned (λ n m. record m { time_offset = Some n })
    ∷ optional key.MALFORMED_CLIENT_ADDRESS unsigned (λ n m. record m { client_address = Some n })
    ∷ optional key.MALFORMED_CLIENT_PORT (unsigned_if_below 0x1_0000) (λ n m. record m { client_port = n })
    ∷ optional key.MALFORMED_MESSAGE_DATA unsigned (λ n m. record m { message_data = Some n })
    ∷ []

-- a malformed message without fields
abbrev pub no_malformed : BlockMalformed
no_malformed = record { time_offset = None; client_address = None; client_port = None; message_data = None }

-- the keys of a block (RFC 8618 7.3.2)
abbrev pub block_table : List (Line Block)
block_table =
    required_within key.BLOCK_PREAMBLE block_preamble_table
    ∷ optional key.BLOCK_STATISTICS (map_from statistics_table no_statistics) (λ s b. record b { stats = Some s })
    ∷ optional_within key.BLOCK_TABLES tables_table
    ∷ optional key.BLOCK_ITEMS (array_of (map_from item_table no_item)) (λ xs b. record b { items = xs })
    ∷ optional key.BLOCK_MALFORMED (array_of (map_from malformed_table no_malformed))
    (λ xs b. record b { malformed = xs })
    ∷ []

-- a block before its first entry
abbrev pub no_block : Block
no_block = record {
  earliest = None;
  params = 0;
  stats = None;
  items = [];
  malformed = [];
  ip_address = [];
  classtype = [];
  name_rdata = [];
  qr_sig = [];
  qlist = [];
  qrr = [];
  rrlist = [];
  rr = [];
  malformed_message_data = [];
}

-- the block that this item is, or the first refusal (RFC 8618 7.3.2)
unfoldable pub read_block : Item → Refusing Block
read_block item = do
  pairs ← ok_or (pairs_in (out-Item item)) NotMap
  fields_of block_table no_block pairs
