-- A block with its items (RFC 8618 7.3.2).
use Rattle.std.specs.Prelude.{ℕ, List, [], ◌∷◌, map, Option, Some}
use Rattle.std.specs.Option.{option_map}
use Rattle.cd_cbor.specs.declared.item.Item.{Item}
use Rattle.cd_cbor.specs.Items.{unsigned}
use Rattle.cd_cbor.specs.Integers.{signed}
use Rattle.cd_file.specs.Maps.{map_of, optional_map, optional_array, number, numbers}
use Rattle.cd_file.specs.Tables.{tables_item}
use Rattle.cd_block.specs.declared.block.Block.{Block}
use Rattle.cd_block.specs.declared.block.BlockItem.{BlockItem}
use Rattle.cd_block.specs.declared.block.BlockLists.{BlockLists}
use Rattle.cd_block.specs.declared.block.BlockMalformed.{BlockMalformed}
use Rattle.cd_block.specs.declared.stamp.Stamp.{Stamp}
use Rattle.cd_block.specs.declared.stats.Stats.{Stats}
use Rattle.cd_block.specs.declared.keys.TheConstants as key

-- a time: its seconds and its ticks (RFC 8618 7.3.2.1)
abbrev pub stamp_item : Stamp → Item
stamp_item s = numbers (s.seconds ∷ s.ticks ∷ [])

-- the preamble of a block, without an index of its block parameters, which is then 0 (RFC 8618 7.3.2.1)
abbrev pub block_preamble_item : Option Stamp → Item
block_preamble_item earliest = map_of (
    (key.BLOCK_PREAMBLE_EARLIEST_TIME, option_map stamp_item earliest)
    ∷ [])

-- block statistics (RFC 8618 7.3.2.2)
abbrev pub statistics_item : Stats → Item
statistics_item s = map_of (
    (key.STATISTICS_PROCESSED, Some (unsigned s.processed))
    ∷ (key.STATISTICS_ITEMS, Some (unsigned s.items))
    ∷ (key.STATISTICS_UNMATCHED_QUERIES, Some (unsigned s.unmatched_queries))
    ∷ (key.STATISTICS_UNMATCHED_RESPONSES, Some (unsigned s.unmatched_responses))
    ∷ (key.STATISTICS_DISCARDED, Some (unsigned s.discarded))
    ∷ (key.STATISTICS_MALFORMED, Some (unsigned s.malformed))
    ∷ [])

-- the lists of the extended part of a query or a response (RFC 8618 7.3.2.4.2)
abbrev pub extended_entries : BlockLists → List (ℕ × Option Item)
extended_entries l =
    (key.EXTENDED_QUESTION, number l.question)
    ∷ (key.EXTENDED_ANSWER, number l.answer)
    ∷ (key.EXTENDED_AUTHORITY, number l.authority)
    ∷ (key.EXTENDED_ADDITIONAL, number l.additional)
    ∷ []

-- the extended part of a query or a response, absent where it has no list (RFC 8618 7.3.2.4.2)
abbrev pub extended_item : BlockLists → Option Item
extended_item l = optional_map (extended_entries l)

-- a query-response item (RFC 8618 7.3.2.4)
abbrev pub query_response_item : BlockItem → Item
query_response_item i = map_of (
    (key.ITEM_TIME_OFFSET, number i.time_offset)
    ∷ (key.ITEM_CLIENT_ADDRESS, number i.client_address)
    ∷ (key.ITEM_CLIENT_PORT, number i.client_port)
    ∷ (key.ITEM_TRANSACTION_ID, number i.transaction_id)
    ∷ (key.ITEM_SIGNATURE, number i.signature)
    ∷ (key.ITEM_CLIENT_HOPLIMIT, number i.client_hoplimit)
    ∷ (key.ITEM_RESPONSE_DELAY, option_map signed i.response_delay)
    ∷ (key.ITEM_QUERY_NAME, number i.query_name)
    ∷ (key.ITEM_QUERY_SIZE, number i.query_size)
    ∷ (key.ITEM_RESPONSE_SIZE, number i.response_size)
    ∷ (key.ITEM_QUERY_EXTENDED, extended_item i.query_extended)
    ∷ (key.ITEM_RESPONSE_EXTENDED, extended_item i.response_extended)
    ∷ [])

-- a malformed message (RFC 8618 7.3.2.6)
abbrev pub malformed_item : BlockMalformed → Item
malformed_item m = map_of (
    (key.MALFORMED_TIME_OFFSET, number m.time_offset)
    ∷ (key.MALFORMED_CLIENT_ADDRESS, number m.client_address)
    ∷ (key.MALFORMED_CLIENT_PORT, number m.client_port)
    ∷ (key.MALFORMED_MESSAGE_DATA, number m.message_data)
    ∷ [])

-- a block; its statistics, tables, items and malformed messages are absent where there are none (RFC 8618 7.3.2)
abbrev pub block_item : Block → Item
block_item b = map_of (
    (key.BLOCK_PREAMBLE, Some (block_preamble_item b.earliest))
    ∷ (key.BLOCK_STATISTICS, option_map statistics_item b.stats)
    ∷ (key.BLOCK_TABLES, tables_item b)
    ∷ (key.BLOCK_ITEMS, optional_array (map query_response_item b.items))
    ∷ (key.BLOCK_MALFORMED, optional_array (map malformed_item b.malformed))
    ∷ [])
