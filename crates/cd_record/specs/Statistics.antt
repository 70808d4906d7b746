-- What a run counts (RFC 8618 7.3.2.2).
use Rattle.std.specs.Prelude.{ℕ, Bool, true, false, List}
use Rattle.std.specs.List.{sum_by, count_by}
use Rattle.cd_block.specs.declared.stats.Stats.{Stats}
use Rattle.cd_hints.specs.Records.{RecordParts, pair, unmatched_query, unmatched_response, malformed, discarded, is_item, is_malformed}

-- the well-formed messages of a record: two of a pair, one of a query, a response or a discarded message, none of a malformed one
abbrev pub processed_messages : RecordParts → ℕ
processed_messages (pair query response) = 2
processed_messages (unmatched_query e) = 1
processed_messages (unmatched_response e) = 1
processed_messages (malformed e) = 0
processed_messages (discarded e) = 1

-- whether a record is a query with no response
abbrev pub is_unmatched_query : RecordParts → Bool
is_unmatched_query (pair query response) = false
is_unmatched_query (unmatched_query e) = true
is_unmatched_query (unmatched_response e) = false
is_unmatched_query (malformed e) = false
is_unmatched_query (discarded e) = false

-- whether a record is a response with no query
abbrev pub is_unmatched_response : RecordParts → Bool
is_unmatched_response (pair query response) = false
is_unmatched_response (unmatched_query e) = false
is_unmatched_response (unmatched_response e) = true
is_unmatched_response (malformed e) = false
is_unmatched_response (discarded e) = false

-- whether a record is a message whose opcode is not listed
abbrev pub is_discarded : RecordParts → Bool
is_discarded (pair query response) = false
is_discarded (unmatched_query e) = false
is_discarded (unmatched_response e) = false
is_discarded (malformed e) = false
is_discarded (discarded e) = true

-- the statistics of a run
abbrev pub statistics : List RecordParts → Stats
statistics run = record {
  processed = sum_by processed_messages run;
  items = count_by is_item run;
  unmatched_queries = count_by is_unmatched_query run;
  unmatched_responses = count_by is_unmatched_response run;
  discarded = count_by is_discarded run;
  malformed = count_by is_malformed run;
}
