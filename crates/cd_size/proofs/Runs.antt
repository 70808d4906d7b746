-- The block of a run takes at most the weight of the run and 1,024 bytes.
use Rattle.std.proofs.Common.{◌+◌, ◌≤◌, Bool, true, false, List, [], ◌∷◌, map, Option, Some, None, arith}
use Rattle.std.specs.Prelude.{if◌then◌else◌}
use Rattle.std.specs.Option.{option_map_or}
use Rattle.std.specs.List.{All, filter, sum_by}
use Rattle.std.proofs.lemmas.List.Elements.{All-head, All-tail}
use Rattle.cd_file.specs.Ranges.{MalformedInRange, DataInRange, string_length}
use Rattle.cd_file.proofs.MapSizes.{malformed_short, malformed_data_short}
use Rattle.cd_block.specs.declared.hints.TheConstants as hint
use Rattle.cd_block.specs.declared.params.Params.{Params}
use Rattle.cd_block.specs.declared.stamp.Stamp.{Stamp}
use Rattle.cd_block.specs.Tables.{KeptTables, tables_of, indexed_malformed, indexed_data}
use Rattle.cd_block.specs.Traversal.{where_present, visited, visited_address, visited_data, visited_malformed}
use Rattle.cd_ident.specs.Events.{EventParts}
use Rattle.cd_ident.specs.declared.event.Body.{Body}
use Rattle.cd_ident.specs.declared.event.Body.TheVariants.{Message, Payload, Nothing}
use Rattle.cd_hints.specs.Addresses.{client_address, server_address, client_prefix, server_prefix}
use Rattle.cd_hints.specs.Hinted.{is_hinted}
use Rattle.cd_hints.specs.Items.{kept_item, kept_malformed, kept_data}
use Rattle.cd_hints.specs.Records.{RecordParts, pair, unmatched_query, unmatched_response, malformed, discarded, payload_in, is_item, is_malformed}
use Rattle.cd_record.specs.Blocks.{kept_items, kept_malformed_items, kept_block}
use Rattle.cd_record.specs.Earliest.{earliest_time}
use Rattle.cd_record.specs.Runs.{record_weight, run_weight}
use Rattle.cd_size.specs.Costs.{value_size, item_cost, malformed_cost}
use Rattle.cd_size.specs.Laws.{BlocksAreLight}
use Rattle.cd_size.specs.Ranges.{EventInRange, RecordInRange, body_weight}
use Rattle.cd_size.proofs.Totals.{total, total_append, total_map, sum_is_total}
use Rattle.cd_size.proofs.Fits.{message_is_fit}
use Rattle.cd_size.proofs.SignatureRanges.{IsFit, transport_flags_short}
use Rattle.cd_size.proofs.Parts.{cost, stored_short, address_cost}
use Rattle.cd_size.proofs.Halves.{no_query_cost, no_response_cost, query_body_cost, response_body_cost}
use Rattle.cd_size.proofs.Items.{item_of_record}
use Rattle.cd_size.proofs.Blocks.{kept_blocks_short}

-- a pair
pub pair_fits : (query response : EventParts) → EventInRange query → EventInRange response → IsFit (pair query response)
pair_fits query response q r = record {
  main = q;
  main_fits = message_is_fit query.kind query.body q.has_body q.body;
  query_event = q;
  query = message_is_fit query.kind query.body q.has_body q.body;
  response = message_is_fit response.kind response.body r.has_body r.body;
}

-- an item of a pair
pair_cost : (t : KeptTables) (p : Params) (earliest : Stamp) (query response : EventParts) → EventInRange query →
    EventInRange response →
    item_cost t (kept_item p earliest (pair query response)) ≤ query.weight + response.weight
pair_cost t p earliest query response q r =
    omega (
      arith,
      item_of_record t p earliest (pair query response) (pair_fits query response q r),
      query_body_cost t p query.body (message_is_fit query.kind query.body q.has_body q.body),
      response_body_cost t p response.body (message_is_fit response.kind response.body r.has_body r.body),
      q.weight,
      r.weight,
    )

-- an item of a query
query_item_cost : (t : KeptTables) (p : Params) (earliest : Stamp) (e : EventParts) → EventInRange e →
    item_cost t (kept_item p earliest (unmatched_query e)) ≤ e.weight
query_item_cost t p earliest e range =
    let message = message_is_fit e.kind e.body range.has_body range.body in
    let fits : IsFit (unmatched_query e) =
    record { main = range; main_fits = message; query_event = range; query = message; response = tt } in
    omega (
      arith,
      item_of_record t p earliest (unmatched_query e) fits,
      query_body_cost t p e.body message,
      no_response_cost t p,
      range.weight,
    )

-- an item of a response
response_item_cost : (t : KeptTables) (p : Params) (earliest : Stamp) (e : EventParts) → EventInRange e →
    item_cost t (kept_item p earliest (unmatched_response e)) ≤ e.weight
response_item_cost t p earliest e range =
    let message = message_is_fit e.kind e.body range.has_body range.body in
    let fits : IsFit (unmatched_response e) =
    record { main = range; main_fits = message; query_event = tt; query = tt; response = message } in
    omega (
      arith,
      item_of_record t p earliest (unmatched_response e) fits,
      response_body_cost t p e.body message,
      no_query_cost t p,
      range.weight,
    )

-- the payload of a malformed message is part of its weight
payload_weighs : (body : Body) → 256 + string_length (payload_in body) ≤ body_weight body
payload_weighs (Message m) = omega arith
payload_weighs (Payload bytes) = omega arith
payload_weighs Nothing = omega arith

-- the data of a malformed message
data_cost : (t : KeptTables) (p : Params) (e : EventParts) → EventInRange e →
    cost t (visited_data (kept_data p e)) ≤ 45 + string_length (payload_in e.body)
unfolding visited_data indexed_data
data_cost t p e range =
    let ranges : DataInRange (indexed_data t (kept_data p e)) =
    record { server_port = range.server_port; transport_flags = transport_flags_short e false range.transport } in
    let server = stored_short (server_prefix p.prefixes e.server.v6) e.server range.server in
    omega (
      arith,
      malformed_data_short (indexed_data t (kept_data p e)) ranges,
      address_cost t (Some (server_address p.prefixes e.server)) server,
    )

-- a malformed message
malformed_record_cost : (t : KeptTables) (p : Params) (earliest : Stamp) (e : EventParts) → EventInRange e →
    malformed_cost t (kept_malformed p earliest (malformed e)) ≤ e.weight
unfolding visited_malformed indexed_malformed
malformed_record_cost t p earliest e range =
    let ranges : MalformedInRange (indexed_malformed t (kept_malformed p earliest (malformed e))) =
    record { client_port = range.client_port } in
    let client = stored_short (client_prefix p.prefixes e.client.v6) e.client range.client in
    omega (
      arith,
      malformed_short (indexed_malformed t (kept_malformed p earliest (malformed e))) ranges,
      sum_is_total (value_size t) (visited_malformed (kept_malformed p earliest (malformed e))),
      total_append (value_size t) (where_present visited_address (Some (client_address p.prefixes e.client)))
          (where_present visited_data (Some (kept_data p e))),
      address_cost t (Some (client_address p.prefixes e.client)) client,
      data_cost t p e range,
      payload_weighs e.body,
      range.weight,
    )

-- the range of the only event of a record
pub only_event : (e : EventParts) → All EventInRange (e ∷ []) → EventInRange e
only_event e all = All-head EventInRange e [] all

-- the records of a run, each of which is an item, a malformed message or neither
run_total : (t : KeptTables) (p : Params) (earliest : Stamp) (run : List RecordParts) → All RecordInRange run →
    total (λ r. item_cost t (kept_item p earliest r)) (filter is_item run)
    + total (λ r. malformed_cost t (kept_malformed p earliest r)) (filter is_malformed run) ≤ total record_weight run
run_total t p earliest [] all = omega arith
run_total t p earliest (pair query response ∷ run) all =
    let events = All-head RecordInRange (pair query response) run all in
    let q = All-head EventInRange query (response ∷ []) events in
    let r = only_event response (All-tail EventInRange query (response ∷ []) events) in
    omega (
      arith,
      pair_cost t p earliest query response q r,
      run_total t p earliest run (All-tail RecordInRange (pair query response) run all),
    )
run_total t p earliest (unmatched_query e ∷ run) all =
    let range = only_event e (All-head RecordInRange (unmatched_query e) run all) in
    omega (
      arith,
      query_item_cost t p earliest e range,
      run_total t p earliest run (All-tail RecordInRange (unmatched_query e) run all),
    )
run_total t p earliest (unmatched_response e ∷ run) all =
    let range = only_event e (All-head RecordInRange (unmatched_response e) run all) in
    omega (
      arith,
      response_item_cost t p earliest e range,
      run_total t p earliest run (All-tail RecordInRange (unmatched_response e) run all),
    )
run_total t p earliest (malformed e ∷ run) all =
    let range = only_event e (All-head RecordInRange (malformed e) run all) in
    omega (
      arith,
      malformed_record_cost t p earliest e range,
      run_total t p earliest run (All-tail RecordInRange (malformed e) run all),
    )
run_total t p earliest (discarded e ∷ run) all =
    omega (arith, run_total t p earliest run (All-tail RecordInRange (discarded e) run all))

-- malformed messages that are kept or not
malformed_or_not : (t : KeptTables) (p : Params) (earliest : Stamp) (b : Bool) (rs : List RecordParts) →
    total (malformed_cost t) (if b then map (kept_malformed p earliest) rs else []) ≤
    total (λ r. malformed_cost t (kept_malformed p earliest r)) rs
malformed_or_not t p earliest true rs = omega (arith, total_map (malformed_cost t) (kept_malformed p earliest) rs)
malformed_or_not t p earliest false rs = omega arith

-- the items and the malformed messages of a run, which are none where it has no earliest time
pub run_costs : (t : KeptTables) (p : Params) (run : List RecordParts) (earliest : Option Stamp) → All RecordInRange run →
    sum_by (item_cost t) (option_map_or (kept_items p run) earliest [])
    + sum_by (malformed_cost t) (option_map_or (kept_malformed_items p run) earliest []) ≤ run_weight run
run_costs t p run None all = omega arith
run_costs t p run (Some s) all =
    omega (
      arith,
      sum_is_total (item_cost t) (kept_items p run s),
      sum_is_total (malformed_cost t) (kept_malformed_items p run s),
      sum_is_total record_weight run,
      total_map (item_cost t) (kept_item p s) (filter is_item run),
      malformed_or_not t p s (is_hinted p.hints.other hint.OTHER_MALFORMED) (filter is_malformed run),
      run_total t p s run all,
    )

-- the law
pub blocks_light : BlocksAreLight
blocks_light p run all =
    omega (
      arith,
      kept_blocks_short (kept_block p run),
      run_costs (tables_of (visited (kept_block p run))) p run (earliest_time p.ticks run) all,
    )
