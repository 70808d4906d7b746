-- The block of a run is read back.
use Rattle.std.proofs.Common.{ℕ, ◌*◌, ◌/◌, ◌%◌, ◌<◌, ◌≤◌, ◌^◌, Bool, true, false, min, List, [], ◌∷◌, length, map, Option, Some, None, refl, arith, length-append}
use Rattle.std.specs.Prelude.{IfSome, nat_lt, filter, if◌then◌else◌}
use Rattle.std.specs.List.{All, AllByRecursion, filter_map, cons_option, reduce, fold, sum_by, flat_map}
use Rattle.std.specs.Option.{option_map_or}
use Rattle.std.proofs.Math.Nat.{div-le_self, mod-le}
use Rattle.std.proofs.lemmas.List.Elements.{All-head, All-tail}
use Rattle.std.proofs.lemmas.List.Sums.{count_by-le-length, sum_by-cons}
use Rattle.cd_cbor.specs.declared.item.Item.{Item}
use Rattle.cd_cbor.specs.Items.{unsigned, bytes}
use Rattle.cd_cbor.specs.Spelling.{head, spelling_all}
use Rattle.cd_cbor.proofs.Spelled.{spelling_bytes, spelling_array}
use Rattle.cd_file.specs.Maps.{map_of, entries_count, entries_spelling, numbers}
use Rattle.cd_file.proofs.Maps.{map_spelled}
use Rattle.cd_file.specs.Readable.{IsNumber, ReadableStamp, ReadableStats, ReadableItem, ReadableData, ReadableMalformed}
use Rattle.cd_block.specs.declared.hints.TheConstants as hint
use Rattle.cd_block.specs.declared.params.Params.{Params}
use Rattle.cd_block.specs.declared.stamp.Stamp.{Stamp}
use Rattle.cd_block.specs.declared.kept.KeptBlock.{KeptBlock}
use Rattle.cd_block.specs.declared.kept.KeptMalformed.{KeptMalformed}
use Rattle.cd_block.specs.Equality.{same_bytes, same_data}
use Rattle.cd_block.specs.Tables.{KeptTables, tables_of, indexed_in, indexed_item, indexed_data, indexed_malformed}
use Rattle.cd_block.specs.Traversal.{Visited, Address, ClassType, NameOrRdata, Signature, QuestionList, Question, RecordList, Record, MalformedData, where_present, visited, visited_address, visited_item, visited_data, visited_malformed}
use Rattle.cd_ident.specs.Events.{EventParts}
use Rattle.cd_ident.specs.declared.event.Body.{Body}
use Rattle.cd_ident.specs.declared.event.Body.TheVariants.{Message, Payload, Nothing}
use Rattle.cd_hints.specs.Addresses.{client_address, client_prefix, server_prefix}
use Rattle.cd_hints.specs.Hinted.{is_hinted}
use Rattle.cd_hints.specs.Items.{kept_item, kept_malformed, kept_data}
use Rattle.cd_hints.specs.Records.{RecordParts, pair, unmatched_query, unmatched_response, malformed, discarded, is_item, is_malformed}
use Rattle.cd_record.specs.Blocks.{kept_items, kept_malformed_items, kept_block}
use Rattle.cd_record.specs.Earliest.{record_tick, earliest_tick, stamp_of, earliest_time}
use Rattle.cd_record.specs.Runs.{record_weight, run_weight}
use Rattle.cd_record.specs.Statistics.{statistics, processed_messages, is_unmatched_query, is_unmatched_response, is_discarded}
use Rattle.cd_size.specs.Costs.{size, value_size}
use Rattle.cd_size.specs.Laws.{BlocksAreReadable}
use Rattle.cd_size.specs.Ranges.{EventInRange, EventIsTimed, RecordInRange, RecordIsTimed, body_weight}
use Rattle.cd_size.proofs.Totals.{total}
use Rattle.cd_size.proofs.Fits.{message_is_fit}
use Rattle.cd_size.proofs.SignatureRanges.{mapped, transport_flags_short}
use Rattle.cd_size.proofs.Parts.{stored_short}
use Rattle.cd_size.proofs.Blocks.{visits_of_block, items_in_turn, malformed_in_turn}
use Rattle.cd_size.proofs.Runs.{pair_fits, only_event, run_costs, blocks_light}
use Rattle.cd_size.proofs.TablesReadable.{IsReadable, AreFew, map_all, tables_few, tables_readable, where_indexed}
use Rattle.cd_size.proofs.RecordsReadable.{all_append, all_flat_map, tick_low, offset_small, ItemIsRead, address_used, item_read}

-- a malformed message, and what it uses
record MalformedIsRead (t : KeptTables) (m : KeptMalformed) : Type 0 where
  readable : ReadableMalformed (indexed_malformed t m)
  used : AllByRecursion (IsReadable t) (visited_malformed m)

module _ (t : KeptTables) (few : AreFew t) (p : Params) (earliest : Stamp) where
  data_readable : (e : EventParts) → EventInRange e → ReadableData (indexed_data t (kept_data p e))
  unfolding indexed_data
  data_readable e range = record {
    ranges = record { server_port = range.server_port; transport_flags = transport_flags_short e false range.transport };
    server_address = where_indexed same_bytes t.ip_address few.ip_address (kept_data p e).server_address;
  }

  data_used : (e : EventParts) → EventInRange e → AllByRecursion (IsReadable t) (visited_data (kept_data p e))
  unfolding visited_data
  data_used e range = (
    data_readable e range,
    address_used t few (kept_data p e).server_address (stored_short (server_prefix p.prefixes e.server.v6) e.server range.server),
  )

  malformed_read : (e : EventParts) → EventInRange e → EventIsTimed e → MalformedIsRead t (kept_malformed p earliest (malformed e))
  unfolding indexed_malformed visited_malformed
  malformed_read e range timed = record {
    readable = record {
      ranges = record { client_port = range.client_port };
      time_offset = offset_small p earliest e timed;
      client_address = where_indexed same_bytes t.ip_address few.ip_address (kept_malformed p earliest (malformed e)).client_address;
      message_data = where_indexed same_data t.malformed_message_data few.malformed_message_data (kept_malformed p earliest (malformed e)).message_data;
    };
    used =
        all_append (IsReadable t) (where_present visited_address (Some (client_address p.prefixes e.client)))
        (where_present visited_data (Some (kept_data p e)))
        (address_used t few (Some (client_address p.prefixes e.client)) (stored_short (client_prefix p.prefixes e.client.v6) e.client range.client))
        (data_used e range);
  }

  -- the items of a run
  items_read : (run : List RecordParts) → All RecordInRange run → All RecordIsTimed run →
      AllByRecursion (ItemIsRead t) (map (kept_item p earliest) (filter is_item run))
  items_read [] all timed = tt
  items_read (pair query response ∷ run) all timed =
      let events = All-head RecordInRange (pair query response) run all in
      let q = All-head EventInRange query (response ∷ []) events in
      let r = only_event response (All-tail EventInRange query (response ∷ []) events) in
      let times = All-head RecordIsTimed (pair query response) run timed in
      let qt : EventIsTimed query = All-head EventIsTimed query (response ∷ []) times in
      let rt : EventIsTimed response = All-head EventIsTimed response [] (All-tail EventIsTimed query (response ∷ []) times) in (
        item_read t few p earliest (pair query response) (pair_fits query response q r) (record { main = qt; query = qt; response = rt }),
        items_read run (All-tail RecordInRange (pair query response) run all) (All-tail RecordIsTimed (pair query response) run timed),
      )
  items_read (unmatched_query e ∷ run) all timed =
      let range = only_event e (All-head RecordInRange (unmatched_query e) run all) in
      let message = message_is_fit e.kind e.body range.has_body range.body in
      let time : EventIsTimed e = All-head EventIsTimed e [] (All-head RecordIsTimed (unmatched_query e) run timed) in (
        item_read t few p earliest (unmatched_query e)
            (record { main = range; main_fits = message; query_event = range; query = message; response = tt })
            (record { main = time; query = time; response = tt }),
        items_read run (All-tail RecordInRange (unmatched_query e) run all) (All-tail RecordIsTimed (unmatched_query e) run timed),
      )
  items_read (unmatched_response e ∷ run) all timed =
      let range = only_event e (All-head RecordInRange (unmatched_response e) run all) in
      let message = message_is_fit e.kind e.body range.has_body range.body in
      let time : EventIsTimed e = All-head EventIsTimed e [] (All-head RecordIsTimed (unmatched_response e) run timed) in (
        item_read t few p earliest (unmatched_response e)
            (record { main = range; main_fits = message; query_event = tt; query = tt; response = message })
            (record { main = time; query = tt; response = time }),
        items_read run (All-tail RecordInRange (unmatched_response e) run all) (All-tail RecordIsTimed (unmatched_response e) run timed),
      )
  items_read (malformed e ∷ run) all timed =
      items_read run (All-tail RecordInRange (malformed e) run all) (All-tail RecordIsTimed (malformed e) run timed)
  items_read (discarded e ∷ run) all timed =
      items_read run (All-tail RecordInRange (discarded e) run all) (All-tail RecordIsTimed (discarded e) run timed)

  -- its malformed messages
  malformed_all : (run : List RecordParts) → All RecordInRange run → All RecordIsTimed run →
      AllByRecursion (MalformedIsRead t) (map (kept_malformed p earliest) (filter is_malformed run))
  malformed_all [] all timed = tt
  malformed_all (malformed e ∷ run) all timed = (
    malformed_read e (only_event e (All-head RecordInRange (malformed e) run all))
        (All-head EventIsTimed e [] (All-head RecordIsTimed (malformed e) run timed)),
    malformed_all run (All-tail RecordInRange (malformed e) run all) (All-tail RecordIsTimed (malformed e) run timed),
  )
  malformed_all (pair query response ∷ run) all timed =
      malformed_all run (All-tail RecordInRange (pair query response) run all) (All-tail RecordIsTimed (pair query response) run timed)
  malformed_all (unmatched_query e ∷ run) all timed =
      malformed_all run (All-tail RecordInRange (unmatched_query e) run all) (All-tail RecordIsTimed (unmatched_query e) run timed)
  malformed_all (unmatched_response e ∷ run) all timed =
      malformed_all run (All-tail RecordInRange (unmatched_response e) run all) (All-tail RecordIsTimed (unmatched_response e) run timed)
  malformed_all (discarded e ∷ run) all timed =
      malformed_all run (All-tail RecordInRange (discarded e) run all) (All-tail RecordIsTimed (discarded e) run timed)

  malformed_or_none : (b : Bool) (ms : List KeptMalformed) → AllByRecursion (MalformedIsRead t) ms → AllByRecursion (MalformedIsRead t) (if b then ms else [])
  malformed_or_none true ms all = all
  malformed_or_none false ms all = tt

-- the items of a block with its earliest time, if there is one
block_items : (t : KeptTables) → AreFew t → (p : Params) (run : List RecordParts) (earliest : Option Stamp) → All RecordInRange run → All RecordIsTimed run →
    AllByRecursion (ItemIsRead t) (option_map_or (kept_items p run) earliest [])
block_items t few p run None all timed = tt
block_items t few p run (Some s) all timed = items_read t few p s run all timed

block_malformed : (t : KeptTables) → AreFew t → (p : Params) (run : List RecordParts) (earliest : Option Stamp) → All RecordInRange run → All RecordIsTimed run →
    AllByRecursion (MalformedIsRead t) (option_map_or (kept_malformed_items p run) earliest [])
block_malformed t few p run None all timed = tt
block_malformed t few p run (Some s) all timed =
    malformed_or_none t few p s (is_hinted p.hints.other hint.OTHER_MALFORMED) (map (kept_malformed p s) (filter is_malformed run))
    (malformed_all t few p s run all timed)

-- the values of a block
visited_readable : (t : KeptTables) (b : KeptBlock) → AllByRecursion (ItemIsRead t) b.items → AllByRecursion (MalformedIsRead t) b.malformed →
    AllByRecursion (IsReadable t) (visited b)
unfolding visited
visited_readable t b items ms =
    all_append (IsReadable t) (flat_map visited_item b.items) (flat_map visited_malformed b.malformed)
    (all_flat_map (ItemIsRead t) (IsReadable t) visited_item (λ i h. h.used) b.items items)
    (all_flat_map (MalformedIsRead t) (IsReadable t) visited_malformed (λ m h. h.used) b.malformed ms)

-- a head has a byte at least
either_some : (b : Bool) (xs ys : List ℕ) → 0 < length xs → 0 < length ys → 0 < length (if b then xs else ys)
either_some true xs ys h k = h
either_some false xs ys h k = k

head_some : (major n : ℕ) → 0 < length (head major n)
unfolding head
head_some major n =
    either_some (nat_lt n 24) _ _ (omega arith) (either_some (nat_lt n 0x100) _ _ (omega arith)
    (either_some (nat_lt n 0x1_0000) _ _ (omega arith) (either_some (nat_lt n 0x1_0000_0000) _ _ (omega arith) (omega arith))))

-- so has each value
map_some : (es : List (ℕ × Option Item)) → 0 < size (map_of es)
map_some es =
    rw (map_spelled es) (omega (arith, head_some 5 (entries_count es), length-append (head 5 (entries_count es)) (entries_spelling es)))

bytes_some : (content : List ℕ) → 0 < size (bytes content)
bytes_some content = rw (spelling_bytes content) (omega (arith, head_some 2 (length content), length-append (head 2 (length content)) content))

numbers_some : (ns : List ℕ) → 0 < size (numbers ns)
numbers_some ns =
    rw (spelling_array (map unsigned ns))
    (omega (arith, head_some 4 (length (map unsigned ns)), length-append (head 4 (length (map unsigned ns))) (spelling_all (map unsigned ns))))

value_some : (t : KeptTables) (v : Visited) → 0 < value_size t v
value_some t (Address content) = bytes_some content
value_some t (ClassType c) = map_some _
value_some t (NameOrRdata content) = bytes_some content
value_some t (Signature s) = map_some _
value_some t (QuestionList qs) = numbers_some _
value_some t (Question q) = map_some _
value_some t (RecordList rs) = numbers_some _
value_some t (Record r) = map_some _
value_some t (MalformedData d) = map_some _

values_some : (t : KeptTables) (values : List Visited) → length values ≤ total (value_size t) values
values_some t [] = omega arith
values_some t (v ∷ values) = omega (arith, value_some t v, values_some t values)

-- a block goes through no more values than its run weighs
few_visited : (p : Params) (run : List RecordParts) → All RecordInRange run → length (visited (kept_block p run)) ≤ run_weight run
few_visited p run all =
    let b = kept_block p run in
    let t : KeptTables = tables_of (visited b) in
    omega (
      arith,
      values_some t (visited b),
      visits_of_block (value_size t) b,
      items_in_turn t b.items,
      malformed_in_turn t b.malformed,
      run_costs t p run (earliest_time p.ticks run) all,
    )

-- a record weighs one at least
body_weighs : (body : Body) → 1 ≤ body_weight body
body_weighs (Message m) = omega arith
body_weighs (Payload content) = omega arith
body_weighs Nothing = omega arith

event_weighs : (e : EventParts) → EventInRange e → 1 ≤ e.weight
event_weighs e range = omega (arith, range.weight, body_weighs e.body)

record_weighs : (r : RecordParts) → RecordInRange r → 1 ≤ record_weight r
record_weighs (pair query response) all = omega (arith, event_weighs query (All-head EventInRange query (response ∷ []) all))
record_weighs (unmatched_query e) all = event_weighs e (only_event e all)
record_weighs (unmatched_response e) all = event_weighs e (only_event e all)
record_weighs (malformed e) all = event_weighs e (only_event e all)
record_weighs (discarded e) all = event_weighs e (only_event e all)

run_length : (run : List RecordParts) → All RecordInRange run → length run ≤ run_weight run
run_length [] all = omega arith
run_length (r ∷ run) all =
    omega (arith, record_weighs r (All-head RecordInRange r run all), run_length run (All-tail RecordInRange r run all), sum_by-cons record_weight r run)

-- its statistics are numbers of 64 bits
two_messages : (r : RecordParts) → processed_messages r ≤ 2
two_messages (pair query response) = omega arith
two_messages (unmatched_query e) = omega arith
two_messages (unmatched_response e) = omega arith
two_messages (malformed e) = omega arith
two_messages (discarded e) = omega arith

processed_few : (run : List RecordParts) → sum_by processed_messages run ≤ 2 * length run
processed_few [] = omega arith
processed_few (r ∷ run) = omega (arith, two_messages r, processed_few run, sum_by-cons processed_messages r run)

statistics_readable : (run : List RecordParts) → length run < 2 ^ 63 → ReadableStats (statistics run)
statistics_readable run few = record {
  processed = omega (arith, few, processed_few run);
  items = omega (arith, few, count_by-le-length is_item run);
  unmatched_queries = omega (arith, few, count_by-le-length is_unmatched_query run);
  unmatched_responses = omega (arith, few, count_by-le-length is_unmatched_response run);
  discarded = omega (arith, few, count_by-le-length is_discarded run);
  malformed = omega (arith, few, count_by-le-length is_malformed run);
}

-- the tick of a record, where it has a time
tick_small : (ticks : ℕ) (r : RecordParts) → RecordIsTimed r → IfSome (record_tick ticks r) IsNumber
tick_small ticks (pair query response) timed = omega (arith, tick_low ticks query (All-head EventIsTimed query (response ∷ []) timed))
tick_small ticks (unmatched_query e) timed = omega (arith, tick_low ticks e (All-head EventIsTimed e [] timed))
tick_small ticks (unmatched_response e) timed = omega (arith, tick_low ticks e (All-head EventIsTimed e [] timed))
tick_small ticks (malformed e) timed = omega (arith, tick_low ticks e (All-head EventIsTimed e [] timed))
tick_small ticks (discarded e) timed = tt

tick_or_others : (o : Option ℕ) (others : List ℕ) → IfSome o IsNumber → AllByRecursion IsNumber others → AllByRecursion IsNumber (cons_option o others)
tick_or_others None others here all = all
tick_or_others (Some n) others here all = (here, all)

ticks_small : (ticks : ℕ) (run : List RecordParts) → All RecordIsTimed run → AllByRecursion IsNumber (filter_map (record_tick ticks) run)
ticks_small ticks [] timed = tt
ticks_small ticks (r ∷ run) timed =
    tick_or_others (record_tick ticks r) (filter_map (record_tick ticks) run) (tick_small ticks r (All-head RecordIsTimed r run timed))
    (ticks_small ticks run (All-tail RecordIsTimed r run timed))

least_small : (a : ℕ) (ns : List ℕ) → a < 2 ^ 64 → fold min a ns < 2 ^ 64
least_small a [] h = h
least_small a (n ∷ ns) h = least_small (min a n) ns (omega (arith, h))

least_of_small : (ns : List ℕ) → AllByRecursion IsNumber ns → IfSome (reduce min ns) IsNumber
least_of_small [] all = tt
least_of_small (n ∷ ns) all = least_small n ns all.0

-- the earliest time of a run
stamp_small : (ticks tick : ℕ) → IsNumber tick → ReadableStamp (stamp_of ticks tick)
stamp_small ticks tick small = record {
  seconds = let less : tick / ticks ≤ tick = div-le_self tick ticks in omega (arith, less, small);
  ticks = let less : tick % ticks ≤ tick = mod-le tick ticks in omega (arith, less, small);
}

earliest_small : (ticks : ℕ) (run : List RecordParts) → All RecordIsTimed run → IfSome (earliest_time ticks run) ReadableStamp
earliest_small ticks run timed =
    mapped IsNumber ReadableStamp (stamp_of ticks) (earliest_tick ticks run) (stamp_small ticks)
    (least_of_small (filter_map (record_tick ticks) run) (ticks_small ticks run timed))

-- the law
pub blocks_readable : BlocksAreReadable
unfolding indexed_in
blocks_readable p run all timed light =
    let b = kept_block p run in
    let t : KeptTables = tables_of (visited b) in
    let few : AreFew t = tables_few (visited b) (omega (arith, few_visited p run all, light)) in
    let items = block_items t few p run (earliest_time p.ticks run) all timed in
    let ms = block_malformed t few p run (earliest_time p.ticks run) all timed in
    record {
      earliest = earliest_small p.ticks run timed;
      params = refl;
      stats = statistics_readable run (omega (arith, run_length run all, light));
      tables = tables_readable (visited b) b (visited_readable t b items ms);
      items = map_all (ItemIsRead t) ReadableItem (indexed_item t) (λ i h. h.readable) b.items items;
      malformed = map_all (MalformedIsRead t) ReadableMalformed (indexed_malformed t) (λ m h. h.readable) b.malformed ms;
      is_short = omega (arith, blocks_light p run all, light);
    }
