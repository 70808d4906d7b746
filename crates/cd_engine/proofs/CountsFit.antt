-- What is counted of a capture that may be fed fits 64 bits.
use Rattle.std.proofs.Common.{◌≡◌, ℕ, ◌+◌, ◌*◌, ◌<◌, ◌≤◌, ◌^◌, Bool, true, false, cond, List, [], ◌∷◌, ◌++◌, length, Option, Some, None, Result, Ok, Err, refl, ap, sym, ◌∙◌, arith, inl, inr, length-append, not}
use Rattle.std.specs.Prelude.{nat_lt}
use Rattle.std.specs.List.{sum_by, count_by, filter_map, fold}
use Rattle.std.specs.Option.{option_map_or}
use Rattle.std.proofs.lemmas.Bool.{cases_Bool}
use Rattle.std.proofs.lemmas.List.Sums.{sum_by-cons, count_by-le-length, length-filter}
use Rattle.cd_hints.specs.Lists.{is_listed_record, without_opt, unlisted_count, query_dropped, response_dropped, dropped}
use Rattle.cd_hints.specs.Records.{RecordParts, pair, unmatched_query, unmatched_response, malformed, discarded, is_item, event_message}
use Rattle.cd_hints.specs.declared.settings.Settings.{Settings}
use Rattle.cd_ident.proofs.WeightBounds.{event_weights_are_linear}
use Rattle.cd_ident.specs.Events.{EventParts, event_parts, parts_of_reading}
use Rattle.cd_ident.specs.Headers.{is_listed, opcode_of}
use Rattle.cd_ident.specs.declared.event_rules.EventRules.{EventRules}
use Rattle.cd_message.specs.Messages.{message_of}
use Rattle.cd_message.specs.Valid.{is_opt}
use Rattle.cd_message.specs.Weights.{record_weight}
use Rattle.cd_message.specs.declared.message.Message.{Message}
use Rattle.cd_message.specs.declared.message.MsgWhy.{MsgWhy}
use Rattle.cd_message.specs.declared.message.Rr.{Rr}
use Rattle.cd_packet.proofs.Payloads.{layer_within}
use Rattle.cd_packet.specs.Layers.{Found, Datagram, datagram, skipped, layer_of}
use Rattle.cd_packet.specs.declared.packet.Packet.{Packet}
use Rattle.cd_capture.specs.Formats.{capture}
use Rattle.cd_capture.specs.Laws.{record_size}
use Rattle.cd_record.specs.Cutting.{as_runs}
use Rattle.cd_record.specs.Runs.{Limits, limits_of}
use Rattle.cd_engine.specs.Behaving.{is_admissible, CutRecords, cut_more, cut_of, runs_of, all_records, counts_in}
use Rattle.cd_engine.specs.Counting.{is_pair, is_cut, packet_counts, record_counts, counts_of, held_in_64, held_packet_counts, held_record_counts}
use Rattle.cd_engine.specs.Events.{rules_of, event_found, event_of, events_of}
use Rattle.cd_engine.specs.declared.counts.PacketCounts.{PacketCounts}
use Rattle.cd_engine.specs.declared.counts.RecordCounts.{RecordCounts}
use Rattle.cd_engine.proofs.PacketCounting.{held_small, few_packets, packets_fit}
use Rattle.cd_engine.proofs.RecordSums.{of_event, of_record, all_sum}

-- the resource records of a message
abbrev rr_count : Message → ℕ
rr_count m = length m.answers + (length m.authority + length m.additional)

-- those of an event
abbrev rrs : EventParts → ℕ
rrs e = option_map_or rr_count (event_message e) 0

-- a resource record weighs at least 1
few_rrs : (rs : List Rr) → length rs ≤ sum_by record_weight rs
few_rrs [] = omega arith
few_rrs (r ∷ rs) = omega (arith, few_rrs rs, sum_by-cons record_weight r rs)

-- an event has no more resource records than it weighs
reading_rrs : (rules : EventRules) (d : Datagram) (r : Result (Message × ℕ) MsgWhy) →
    rrs (parts_of_reading rules d r) ≤ (parts_of_reading rules d r).weight
reading_rrs rules d (Err why) = omega arith
reading_rrs rules d (Ok x) =
    elim (cases_Bool (is_listed rules.opcodes (opcode_of (x.0).bits))) [
      | inl listed ↦ rw listed (omega (arith, few_rrs (x.0).answers, few_rrs (x.0).authority, few_rrs (x.0).additional))
      | inr other ↦ rw other (omega arith)
    ]

event_rrs : (rules : EventRules) (d : Datagram) → rrs (event_parts rules d) ≤ (event_parts rules d).weight
unfolding event_parts
event_rrs rules d = reading_rrs rules d (message_of d.payload)

-- one event
abbrev one : EventParts → ℕ
one e = 1

found_rrs : (rules : EventRules) (p : Packet) (f : Found) → layer_of rules.port p ≡ f → 16 * of_event rrs (event_found rules f) ≤ 829 * record_size p
found_rrs rules p (skipped r) is = omega arith
found_rrs rules p (datagram d) is =
    elim (cases_Bool (nat_lt 65535 (length d.payload))) [
      | inl long ↦ rw long (omega arith)
      | inr fits ↦ rw fits (omega (arith, event_rrs rules d, event_weights_are_linear rules d, layer_within rules.port p d is))
    ]

packet_rrs : (rules : EventRules) (p : Packet) → 16 * of_event rrs (event_of rules p) ≤ 829 * record_size p
unfolding event_of
packet_rrs rules p = found_rrs rules p (layer_of rules.port p) refl

option_one : (o : Option EventParts) → of_event one o ≤ 1
option_one None = omega arith
option_one (Some e) = omega arith

packet_one : (rules : EventRules) (p : Packet) → 16 * of_event one (event_of rules p) ≤ 829 * record_size p
packet_one rules p = omega (arith, option_one (event_of rules p))

one_more : (f : EventParts → ℕ) (h : Packet → Option EventParts) (p : Packet) (ps : List Packet) (o : Option EventParts) → h p ≡ o →
    sum_by f (filter_map h (p ∷ ps)) ≡ of_event f o + sum_by f (filter_map h ps)
one_more f h p ps None is = rw is (omega arith)
one_more f h p ps (Some e) is = rw is (sum_by-cons f e (filter_map h ps))

-- what each event sums to is bounded by the bytes of the packets
events_bounded : (rules : EventRules) (f : EventParts → ℕ) → ((p : Packet) → 16 * of_event f (event_of rules p) ≤ 829 * record_size p) →
    (ps : List Packet) → 16 * sum_by f (events_of rules ps) ≤ 829 * sum_by record_size ps
events_bounded rules f h [] = omega arith
events_bounded rules f h (p ∷ ps) =
    omega (
      arith,
      one_more f (event_of rules) p ps (event_of rules p) refl,
      h p,
      events_bounded rules f h ps,
      sum_by-cons record_size p ps,
    )

-- not all resource records are dropped
few_unlisted : (types : List ℕ) (rs : List Rr) → unlisted_count types rs ≤ length rs
few_unlisted types rs = count_by-le-length (λ r. not (is_listed_record types r)) rs

few_without : (rs : List Rr) → length (without_opt rs) ≤ length rs
few_without rs = omega (arith, length-filter (λ r. not (is_opt r)) rs, count_by-le-length (λ (r : Rr). not (is_opt r)) rs)

query_few : (types : List ℕ) (o : Option Message) → option_map_or (query_dropped types) o 0 ≤ option_map_or rr_count o 0
query_few types None = omega arith
query_few types (Some m) =
    omega (arith, few_unlisted types m.answers, few_unlisted types m.authority, few_unlisted types (without_opt m.additional), few_without m.additional)

response_few : (types : List ℕ) (o : Option Message) → option_map_or (response_dropped types) o 0 ≤ option_map_or rr_count o 0
response_few types None = omega arith
response_few types (Some m) = omega (arith, few_unlisted types m.answers, few_unlisted types m.authority, few_unlisted types m.additional)

dropped_few : (types : List ℕ) (r : RecordParts) → dropped types r ≤ of_record rrs r
dropped_few types (pair q r) = omega (arith, query_few types (event_message q), response_few types (event_message r))
dropped_few types (unmatched_query e) = omega (arith, query_few types (event_message e))
dropped_few types (unmatched_response e) = omega (arith, response_few types (event_message e))
dropped_few types (malformed e) = omega arith
dropped_few types (discarded e) = omega arith

all_dropped : (types : List ℕ) (rs : List RecordParts) → sum_by (dropped types) rs ≤ sum_by (of_record rrs) rs
all_dropped types [] = omega arith
all_dropped types (r ∷ rs) =
    omega (arith, dropped_few types r, all_dropped types rs, sum_by-cons (dropped types) r rs, sum_by-cons (of_record rrs) r rs)

some_one : (r : RecordParts) → 1 ≤ of_record one r
some_one (pair q r) = omega arith
some_one (unmatched_query e) = omega arith
some_one (unmatched_response e) = omega arith
some_one (malformed e) = omega arith
some_one (discarded e) = omega arith

all_one : (rs : List RecordParts) → length rs ≤ sum_by (of_record one) rs
all_one [] = omega arith
all_one (r ∷ rs) = omega (arith, some_one r, all_one rs, sum_by-cons (of_record one) r rs)

-- one more record closes at most one run
closes_one : (b : Bool) (x y : CutRecords) (n : ℕ) → length x.closed ≤ n → length y.closed ≤ n → length (cond b x y).closed ≤ n
closes_one true x y n h k = h
closes_one false x y n h k = k

more_closed : (limits : Limits) (c : CutRecords) (r : RecordParts) → length (cut_more limits c r).closed ≤ length c.closed + 1
more_closed limits c r =
    closes_one (is_admissible limits (c.present ++ r ∷ [])) _ _ (length c.closed + 1) (omega arith)
    (omega (arith, length-append c.closed (c.present ∷ [])))

folded_closed : (limits : Limits) (c : CutRecords) (rs : List RecordParts) → length (fold (cut_more limits) c rs).closed ≤ length c.closed + length rs
folded_closed limits c [] = omega arith
folded_closed limits c (r ∷ rs) = omega (arith, folded_closed limits (cut_more limits c r) rs, more_closed limits c r)

cut_is : (limits : Limits) (rs : List RecordParts) → cut_of limits rs ≡ fold (cut_more limits) (record { closed = []; present = [] }) rs
unfolding cut_of
cut_is limits rs = refl

closed_few : (limits : Limits) (rs : List RecordParts) → length (cut_of limits rs).closed ≤ length rs
closed_few limits rs =
    omega (
      arith,
      ap (λ (c : CutRecords). length c.closed) (cut_is limits rs),
      folded_closed limits (record { closed = []; present = [] }) rs,
    )

present_few : (run : List RecordParts) → length (as_runs run) ≤ 1
present_few [] = omega arith
present_few (r ∷ run) = omega arith

-- there is at most one run more than records
runs_few : (limits : Limits) (rs : List RecordParts) → length (runs_of limits rs) ≤ length rs + 1
runs_few limits rs =
    omega (
      arith,
      closed_few limits rs,
      present_few (cut_of limits rs).present,
      length-append (cut_of limits rs).closed (as_runs (cut_of limits rs).present),
    )

-- What is counted of the records of some packets fits.
record RecordsFit (s : Settings) (rs : List RecordParts) : Type 0 where
  items_fit : held_in_64 (count_by is_item rs) ≡ count_by is_item rs
  pairs_fit : held_in_64 (count_by is_pair rs) ≡ count_by is_pair rs
  dropped_fit : held_in_64 (sum_by (dropped s.params.rr_types) rs) ≡ sum_by (dropped s.params.rr_types) rs
  runs_fit : held_in_64 (length (runs_of (limits_of s) rs)) ≡ length (runs_of (limits_of s) rs)

records_fit : (s : Settings) (ps : List Packet) → sum_by record_size ps ≤ 2 ^ 48 → RecordsFit s (all_records s (events_of (rules_of s) ps))
records_fit s ps small =
    let rules : EventRules = rules_of s in
    let events : List EventParts = events_of rules ps in
    let rs : List RecordParts = all_records s events in
    let ones : sum_by (of_record one) rs ≤ sum_by one events = all_sum s events one in
    let counts : sum_by (of_record rrs) rs ≤ sum_by rrs events = all_sum s events rrs in
    let few_ones : 16 * sum_by one events ≤ 829 * sum_by record_size ps = events_bounded rules one (packet_one rules) ps in
    let few_counts : 16 * sum_by rrs events ≤ 829 * sum_by record_size ps = events_bounded rules rrs (packet_rrs rules) ps in
    let few : length rs < 2 ^ 60 = omega (arith, all_one rs, ones, few_ones, small) in
    record {
      items_fit = held_small _ (omega (arith, count_by-le-length is_item rs, few));
      pairs_fit = held_small _ (omega (arith, count_by-le-length is_pair rs, few));
      dropped_fit = held_small _ (omega (arith, all_dropped s.params.rr_types rs, counts, few_counts, small));
      runs_fit = held_small _ (omega (arith, runs_few (limits_of s) rs, few));
    }

-- What was counted one by one is what is counted of the bytes.
pub counts_known : (s : Settings) (bytes : List ℕ) (given : List Packet) (p : PacketCounts) (r : RecordCounts) (n : ℕ) (cut : Bool) →
    (capture bytes).packets ≡ given → sum_by record_size given ≤ 2 ^ 48 →
    p ≡ held_packet_counts (packet_counts (rules_of s) given) →
    r ≡ held_record_counts (record_counts s.params.rr_types (all_records s (events_of (rules_of s) given))) →
    n ≡ held_in_64 (length (runs_of (limits_of s) (all_records s (events_of (rules_of s) given)))) →
    cut ≡ is_cut (capture bytes).end → counts_of p r n cut ≡ counts_in s bytes
unfolding counts_in
counts_known s bytes given p r n cut all small packets records runs short =
    let rules : EventRules = rules_of s in
    let k = records_fit s given small in
    let p_is : p ≡ packet_counts rules (capture bytes).packets =
    packets ∙ packets_fit rules given (omega (arith, few_packets given, small)) ∙ ap (packet_counts rules) (sym all) in
    let exact : held_record_counts (record_counts s.params.rr_types (all_records s (events_of rules given)))
    ≡ record_counts s.params.rr_types (all_records s (events_of rules given)) =
    λ i. record { items = k.items_fit i; pairs = k.pairs_fit i; dropped = k.dropped_fit i } in
    let r_is : r ≡ record_counts s.params.rr_types (all_records s (events_of rules (capture bytes).packets)) =
    records ∙ exact ∙ ap (λ ps. record_counts s.params.rr_types (all_records s (events_of rules ps))) (sym all) in
    let n_is : n ≡ length (runs_of (limits_of s) (all_records s (events_of rules (capture bytes).packets))) =
    runs ∙ k.runs_fit ∙ ap (λ ps. length (runs_of (limits_of s) (all_records s (events_of rules ps)))) (sym all) in
    λ i. counts_of (p_is i) (r_is i) (n_is i) (short i)
