-- The messages of a lookup fit, and so do its packets and their records.
use Rattle.std.proofs.Common.{◌≡◌, ℕ, zero, suc, ◌+◌, ◌*◌, ◌%◌, ◌≤◌, ◌<◌, Bool, true, false, nat_eq, List, [], ◌∷◌, ◌++◌, length, Some, if◌then◌else◌, refl, ap, sym, ◌∙◌, arith, append_assoc, length-append}
use Rattle.std.specs.List.{AllByRecursion, flat_map}
use Rattle.std.proofs.lemmas.Bool.{le-leb, le-ltb}
use Rattle.cd_message.specs.declared.message.Message.{Message}
use Rattle.cd_message.specs.Written.{has_small_sections, written_message, written_if_fits}
use Rattle.cd_packet.specs.Building.{ip_header, udp_header, udp_check, built, spelled}
use Rattle.cd_packet.specs.Time.{end_of_time}
use Rattle.cd_pcap.specs.Spelled.{RawRecord, Fits, spelling_of, spellings}
use Rattle.cd_pcap.specs.Writing.{written_form, written_record}
use Rattle.cd_pcap.proofs.SpelledRead.{spelled_long}
use Rattle.cd_workload.specs.Workload.{lookups, draw, next_state, query_of, response_of, query_datagram, response_datagram, query_packet, response_packet, query_record, response_record, query_time, response_time, records_of}
use Rattle.cd_workload.specs.Laws.{LookupsAreSent}
use Rattle.cd_workload.specs.declared.lookup.Lookup.{Lookup}
use Rattle.cd_workload.proofs.Short.{query_short, response_short}

-- a short message fits
message_fits : (m : Message) → has_small_sections m ≡ true → length (written_message m) ≤ 65535 →
    written_if_fits m ≡ Some (written_message m)
message_fits m small few = rw (small, le-leb (length (written_message m)) 65535 few) refl

pub query_fits : (l : Lookup) → written_if_fits (query_of l) ≡ Some (written_message (query_of l))
query_fits l = message_fits (query_of l) refl (omega (arith, query_short l))

pub response_fits : (l : Lookup) → written_if_fits (response_of l) ≡ Some (written_message (response_of l))
response_fits l = message_fits (response_of l) refl (omega (arith, response_short l))

-- its packet is built
pub query_built : (l : Lookup) → built (query_datagram l) ≡ Some (spelled (query_datagram l))
unfolding built
query_built l = rw (le-ltb 65507 (length (written_message (query_of l))) (omega (arith, query_short l))) refl

pub response_built : (l : Lookup) → built (response_datagram l) ≡ Some (spelled (response_datagram l))
unfolding built
response_built l = rw (le-ltb 65507 (length (written_message (response_of l))) (omega (arith, response_short l))) refl

pub lookups_sent : LookupsAreSent
lookups_sent l = record {
  query = query_fits l;
  response = response_fits l;
  query_packet = query_built l;
  response_packet = response_built l;
}

-- and has few bytes: the headers of IPv4 and of UDP have 28
pub query_packet-short : (l : Lookup) → length (query_packet l) ≤ 88
unfolding query_packet
query_packet-short l =
    let headers : List ℕ = ip_header (query_datagram l) ++ udp_header (query_datagram l) (udp_check (query_datagram l)) in
    let size : length headers ≡ 28 = refl in
    omega (arith, size, query_short l, length-append headers (written_message (query_of l)))

pub response_packet-short : (l : Lookup) → length (response_packet l) ≤ 88
unfolding response_packet
response_packet-short l =
    let headers : List ℕ = ip_header (response_datagram l) ++ udp_header (response_datagram l) (udp_check (response_datagram l)) in
    let size : length headers ≡ 28 = refl in
    omega (arith, size, response_short l, length-append headers (written_message (response_of l)))

-- the record of a short packet fits
record_fits : (time : ℕ) (bytes : List ℕ) → time < end_of_time → length bytes ≤ 88 → Fits (written_record time bytes)
record_fits time bytes timely few = record {
  seconds = omega (arith, timely);
  fraction = omega arith;
  original = omega (arith, few);
  captured = omega (arith, few);
}

-- the records of a lookup, by whether it has no response
some_fit : (b : Bool) (q r : RawRecord) → Fits q → Fits r → AllByRecursion Fits (q ∷ (if b then [] else r ∷ []))
some_fit true q r first second = (first, tt)
some_fit false q r first second = (first, (second, tt))

some_long : (b : Bool) (q r : RawRecord) (most : ℕ) → length q.captured ≤ most → length r.captured ≤ most →
    length (spellings written_form (q ∷ (if b then [] else r ∷ []))) ≤ 2 * (16 + most)
some_long true q r most first second =
    omega (arith, first, spelled_long written_form q, length-append (spelling_of written_form q) [])
some_long false q r most first second =
    omega (
      arith,
      first,
      second,
      spelled_long written_form q,
      spelled_long written_form r,
      length-append (spelling_of written_form q) (spellings written_form (r ∷ [])),
      length-append (spelling_of written_form r) [],
    )

-- they fit
lookup_fits : (l : Lookup) → l.number < 200000 → AllByRecursion Fits (records_of l)
unfolding records_of
lookup_fits l few =
    some_fit (nat_eq (l.drawn % 16) 0) (query_record l) (response_record l)
    (record_fits (query_time l) (query_packet l) (omega (arith, few)) (query_packet-short l))
    (record_fits (response_time l) (response_packet l) (omega (arith, few)) (response_packet-short l))

-- and have at most 208 bytes
lookup_long : (l : Lookup) → length (spellings written_form (records_of l)) ≤ 208
unfolding records_of
lookup_long l =
    some_long (nat_eq (l.drawn % 16) 0) (query_record l) (response_record l) 88 (query_packet-short l) (response_packet-short l)

-- what holds of each record of two lists
all_of_both : (xs ys : List RawRecord) → AllByRecursion Fits xs → AllByRecursion Fits ys → AllByRecursion Fits (xs ++ ys)
all_of_both [] ys first second = second
all_of_both (x ∷ xs) ys first second = (first.0, all_of_both xs ys first.1 second)

-- the records of two lists are spelled one list after the other
pub spellings-append : (xs ys : List RawRecord) →
    spellings written_form (xs ++ ys) ≡ spellings written_form xs ++ spellings written_form ys
spellings-append [] ys = refl
spellings-append (x ∷ xs) ys =
    ap (λ t. spelling_of written_form x ++ t) (spellings-append xs ys)
    ∙ sym (append_assoc (spelling_of written_form x) (spellings written_form xs) (spellings written_form ys))

-- the records of lookups fit
pub records_fit : (count number state : ℕ) → number + count ≤ 200000 →
    AllByRecursion Fits (flat_map records_of (lookups count number state))
unfolding lookups
records_fit zero number state few = tt
records_fit (suc count) number state few =
    let first : Lookup = record { number = number; drawn = draw (next_state state) } in
    all_of_both (records_of first) (flat_map records_of (lookups count (number + 1) (next_state state)))
    (lookup_fits first (omega (arith, few)))
    (records_fit count (number + 1) (next_state state) (omega (arith, few)))

-- and have at most 208 bytes each
pub records_long : (count number state : ℕ) →
    length (spellings written_form (flat_map records_of (lookups count number state))) ≤ 208 * count
unfolding lookups
records_long zero number state = omega arith
records_long (suc count) number state =
    let first : Lookup = record { number = number; drawn = draw (next_state state) } in
    let others : List RawRecord = flat_map records_of (lookups count (number + 1) (next_state state)) in
    omega (
      arith,
      lookup_long first,
      records_long count (number + 1) (next_state state),
      ap length (spellings-append (records_of first) others),
      length-append (spellings written_form (records_of first)) (spellings written_form others),
    )
