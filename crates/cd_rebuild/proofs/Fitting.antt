-- Each packet of a block fits a record of a capture.
use Rattle.std.proofs.Common.{◌≡◌, ℕ, ◌+◌, ◌*◌, ◌/◌, ◌-◌, ◌<◌, ◌≤◌, min, Bool, true, false, cond, not, ◌&&◌, nat_lt, List, [], ◌∷◌, ◌++◌, length, take, Option, Some, None, refl, sym, ap, ◌∙◌, subst, arith, inl, inr, length-append}
use Rattle.std.specs.Prelude.{if◌then◌else◌, option_and_then, unwrap_or}
use Rattle.std.specs.List.{All, AllByRecursion, flat_map, filter_map, cons_option}
use Rattle.std.specs.Option.{option_map, option_map_or}
use Rattle.std.proofs.lemmas.Bool.{ltb-false}
use Rattle.std.proofs.lemmas.List.{length-take}
use Rattle.std.proofs.lemmas.List.Elements.{All-nil, All-cons, All-head, All-tail}
use Rattle.std.proofs.lemmas.List.Sorted.{All-permutation}
use Rattle.cd_block.specs.declared.kept.KeptBlock.{KeptBlock}
use Rattle.cd_block.specs.declared.kept.KeptData.{KeptData}
use Rattle.cd_block.specs.declared.kept.KeptItem.{KeptItem}
use Rattle.cd_block.specs.declared.kept.KeptMalformed.{KeptMalformed}
use Rattle.cd_block.specs.declared.kept.KeptSig.{KeptSig}
use Rattle.cd_block.specs.declared.stamp.Stamp.{Stamp}
use Rattle.cd_bytes.specs.Checksum.{checksum_of}
use Rattle.cd_message.specs.Written.{written_if_fits}
use Rattle.cd_packet.specs.Building.{address_bytes, udp_size, udp_header, udp_check, ipv4_front, ipv6_front, ip_header, most_payload, spelled, built}
use Rattle.cd_packet.specs.Layers.{Datagram}
use Rattle.cd_packet.specs.Time.{end_of_time}
use Rattle.cd_packet.specs.declared.address.Addr.{Addr}
use Rattle.cd_rebuild.specs.Datagrams.{default_hop, to_server, to_client, query_time, response_time, query_sending, response_sending, signed_sendings, item_sendings, malformed_time, malformed_sending, malformed_sendings}
use Rattle.cd_rebuild.specs.Ends.{item_ends, malformed_ends}
use Rattle.cd_rebuild.specs.Flags.{has_query, has_response, is_bare_signature, is_bare_data, is_udp}
use Rattle.cd_rebuild.specs.Order.{by_time}
use Rattle.cd_rebuild.specs.Rebuilding.{FitsCapture, block_sendings, block_packets, packet_of}
use Rattle.cd_rebuild.specs.Messages.{query_of, response_of}
use Rattle.cd_rebuild.specs.Times.{offset_tick, response_tick, nanoseconds}
use Rattle.cd_rebuild.specs.declared.rebuilt_block.Raw.{Raw}
use Rattle.cd_rebuild.specs.declared.sending.Sending.{Sending}
use Rattle.cd_rebuild.proofs.Ordering.{by_time_moves}

-- an address has at most sixteen bytes
size_small : (v6 : Bool) → (if v6 then 16 else 4) ≤ 16
size_small true = omega arith
size_small false = omega arith

address_small : (a : Addr) → length (address_bytes a) ≤ 16
address_small a =
    let is : length (address_bytes a) ≡ min (if a.v6 then 16 else 4) (length a.octets) = length-take (if a.v6 then 16 else 4) a.octets in
    omega (arith, is, size_small a.v6)

-- two addresses after some bytes
two_after : (front a b : List ℕ) (n : ℕ) → length front ≤ n → length a ≤ 16 → length b ≤ 16 → length (front ++ a ++ b) ≤ n + 32
two_after front a b n f x y =
    let is : length (front ++ a ++ b) ≡ length (front ++ a) + length b = length-append (front ++ a) b in
    let was : length (front ++ a) ≡ length front + length a = length-append front a in
    omega (arith, is, was, f, x, y)

-- a header of IP has at most 40 bytes, or 44 where its two addresses have not the version that it tells
header_small : (b : Bool) (a c six four : List ℕ) → length six ≤ 8 → length four ≤ 12 → length a ≤ 16 → length c ≤ 16 →
    length (if b then six ++ a ++ c else four ++ a ++ c) ≤ (if b then 40 else 44)
header_small true a c six four s f x y = two_after six a c 8 s x y
header_small false a c six four s f x y = two_after four a c 12 f x y

-- the greatest payload with the header before it
most : (b : Bool) (p h : ℕ) → p ≤ most_payload b → h ≤ (if b then 40 else 44) → h + 8 + p ≤ 65575
most true p h x y = omega (arith, x, y)
most false p h x y = omega (arith, x, y)

-- a header, eight bytes and a payload
three : (h u p : List ℕ) (n : ℕ) → length u ≡ 8 → length h + 8 + length p ≤ n → length (h ++ u ++ p) ≤ n
three h u p n e few =
    let is : length (h ++ u ++ p) ≡ length (h ++ u) + length p = length-append (h ++ u) p in
    let was : length (h ++ u) ≡ length h + length u = length-append h u in
    omega (arith, is, was, e, few)

-- what is spelled has at most 65,575 bytes
spelled_short : (d : Datagram) → length d.payload ≤ most_payload d.src.v6 → length (spelled d) ≤ 65575
spelled_short d few =
    let six = ipv6_front (udp_size d) d.hop in
    let four = ipv4_front (udp_size d + 20) d.hop (checksum_of (ipv4_front (udp_size d + 20) d.hop 0 ++ address_bytes d.src ++ address_bytes d.dst)) in
    let six_few : length six ≤ 8 = omega arith in
    let four_few : length four ≤ 12 = omega arith in
    let header : length (ip_header d) ≤ (if d.src.v6 then 40 else 44) =
    header_small d.src.v6 (address_bytes d.src) (address_bytes d.dst) six four six_few four_few (address_small d.src) (address_small d.dst) in
    three (ip_header d) (udp_header d (udp_check d)) d.payload 65575 refl (most d.src.v6 (length d.payload) (length (ip_header d)) few header)

-- a packet that is built was not too long
chosen : (b : Bool) (x bytes : List ℕ) → (if b then None else Some x) ≡ Some bytes → (b ≡ false) × (x ≡ bytes)
chosen true x bytes e = absurd cc
chosen false x bytes e = (refl, cc)

-- what is built has at most 65,575 bytes
built_short : (d : Datagram) (bytes : List ℕ) → built d ≡ Some bytes → length bytes ≤ 65575
unfolding built
built_short d bytes made =
    let so = chosen (nat_lt (most_payload d.src.v6) (length d.payload)) (spelled d) bytes made in
    subst (λ (bs : List ℕ). length bs ≤ 65575) so.1 (spelled_short d (ltb-false (most_payload d.src.v6) (length d.payload) so.0))

-- the packet of what is sent fits
record Fits (s : Sending) : Type 0 where
  timely : s.time < end_of_time
  short : (bytes : List ℕ) → s.packet ≡ Some bytes → length bytes ≤ 65575

-- a time is one
nanoseconds_timely : (ticks tick : ℕ) → nanoseconds ticks tick < end_of_time
nanoseconds_timely ticks tick = omega arith

-- a packet of a message that is written
written_short : (f : List ℕ → Datagram) (written : Option (List ℕ)) (bytes : List ℕ) → option_and_then (λ p. built (f p)) written ≡ Some bytes → length bytes ≤ 65575
written_short f None bytes made = absurd cc
written_short f (Some payload) bytes made = built_short (f payload) bytes made

-- one or none
one_or_none : (b : Bool) (s : Sending) → Fits s → AllByRecursion Fits (if b then s ∷ [] else [])
one_or_none true s fits = (fits, tt)
one_or_none false s fits = tt

-- all of two lists
all_both : (P : Sending → Type 0) (xs ys : List Sending) → AllByRecursion P xs → AllByRecursion P ys → AllByRecursion P (xs ++ ys)
all_both P [] ys one two = two
all_both P (x ∷ xs) ys one two = (one.0, all_both P xs ys one.1 two)

-- where a test passes, or none
where_passed : (b : Bool) (xs : List Sending) → AllByRecursion Fits xs → AllByRecursion Fits (if b then xs else [])
where_passed true xs all = all
where_passed false xs all = tt

-- what is sent of an item with a signature fits
signed_fit : (ticks : ℕ) (earliest : Option Stamp) (i : KeptItem) (s : KeptSig) → AllByRecursion Fits (signed_sendings ticks earliest i s)
signed_fit ticks earliest i s =
    let query : Fits (query_sending ticks earliest i s) = record {
      timely = nanoseconds_timely ticks (offset_tick ticks earliest i.time_offset);
      short = λ bytes made. written_short (to_server (item_ends i s) (query_time ticks earliest i) (unwrap_or i.client_hoplimit default_hop)) (written_if_fits (query_of i s)) bytes made;
    } in
    let response : Fits (response_sending ticks earliest i s) = record {
      timely = nanoseconds_timely ticks (response_tick (has_query s) i.response_delay (offset_tick ticks earliest i.time_offset));
      short = λ bytes made. written_short (to_client (item_ends i s) (response_time ticks earliest i s) default_hop) (written_if_fits (response_of i s)) bytes made;
    } in
    all_both Fits (if has_query s then query_sending ticks earliest i s ∷ [] else []) (if has_response s then response_sending ticks earliest i s ∷ [] else [])
    (one_or_none (has_query s) (query_sending ticks earliest i s) query) (one_or_none (has_response s) (response_sending ticks earliest i s) response)

-- what is sent of an item fits
item_fits_by : (ticks : ℕ) (earliest : Option Stamp) (i : KeptItem) (o : Option KeptSig) →
    AllByRecursion Fits (option_map_or (λ s. if not (is_bare_signature s) && is_udp s.transport_flags then signed_sendings ticks earliest i s else []) o [])
item_fits_by ticks earliest i None = tt
item_fits_by ticks earliest i (Some s) =
    where_passed (not (is_bare_signature s) && is_udp s.transport_flags) (signed_sendings ticks earliest i s) (signed_fit ticks earliest i s)

item_fits : (ticks : ℕ) (earliest : Option Stamp) (i : KeptItem) → AllByRecursion Fits (item_sendings ticks earliest i)
item_fits ticks earliest i = item_fits_by ticks earliest i i.signature

-- what is sent of a malformed message fits
malformed_fits_by : (ticks : ℕ) (earliest : Option Stamp) (m : KeptMalformed) (o : Option KeptData) →
    AllByRecursion Fits (option_map_or (λ d. if not (is_bare_data d) && is_udp d.transport_flags
    then malformed_sending ticks earliest m d (unwrap_or d.payload []) ∷ [] else []) o [])
malformed_fits_by ticks earliest m None = tt
malformed_fits_by ticks earliest m (Some d) =
    let fits : Fits (malformed_sending ticks earliest m d (unwrap_or d.payload [])) = record {
      timely = nanoseconds_timely ticks (offset_tick ticks earliest m.time_offset);
      short = λ bytes made. built_short (to_server (malformed_ends m d) (malformed_time ticks earliest m) default_hop (unwrap_or d.payload [])) bytes made;
    } in
    one_or_none (not (is_bare_data d) && is_udp d.transport_flags) (malformed_sending ticks earliest m d (unwrap_or d.payload [])) fits

malformed_fits : (ticks : ℕ) (earliest : Option Stamp) (m : KeptMalformed) → AllByRecursion Fits (malformed_sendings ticks earliest m)
malformed_fits ticks earliest m = malformed_fits_by ticks earliest m m.message_data

-- what is sent of a list fits
list_fits : {X : Type 0} (f : X → List Sending) → ((x : X) → AllByRecursion Fits (f x)) → (xs : List X) → AllByRecursion Fits (flat_map f xs)
list_fits f each [] = tt
list_fits f each (x ∷ xs) = all_both Fits (f x) (flat_map f xs) (each x) (list_fits f each xs)

-- what is sent of a block fits
block_fits : (ticks : ℕ) (b : KeptBlock) → AllByRecursion Fits (block_sendings ticks b)
block_fits ticks b =
    all_both Fits (flat_map (item_sendings ticks b.earliest) b.items) (flat_map (malformed_sendings ticks b.earliest) b.malformed)
    (list_fits (item_sendings ticks b.earliest) (item_fits ticks b.earliest) b.items)
    (list_fits (malformed_sendings ticks b.earliest) (malformed_fits ticks b.earliest) b.malformed)

-- the packet of what is sent
abbrev raw_at : ℕ → List ℕ → Raw
raw_at time bytes = record { time = time; bytes = bytes }

-- the packet of what is sent, before others
one_raw : (s : Sending) (o : Option (List ℕ)) (rest : List Raw) → s.packet ≡ o → Fits s → All FitsCapture rest →
    All FitsCapture (cons_option (option_map (raw_at s.time) o) rest)
one_raw s None rest is fits all = all
one_raw s (Some bytes) rest is fits all =
    All-cons FitsCapture (raw_at s.time bytes) rest (record { timely = fits.timely; short = fits.short bytes is }) all

-- the packets of what is sent
raws_fit : (ss : List Sending) → AllByRecursion Fits ss → All FitsCapture (filter_map packet_of ss)
raws_fit [] all = All-nil FitsCapture
raws_fit (s ∷ ss) all = one_raw s s.packet (filter_map packet_of ss) refl all.0 (raws_fit ss all.1)

-- each packet of a block fits a record of a capture
pub packets_fit : (ticks : ℕ) (b : KeptBlock) → All FitsCapture (block_packets ticks b)
packets_fit ticks b =
    let raws = filter_map packet_of (block_sendings ticks b) in
    All-permutation FitsCapture raws (by_time raws) (by_time_moves raws) (raws_fit (block_sendings ticks b) (block_fits ticks b))
