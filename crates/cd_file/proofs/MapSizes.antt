-- How long the maps of a block are.
use Rattle.std.proofs.Common.{ℕ, ◌+◌, ◌*◌, ◌≤◌, length, Some, refl, arith}
use Rattle.cd_block.specs.declared.block.BlockData.{BlockData}
use Rattle.cd_block.specs.declared.block.BlockItem.{BlockItem}
use Rattle.cd_block.specs.declared.block.BlockMalformed.{BlockMalformed}
use Rattle.cd_block.specs.declared.block.BlockQuestion.{BlockQuestion}
use Rattle.cd_block.specs.declared.block.BlockRr.{BlockRr}
use Rattle.cd_block.specs.declared.block.BlockSig.{BlockSig}
use Rattle.cd_block.specs.declared.stats.Stats.{Stats}
use Rattle.cd_cbor.specs.Integers.{signed}
use Rattle.cd_cbor.specs.Spelling.{spelling}
use Rattle.cd_file.specs.Maps.{entries_count}
use Rattle.cd_file.specs.Tables.{classtype_item, signature_item, question_item, rr_item, malformed_data_item}
use Rattle.cd_file.specs.Blocks.{statistics_item, extended_entries, query_response_item, malformed_item}
use Rattle.cd_file.specs.Ranges.{ClasstypeInRange, SignatureInRange, DataInRange, ItemInRange, MalformedInRange, string_length}
use Rattle.cd_file.proofs.Sizes.{map_short, entries_more, entries_end, entry_short, number_entry_short, word_entry_short, byte_entry_short, bytes_entry_short, signed_short, extended_short}

-- a signature
pub signature_short : (s : BlockSig) → SignatureInRange s → length (spelling (signature_item s)) ≤ 79
signature_short s r =
    map_short _ 78 (omega arith)
    (entries_more _ _ _ 10 68 (number_entry_short _ s.server_address refl)
    (entries_more _ _ _ 4 64 (word_entry_short _ s.server_port refl r.server_port)
    (entries_more _ _ _ 3 61 (byte_entry_short _ s.transport_flags refl r.transport_flags)
    (entries_more _ _ _ 3 58 (byte_entry_short _ s.sig_flags refl r.sig_flags)
    (entries_more _ _ _ 3 55 (byte_entry_short _ s.opcode refl r.opcode)
    (entries_more _ _ _ 4 51 (word_entry_short _ s.dns_flags refl r.dns_flags)
    (entries_more _ _ _ 4 47 (word_entry_short _ s.query_rcode refl r.query_rcode)
    (entries_more _ _ _ 10 37 (number_entry_short _ s.classtype refl)
    (entries_more _ _ _ 4 33 (word_entry_short _ s.qd refl r.qd)
    (entries_more _ _ _ 4 29 (word_entry_short _ s.an refl r.an)
    (entries_more _ _ _ 4 25 (word_entry_short _ s.ns refl r.ns)
    (entries_more _ _ _ 4 21 (word_entry_short _ s.ar refl r.ar)
    (entries_more _ _ _ 3 18 (byte_entry_short _ s.edns_version refl r.edns_version)
    (entries_more _ _ _ 4 14 (word_entry_short _ s.udp_size refl r.udp_size)
    (entries_more _ _ _ 10 4 (number_entry_short _ s.opt_rdata refl)
    (entries_more _ _ _ 4 0 (word_entry_short _ s.response_rcode refl r.response_rcode) entries_end))))))))))))))))

-- a question
pub question_short : (q : BlockQuestion) → length (spelling (question_item q)) ≤ 21
question_short q =
    map_short _ 20 (omega arith)
    (entries_more _ _ _ 10 10 (number_entry_short _ (Some q.name) refl)
    (entries_more _ _ _ 10 0 (number_entry_short _ (Some q.classtype) refl) entries_end))

-- a resource record
pub rr_short : (r : BlockRr) → length (spelling (rr_item r)) ≤ 41
rr_short r =
    map_short _ 40 (omega arith)
    (entries_more _ _ _ 10 30 (number_entry_short _ (Some r.name) refl)
    (entries_more _ _ _ 10 20 (number_entry_short _ (Some r.classtype) refl)
    (entries_more _ _ _ 10 10 (number_entry_short _ r.ttl refl)
    (entries_more _ _ _ 10 0 (number_entry_short _ r.rdata refl) entries_end))))

-- a malformed message
pub malformed_short : (m : BlockMalformed) → MalformedInRange m → length (spelling (malformed_item m)) ≤ 35
malformed_short m r =
    map_short _ 34 (omega arith)
    (entries_more _ _ _ 10 24 (number_entry_short _ m.time_offset refl)
    (entries_more _ _ _ 10 14 (number_entry_short _ m.client_address refl)
    (entries_more _ _ _ 4 10 (word_entry_short _ m.client_port refl r.client_port)
    (entries_more _ _ _ 10 0 (number_entry_short _ m.message_data refl) entries_end))))

-- a type and a class
pub classtype_short : (c : ℕ × ℕ) → ClasstypeInRange c → length (spelling (classtype_item c)) ≤ 9
classtype_short c r =
    map_short _ 8 (omega arith)
    (entries_more _ _ _ 4 4 (word_entry_short _ (Some c.0) refl r.rtype)
    (entries_more _ _ _ 4 0 (word_entry_short _ (Some c.1) refl r.rclass) entries_end))

-- the data of a malformed message
pub malformed_data_short : (d : BlockData) → DataInRange d → length (spelling (malformed_data_item d)) ≤ 28 + string_length d.payload
malformed_data_short d r =
    let rest = entries_more _ _ _ (10 + string_length d.payload) 0 (bytes_entry_short 3 d.payload refl) entries_end in
    let numbers = entries_more _ _ _ 10 _ (number_entry_short 0 d.server_address refl)
    (entries_more _ _ _ 4 _ (word_entry_short 1 d.server_port refl r.server_port)
    (entries_more _ _ _ 3 _ (byte_entry_short 2 d.transport_flags refl r.transport_flags) rest)) in
    let whole = map_short _ _ (omega arith) numbers in omega (arith, whole)

-- an item
pub item_short : (i : BlockItem) → ItemInRange i → length (spelling (query_response_item i)) ≤
    82 + (12 * entries_count (extended_entries i.query_extended) + 12 * entries_count (extended_entries i.response_extended))
item_short i r =
    let extended = entries_more _ _ _ _ _ (extended_short 11 i.query_extended refl)
    (entries_more _ _ _ _ _ (extended_short 12 i.response_extended refl) entries_end) in
    let numbers = entries_more _ _ _ 10 _ (number_entry_short 0 i.time_offset refl)
    (entries_more _ _ _ 10 _ (number_entry_short 1 i.client_address refl)
    (entries_more _ _ _ 4 _ (word_entry_short 2 i.client_port refl r.client_port)
    (entries_more _ _ _ 4 _ (word_entry_short 3 i.transaction_id refl r.transaction_id)
    (entries_more _ _ _ 10 _ (number_entry_short 4 i.signature refl)
    (entries_more _ _ _ 3 _ (byte_entry_short 5 i.client_hoplimit refl r.client_hoplimit)
    (entries_more _ _ _ 10 _ (entry_short signed 6 9 i.response_delay refl signed_short)
    (entries_more _ _ _ 10 _ (number_entry_short 7 i.query_name refl)
    (entries_more _ _ _ 10 _ (number_entry_short 8 i.query_size refl)
    (entries_more _ _ _ 10 _ (number_entry_short 9 i.response_size refl) extended))))))))) in
    let whole = map_short _ _ (omega arith) numbers in omega (arith, whole)

-- statistics
pub statistics_short : (s : Stats) → length (spelling (statistics_item s)) ≤ 61
statistics_short s =
    map_short _ 60 (omega arith)
    (entries_more _ _ _ 10 50 (number_entry_short _ (Some s.processed) refl)
    (entries_more _ _ _ 10 40 (number_entry_short _ (Some s.items) refl)
    (entries_more _ _ _ 10 30 (number_entry_short _ (Some s.unmatched_queries) refl)
    (entries_more _ _ _ 10 20 (number_entry_short _ (Some s.unmatched_responses) refl)
    (entries_more _ _ _ 10 10 (number_entry_short _ (Some s.discarded) refl)
    (entries_more _ _ _ 10 0 (number_entry_short _ (Some s.malformed) refl) entries_end))))))
