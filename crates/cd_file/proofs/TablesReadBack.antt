-- The tables of a block that are written are read back.
use Rattle.std.proofs.Common.{ℕ, suc, [], Some, refl, arith}
use Rattle.cd_cbor.specs.Items.{bytes}
use Rattle.cd_block.specs.declared.block.Block.{Block}
use Rattle.cd_block.specs.declared.block.BlockData.{BlockData}
use Rattle.cd_block.specs.declared.block.BlockQuestion.{BlockQuestion}
use Rattle.cd_block.specs.declared.block.BlockRr.{BlockRr}
use Rattle.cd_block.specs.declared.block.BlockSig.{BlockSig}
use Rattle.cd_file.specs.Kinds.{unsigned as unsigned_kind, unsigned_below, byte_string, short_byte_string, array_of}
use Rattle.cd_file.specs.MapReading.{value_read, line_of, map_from}
use Rattle.cd_file.specs.ReadBlock.{no_block}
use Rattle.cd_file.specs.ReadTables.{classtype_table, no_signature, signature_table, question_table, no_question, rr_table, no_rr, malformed_data_table, no_data, tables_table}
use Rattle.cd_file.specs.Maps.{numbers}
use Rattle.cd_file.specs.Tables.{classtype_item, signature_item, question_item, rr_item, malformed_data_item, table_entries}
use Rattle.cd_file.specs.Ranges.{ClasstypeInRange}
use Rattle.cd_file.specs.Readable.{ReadableSignature, ReadableQuestion, ReadableRr, ReadableData, ReadableTables}
use Rattle.cd_file.proofs.ValuesReadBack.{ReadsBack, number_back, below_back, bytes_back, short_bytes_back, numbers_back, all_by, all_of}
use Rattle.cd_file.proofs.MapsReadBack.{PutsAll, puts_none, puts_more, puts_value, puts_option, puts_index, puts_below, puts_array, map_back}

-- a type and a class
pub classtype_back : (depth : ℕ) (c : ℕ × ℕ) → ClasstypeInRange c → ReadsBack (map_from classtype_table (0, 0)) (suc depth) (classtype_item c) c
unfolding value_read line_of
classtype_back depth c r =
    map_back classtype_table depth _ (0, 0) c refl refl
    (puts_more (puts_value (unsigned_below 0x1_0000) c.0 (λ n f. (n, f.1)) (below_back depth 0x1_0000 c.0 r.rtype (omega (arith, r.rtype))) (λ e. rw e refl))
    (puts_more (puts_value (unsigned_below 0x1_0000) c.1 (λ n f. (f.0, n)) (below_back depth 0x1_0000 c.1 r.rclass (omega (arith, r.rclass))) (λ e. rw e refl))
    (puts_none refl)))

-- a signature
pub signature_back : (depth : ℕ) (s : BlockSig) → ReadableSignature s → ReadsBack (map_from signature_table no_signature) (suc depth) (signature_item s) s
unfolding value_read line_of
signature_back depth s r =
    map_back signature_table depth _ no_signature s refl refl
    (puts_more (puts_index s.server_address (λ o f. record f { server_address = o }) r.server_address refl (λ n e. rw e refl))
    (puts_more (puts_below 0x1_0000 s.server_port (λ o f. record f { server_port = o }) (omega arith) r.ranges.server_port refl (λ n e. rw e refl))
    (puts_more (puts_below 0x100 s.transport_flags (λ o f. record f { transport_flags = o }) (omega arith) r.ranges.transport_flags refl (λ n e. rw e refl))
    (puts_more (puts_below 0x100 s.sig_flags (λ o f. record f { sig_flags = o }) (omega arith) r.ranges.sig_flags refl (λ n e. rw e refl))
    (puts_more (puts_below 16 s.opcode (λ o f. record f { opcode = o }) (omega arith) r.opcode refl (λ n e. rw e refl))
    (puts_more (puts_below 0x1_0000 s.dns_flags (λ o f. record f { dns_flags = o }) (omega arith) r.ranges.dns_flags refl (λ n e. rw e refl))
    (puts_more (puts_below 0x1000 s.query_rcode (λ o f. record f { query_rcode = o }) (omega arith) r.query_rcode refl (λ n e. rw e refl))
    (puts_more (puts_index s.classtype (λ o f. record f { classtype = o }) r.classtype refl (λ n e. rw e refl))
    (puts_more (puts_below 0x1_0000 s.qd (λ o f. record f { qd = o }) (omega arith) r.ranges.qd refl (λ n e. rw e refl))
    (puts_more (puts_below 0x1_0000 s.an (λ o f. record f { an = o }) (omega arith) r.ranges.an refl (λ n e. rw e refl))
    (puts_more (puts_below 0x1_0000 s.ns (λ o f. record f { ns = o }) (omega arith) r.ranges.ns refl (λ n e. rw e refl))
    (puts_more (puts_below 0x1_0000 s.ar (λ o f. record f { ar = o }) (omega arith) r.ranges.ar refl (λ n e. rw e refl))
    (puts_more (puts_below 0x100 s.edns_version (λ o f. record f { edns_version = o }) (omega arith) r.ranges.edns_version refl (λ n e. rw e refl))
    (puts_more (puts_below 0x1_0000 s.udp_size (λ o f. record f { udp_size = o }) (omega arith) r.ranges.udp_size refl (λ n e. rw e refl))
    (puts_more (puts_index s.opt_rdata (λ o f. record f { opt_rdata = o }) r.opt_rdata refl (λ n e. rw e refl))
    (puts_more (puts_below 0x1000 s.response_rcode (λ o f. record f { response_rcode = o }) (omega arith) r.response_rcode refl (λ n e. rw e refl))
    (puts_none refl)))))))))))))))))

-- a question
pub question_back : (depth : ℕ) (q : BlockQuestion) → ReadableQuestion q → ReadsBack (map_from question_table no_question) (suc depth) (question_item q) q
unfolding value_read line_of
question_back depth q r =
    map_back question_table depth _ no_question q refl refl
    (puts_more (puts_value unsigned_kind q.name (λ n f. record f { name = n }) (number_back depth q.name r.name) (λ e. rw e refl))
    (puts_more (puts_value unsigned_kind q.classtype (λ n f. record f { classtype = n }) (number_back depth q.classtype r.classtype) (λ e. rw e refl))
    (puts_none refl)))

-- a resource record
pub rr_back : (depth : ℕ) (x : BlockRr) → ReadableRr x → ReadsBack (map_from rr_table no_rr) (suc depth) (rr_item x) x
unfolding value_read line_of
rr_back depth x r =
    map_back rr_table depth _ no_rr x refl refl
    (puts_more (puts_value unsigned_kind x.name (λ n f. record f { name = n }) (number_back depth x.name r.name) (λ e. rw e refl))
    (puts_more (puts_value unsigned_kind x.classtype (λ n f. record f { classtype = n }) (number_back depth x.classtype r.classtype) (λ e. rw e refl))
    (puts_more (puts_index x.ttl (λ o f. record f { ttl = o }) r.ttl refl (λ n e. rw e refl))
    (puts_more (puts_index x.rdata (λ o f. record f { rdata = o }) r.rdata refl (λ n e. rw e refl))
    (puts_none refl)))))

-- the data of a malformed message
pub data_back : (depth : ℕ) (d : BlockData) → ReadableData d → ReadsBack (map_from malformed_data_table no_data) (suc depth) (malformed_data_item d) d
unfolding value_read line_of
data_back depth d r =
    map_back malformed_data_table depth _ no_data d refl refl
    (puts_more (puts_index d.server_address (λ o f. record f { server_address = o }) r.server_address refl (λ n e. rw e refl))
    (puts_more (puts_below 0x1_0000 d.server_port (λ o f. record f { server_port = o }) (omega arith) r.ranges.server_port refl (λ n e. rw e refl))
    (puts_more (puts_below 0x100 d.transport_flags (λ o f. record f { transport_flags = o }) (omega arith) r.ranges.transport_flags refl (λ n e. rw e refl))
    (puts_more
    (puts_option bytes d.payload (λ o f. record f { payload = o }) refl
    (λ content is. puts_value byte_string content (λ xs f. record f { payload = Some xs }) (bytes_back depth content) (λ e. rw e refl)))
    (puts_none refl)))))

-- a block with its time and its statistics alone
abbrev pub begun : Block → Block
begun b = record no_block { earliest = b.earliest; stats = b.stats }

-- a block with its tables too
abbrev pub with_tables : Block → Block
with_tables b = record b { params = 0; items = []; malformed = [] }

-- the tables
pub tables_put : (depth : ℕ) (b : Block) → ReadableTables b → PutsAll tables_table (suc (suc depth)) (table_entries b) (begun b) (with_tables b)
unfolding value_read line_of
tables_put depth b r =
    puts_more
    (puts_array (short_byte_string 16) bytes b.ip_address (λ xs f. record f { ip_address = xs })
    (all_by _ _ (λ x h. short_bytes_back (suc depth) 16 x h) b.ip_address r.ip_address) refl (λ e. rw e refl))
    (puts_more
    (puts_array (map_from classtype_table (0, 0)) classtype_item b.classtype (λ xs f. record f { classtype = xs })
    (all_by _ _ (classtype_back depth) b.classtype r.classtype) refl (λ e. rw e refl))
    (puts_more
    (puts_array byte_string bytes b.name_rdata (λ xs f. record f { name_rdata = xs })
    (all_of _ (bytes_back (suc depth)) b.name_rdata) refl (λ e. rw e refl))
    (puts_more
    (puts_array (map_from signature_table no_signature) signature_item b.qr_sig (λ xs f. record f { qr_sig = xs })
    (all_by _ _ (signature_back depth) b.qr_sig r.qr_sig) refl (λ e. rw e refl))
    (puts_more
    (puts_array (array_of unsigned_kind) numbers b.qlist (λ xs f. record f { qlist = xs })
    (all_by _ _ (numbers_back depth) b.qlist r.qlist) refl (λ e. rw e refl))
    (puts_more
    (puts_array (map_from question_table no_question) question_item b.qrr (λ xs f. record f { qrr = xs })
    (all_by _ _ (question_back depth) b.qrr r.qrr) refl (λ e. rw e refl))
    (puts_more
    (puts_array (array_of unsigned_kind) numbers b.rrlist (λ xs f. record f { rrlist = xs })
    (all_by _ _ (numbers_back depth) b.rrlist r.rrlist) refl (λ e. rw e refl))
    (puts_more
    (puts_array (map_from rr_table no_rr) rr_item b.rr (λ xs f. record f { rr = xs })
    (all_by _ _ (rr_back depth) b.rr r.rr) refl (λ e. rw e refl))
    (puts_more
    (puts_array (map_from malformed_data_table no_data) malformed_data_item b.malformed_message_data (λ xs f. record f { malformed_message_data = xs })
    (all_by _ _ (data_back depth) b.malformed_message_data r.malformed_message_data) refl (λ e. rw e refl))
    (puts_none refl)))))))))
