-- The block of a kept block: nine tables, each of which has each of its values once, in the order of first use, and the
-- index of each value in its place (RFC 8618 7.3.2.3).
use Rattle.std.specs.Prelude.{ℕ, Bool, not, List, [], ◌∷◌, length, map, filter, position, unwrap_or, Option, Some, None}
use Rattle.std.specs.Option.{option_map}
use Rattle.cd_block.specs.declared.kept.KeptQuestion.{KeptQuestion}
use Rattle.cd_block.specs.declared.kept.KeptRr.{KeptRr}
use Rattle.cd_block.specs.declared.kept.KeptLists.{KeptLists}
use Rattle.cd_block.specs.declared.kept.KeptSig.{KeptSig}
use Rattle.cd_block.specs.declared.kept.KeptItem.{KeptItem}
use Rattle.cd_block.specs.declared.kept.KeptData.{KeptData}
use Rattle.cd_block.specs.declared.kept.KeptMalformed.{KeptMalformed}
use Rattle.cd_block.specs.declared.kept.KeptBlock.{KeptBlock}
use Rattle.cd_block.specs.declared.block.BlockQuestion.{BlockQuestion}
use Rattle.cd_block.specs.declared.block.BlockRr.{BlockRr}
use Rattle.cd_block.specs.declared.block.BlockLists.{BlockLists}
use Rattle.cd_block.specs.declared.block.BlockSig.{BlockSig}
use Rattle.cd_block.specs.declared.block.BlockItem.{BlockItem}
use Rattle.cd_block.specs.declared.block.BlockData.{BlockData}
use Rattle.cd_block.specs.declared.block.BlockMalformed.{BlockMalformed}
use Rattle.cd_block.specs.declared.block.Block.{Block}
use Rattle.cd_block.specs.Equality.{same_bytes, same_classtype, same_question, same_questions, same_record, same_records, same_signature, same_data}
use Rattle.cd_block.specs.Traversal.{Visited, used, visited, as_address, as_classtype, as_bytes, as_signature, as_question_list, as_question, as_record_list, as_record, as_data}

-- the values with every later repeat removed
abbrev pub table_of : {T : Type 0} → (T → T → Bool) → List T → List T
table_of same [] = []
table_of same (v ∷ vs) = v ∷ filter (λ w. not (same v w)) (table_of same vs)

-- the index of a value in a table
abbrev pub index_in : {T : Type 0} → (T → T → Bool) → List T → T → ℕ
index_in same table value = unwrap_or (position (same value) table) (length table)

-- the nine tables, with each value itself and not the indexes of its parts
pub record KeptTables : Type 0 where
  pub ip_address : List (List ℕ)
  pub classtype : List (ℕ × ℕ)
  pub name_rdata : List (List ℕ)
  pub qr_sig : List KeptSig
  pub qlist : List (List KeptQuestion)
  pub qrr : List KeptQuestion
  pub rrlist : List (List KeptRr)
  pub rr : List KeptRr
  pub malformed_message_data : List KeptData

-- the tables of values that are gone through: each has the values of its kind
abbrev pub tables_of : List Visited → KeptTables
tables_of values = record {
  ip_address = table_of same_bytes (used as_address values);
  classtype = table_of same_classtype (used as_classtype values);
  name_rdata = table_of same_bytes (used as_bytes values);
  qr_sig = table_of same_signature (used as_signature values);
  qlist = table_of same_questions (used as_question_list values);
  qrr = table_of same_question (used as_question values);
  rrlist = table_of same_records (used as_record_list values);
  rr = table_of same_record (used as_record values);
  malformed_message_data = table_of same_data (used as_data values);
}

-- the index of an address
abbrev pub address_index : KeptTables → List ℕ → ℕ
address_index t bytes = index_in same_bytes t.ip_address bytes

-- the index of a type and a class
abbrev pub classtype_index : KeptTables → ℕ × ℕ → ℕ
classtype_index t c = index_in same_classtype t.classtype c

-- the index of a name or of RDATA
abbrev pub bytes_index : KeptTables → List ℕ → ℕ
bytes_index t bytes = index_in same_bytes t.name_rdata bytes

-- the index of a signature
abbrev pub signature_index : KeptTables → KeptSig → ℕ
signature_index t s = index_in same_signature t.qr_sig s

-- the index of a question
abbrev pub question_index : KeptTables → KeptQuestion → ℕ
question_index t q = index_in same_question t.qrr q

-- the index of a resource record
abbrev pub record_index : KeptTables → KeptRr → ℕ
record_index t r = index_in same_record t.rr r

-- the index of the data of a malformed message
abbrev pub data_index : KeptTables → KeptData → ℕ
data_index t d = index_in same_data t.malformed_message_data d

-- the index of a list of questions; an empty list is an absent one
abbrev pub question_list_index : KeptTables → List KeptQuestion → Option ℕ
question_list_index t [] = None
question_list_index t (q ∷ qs) = Some (index_in same_questions t.qlist (q ∷ qs))

-- the index of a list of resource records; an empty list is an absent one
abbrev pub record_list_index : KeptTables → List KeptRr → Option ℕ
record_list_index t [] = None
record_list_index t (r ∷ rs) = Some (index_in same_records t.rrlist (r ∷ rs))

-- a question with the indexes of its parts
unfoldable pub indexed_question : KeptTables → KeptQuestion → BlockQuestion
indexed_question t q = record { name = bytes_index t q.name; classtype = classtype_index t (q.rtype, q.rclass) }

-- a resource record with the indexes of its parts
unfoldable pub indexed_record : KeptTables → KeptRr → BlockRr
indexed_record t r = record {
  name = bytes_index t r.name;
  classtype = classtype_index t (r.rtype, r.rclass);
  ttl = r.ttl;
  rdata = option_map (bytes_index t) r.rdata;
}

-- an extended part with the indexes of its lists
unfoldable pub indexed_lists : KeptTables → KeptLists → BlockLists
indexed_lists t l = record {
  question = question_list_index t l.question;
  answer = record_list_index t l.answer;
  authority = record_list_index t l.authority;
  additional = record_list_index t l.additional;
}

-- a signature with the indexes of its parts
unfoldable pub indexed_signature : KeptTables → KeptSig → BlockSig
indexed_signature t s = record {
  server_address = option_map (address_index t) s.server_address;
  server_port = s.server_port;
  transport_flags = s.transport_flags;
  sig_flags = s.sig_flags;
  opcode = s.opcode;
  dns_flags = s.dns_flags;
  query_rcode = s.query_rcode;
  classtype = option_map (classtype_index t) s.classtype;
  qd = s.qd;
  an = s.an;
  ns = s.ns;
  ar = s.ar;
  edns_version = s.edns_version;
  udp_size = s.udp_size;
  opt_rdata = option_map (bytes_index t) s.opt_rdata;
  response_rcode = s.response_rcode;
}

-- an item with the indexes of its parts
unfoldable pub indexed_item : KeptTables → KeptItem → BlockItem
indexed_item t i = record {
  time_offset = i.time_offset;
  client_address = option_map (address_index t) i.client_address;
  client_port = i.client_port;
  transaction_id = i.transaction_id;
  signature = option_map (signature_index t) i.signature;
  client_hoplimit = i.client_hoplimit;
  response_delay = i.response_delay;
  query_name = option_map (bytes_index t) i.query_name;
  query_size = i.query_size;
  response_size = i.response_size;
  query_extended = indexed_lists t i.query_extended;
  response_extended = indexed_lists t i.response_extended;
}

-- the data of a malformed message with the index of its server's address
unfoldable pub indexed_data : KeptTables → KeptData → BlockData
indexed_data t d = record {
  server_address = option_map (address_index t) d.server_address;
  server_port = d.server_port;
  transport_flags = d.transport_flags;
  payload = d.payload;
}

-- a malformed message with the indexes of its parts
unfoldable pub indexed_malformed : KeptTables → KeptMalformed → BlockMalformed
indexed_malformed t m = record {
  time_offset = m.time_offset;
  client_address = option_map (address_index t) m.client_address;
  client_port = m.client_port;
  message_data = option_map (data_index t) m.message_data;
}

-- a block with these tables, and with the index there of each value that stands in one
unfoldable pub indexed_in : KeptTables → KeptBlock → Block
indexed_in t b = record {
  earliest = b.earliest;
  params = b.params;
  stats = b.stats;
  items = map (indexed_item t) b.items;
  malformed = map (indexed_malformed t) b.malformed;
  ip_address = t.ip_address;
  classtype = t.classtype;
  name_rdata = t.name_rdata;
  qr_sig = map (indexed_signature t) t.qr_sig;
  qlist = map (map (question_index t)) t.qlist;
  qrr = map (indexed_question t) t.qrr;
  rrlist = map (map (record_index t)) t.rrlist;
  rr = map (indexed_record t) t.rr;
  malformed_message_data = map (indexed_data t) t.malformed_message_data;
}

-- the block of a kept block, with the tables of the values that it uses
abbrev pub indexed : KeptBlock → Block
indexed b = indexed_in (tables_of (visited b)) b
