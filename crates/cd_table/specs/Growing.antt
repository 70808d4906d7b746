-- How the tables of a block grow, value by value. The tables hold values of a block, with the indexes of their parts.
use Rattle.std.specs.Prelude.{ℕ, List, [], ◌∷◌, ◌++◌, Option, Some, None}
use Rattle.std.specs.List.{position_or_len}
use Rattle.cd_block.specs.declared.kept.KeptQuestion.{KeptQuestion}
use Rattle.cd_block.specs.declared.kept.KeptRr.{KeptRr}
use Rattle.cd_block.specs.declared.kept.KeptLists.{KeptLists}
use Rattle.cd_block.specs.declared.kept.KeptSig.{KeptSig}
use Rattle.cd_block.specs.declared.kept.KeptItem.{KeptItem}
use Rattle.cd_block.specs.declared.kept.KeptData.{KeptData}
use Rattle.cd_block.specs.declared.kept.KeptMalformed.{KeptMalformed}
use Rattle.cd_block.specs.declared.kept.KeptBlock.{KeptBlock}
use Rattle.cd_block.specs.declared.block.Block.{Block}
use Rattle.cd_block.specs.declared.block.BlockQuestion.{BlockQuestion}
use Rattle.cd_block.specs.declared.block.BlockRr.{BlockRr}
use Rattle.cd_block.specs.declared.block.BlockLists.{BlockLists}
use Rattle.cd_block.specs.declared.block.BlockSig.{BlockSig}
use Rattle.cd_block.specs.declared.block.BlockItem.{BlockItem}
use Rattle.cd_block.specs.declared.block.BlockData.{BlockData}
use Rattle.cd_block.specs.declared.block.BlockMalformed.{BlockMalformed}
use Rattle.cd_block.specs.Equality.{same_bytes, same_classtype}
use Rattle.cd_table.specs.declared.tables.Tables.{Tables}
use Rattle.cd_table.specs.Interning.{put}
use Rattle.cd_table.specs.Equality.{same_indexes, same_block_question, same_block_record, same_block_signature, same_block_data}

-- the tables after a step, and what the step gives
pub record After (A : Type 0) : Type 0 where
  pub tables : Tables
  pub value : A

-- a step that makes tables grow
abbrev pub Growing : Type 0 → Type 0
Growing A = Tables → After A

infixl 10 ◌>>=◌
-- one step after another, which takes what the first one gives
abbrev pub ◌>>=◌ : {A B : Type 0} → Growing A → (A → Growing B) → Growing B
(step >>= next) t = next (step t).value (step t).tables

-- no step, which gives a value
abbrev pub give : {A : Type 0} → A → Growing A
give value t = record { tables = t; value = value }

-- a step for a value that may be absent
abbrev pub if_present : {A B : Type 0} → (A → Growing B) → Option A → Growing (Option B)
if_present step None = give None
if_present step (Some x) = do
  value ← step x
  give (Some value)

-- a step for each value
unfoldable pub each : {A B : Type 0} → (A → Growing B) → List A → Growing (List B)
each step [] = give []
each step (x ∷ xs) = do
  value ← step x
  values ← each step xs
  give (value ∷ values)

-- an address is put, which gives its index
unfoldable pub put_address : List ℕ → Growing ℕ
put_address bytes t = record {
  tables = record t { ip_address = put same_bytes t.ip_address bytes };
  value = position_or_len (same_bytes bytes) t.ip_address;
}

-- a type and a class
unfoldable pub put_classtype : ℕ × ℕ → Growing ℕ
put_classtype c t = record {
  tables = record t { classtype = put same_classtype t.classtype c };
  value = position_or_len (same_classtype c) t.classtype;
}

-- a name or RDATA
unfoldable pub put_bytes : List ℕ → Growing ℕ
put_bytes bytes t = record {
  tables = record t { name_rdata = put same_bytes t.name_rdata bytes };
  value = position_or_len (same_bytes bytes) t.name_rdata;
}

-- a signature with the indexes of its parts
unfoldable pub put_block_signature : BlockSig → Growing ℕ
put_block_signature s t = record {
  tables = record t { qr_sig = put same_block_signature t.qr_sig s };
  value = position_or_len (same_block_signature s) t.qr_sig;
}

-- a question with the indexes of its parts
unfoldable pub put_block_question : BlockQuestion → Growing ℕ
put_block_question q t = record {
  tables = record t { qrr = put same_block_question t.qrr q };
  value = position_or_len (same_block_question q) t.qrr;
}

-- a list of the indexes of questions
unfoldable pub put_question_indexes : List ℕ → Growing ℕ
put_question_indexes indexes t = record {
  tables = record t { qlist = put same_indexes t.qlist indexes };
  value = position_or_len (same_indexes indexes) t.qlist;
}

-- a resource record with the indexes of its parts
unfoldable pub put_block_record : BlockRr → Growing ℕ
put_block_record r t = record {
  tables = record t { rr = put same_block_record t.rr r };
  value = position_or_len (same_block_record r) t.rr;
}

-- a list of the indexes of resource records
unfoldable pub put_record_indexes : List ℕ → Growing ℕ
put_record_indexes indexes t = record {
  tables = record t { rrlist = put same_indexes t.rrlist indexes };
  value = position_or_len (same_indexes indexes) t.rrlist;
}

-- the data of a malformed message with the index of its server's address
unfoldable pub put_block_data : BlockData → Growing ℕ
put_block_data d t = record {
  tables = record t { malformed_message_data = put same_block_data t.malformed_message_data d };
  value = position_or_len (same_block_data d) t.malformed_message_data;
}

-- a signature whose parts have these indexes
abbrev pub signature_at : KeptSig → Option ℕ → Option ℕ → Option ℕ → BlockSig
signature_at s server_address classtype opt_rdata = record {
  server_address = server_address;
  server_port = s.server_port;
  transport_flags = s.transport_flags;
  sig_flags = s.sig_flags;
  opcode = s.opcode;
  dns_flags = s.dns_flags;
  query_rcode = s.query_rcode;
  classtype = classtype;
  qd = s.qd;
  an = s.an;
  ns = s.ns;
  ar = s.ar;
  edns_version = s.edns_version;
  udp_size = s.udp_size;
  opt_rdata = opt_rdata;
  response_rcode = s.response_rcode;
}

-- a signature and its parts
unfoldable pub put_signature : KeptSig → Growing ℕ
put_signature s = do
  server_address ← if_present put_address s.server_address
  classtype ← if_present put_classtype s.classtype
  opt_rdata ← if_present put_bytes s.opt_rdata
  put_block_signature (signature_at s server_address classtype opt_rdata)

-- a question and its parts
unfoldable pub put_question : KeptQuestion → Growing ℕ
put_question q = do
  name ← put_bytes q.name
  classtype ← put_classtype (q.rtype, q.rclass)
  put_block_question (record { name = name; classtype = classtype })

-- a list of questions and each of them; an empty list is an absent one
unfoldable pub put_questions : List KeptQuestion → Growing (Option ℕ)
put_questions [] = give None
put_questions (q ∷ qs) = do
  indexes ← each put_question (q ∷ qs)
  index ← put_question_indexes indexes
  give (Some index)

-- a resource record and its parts
unfoldable pub put_record : KeptRr → Growing ℕ
put_record r = do
  name ← put_bytes r.name
  classtype ← put_classtype (r.rtype, r.rclass)
  rdata ← if_present put_bytes r.rdata
  put_block_record (record { name = name; classtype = classtype; ttl = r.ttl; rdata = rdata })

-- a list of resource records and each of them; an empty list is an absent one
unfoldable pub put_records : List KeptRr → Growing (Option ℕ)
put_records [] = give None
put_records (r ∷ rs) = do
  indexes ← each put_record (r ∷ rs)
  index ← put_record_indexes indexes
  give (Some index)

-- an extended part
unfoldable pub put_lists : KeptLists → Growing BlockLists
put_lists l = do
  question ← put_questions l.question
  answer ← put_records l.answer
  authority ← put_records l.authority
  additional ← put_records l.additional
  give (record { question = question; answer = answer; authority = authority; additional = additional })

-- an item whose parts have these indexes
abbrev pub item_at : KeptItem → Option ℕ → Option ℕ → Option ℕ → BlockLists → BlockLists → BlockItem
item_at i client_address signature query_name query_extended response_extended = record {
  time_offset = i.time_offset;
  client_address = client_address;
  client_port = i.client_port;
  transaction_id = i.transaction_id;
  signature = signature;
  client_hoplimit = i.client_hoplimit;
  response_delay = i.response_delay;
  query_name = query_name;
  query_size = i.query_size;
  response_size = i.response_size;
  query_extended = query_extended;
  response_extended = response_extended;
}

-- the parts of an item, which give the item of the block
unfoldable pub put_item : KeptItem → Growing BlockItem
put_item i = do
  client_address ← if_present put_address i.client_address
  signature ← if_present put_signature i.signature
  query_name ← if_present put_bytes i.query_name
  query_extended ← put_lists i.query_extended
  response_extended ← put_lists i.response_extended
  give (item_at i client_address signature query_name query_extended response_extended)

-- the data of a malformed message whose server's address has this index
abbrev pub data_at : KeptData → Option ℕ → BlockData
data_at d server_address = record {
  server_address = server_address;
  server_port = d.server_port;
  transport_flags = d.transport_flags;
  payload = d.payload;
}

-- the data of a malformed message and its part
unfoldable pub put_data : KeptData → Growing ℕ
put_data d = do
  server_address ← if_present put_address d.server_address
  put_block_data (data_at d server_address)

-- a malformed message whose parts have these indexes
abbrev pub malformed_at : KeptMalformed → Option ℕ → Option ℕ → BlockMalformed
malformed_at m client_address message_data = record {
  time_offset = m.time_offset;
  client_address = client_address;
  client_port = m.client_port;
  message_data = message_data;
}

-- the parts of a malformed message, which give the malformed message of the block
unfoldable pub put_malformed : KeptMalformed → Growing BlockMalformed
put_malformed m = do
  client_address ← if_present put_address m.client_address
  message_data ← if_present put_data m.message_data
  give (malformed_at m client_address message_data)

-- tables that hold nothing
abbrev pub no_tables : Tables
no_tables = record {
  ip_address = [];
  classtype = [];
  name_rdata = [];
  qr_sig = [];
  qlist = [];
  qrr = [];
  rrlist = [];
  rr = [];
  malformed_message_data = [];
}

-- a block of these items and malformed messages, with these tables
abbrev pub block_of : KeptBlock → List BlockItem → List BlockMalformed → Tables → Block
block_of b items malformed t = record {
  earliest = b.earliest;
  params = b.params;
  stats = b.stats;
  items = items;
  malformed = malformed;
  ip_address = t.ip_address;
  classtype = t.classtype;
  name_rdata = t.name_rdata;
  qr_sig = t.qr_sig;
  qlist = t.qlist;
  qrr = t.qrr;
  rrlist = t.rrlist;
  rr = t.rr;
  malformed_message_data = t.malformed_message_data;
}

-- the block whose tables grow item by item, and then malformed message by malformed message
unfoldable pub built : KeptBlock → Block
built b =
    let after_items = each put_item b.items no_tables in
    let after_all = each put_malformed b.malformed after_items.tables in
    block_of b after_items.value after_all.value after_all.tables

-- values in front of those that a step gives
abbrev pub in_front : {A : Type 0} → List A → After (List A) → After (List A)
in_front front a = record { tables = a.tables; value = front ++ a.value }
