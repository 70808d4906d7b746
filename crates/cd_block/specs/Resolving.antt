-- What a block resolves to: the kept block that has each value where the block has its index, or the first fault in the
-- order in which a kept block is gone through (`Traversal`).
use Rattle.std.specs.Prelude.{ℕ, Bool, ◌&&◌, nat_le, List, [], ◌∷◌, length, slice_get, Option, Some, None, Result, Ok, Err, if◌then◌else◌}
use Rattle.std.specs.Option.{ok_or}
use Rattle.cd_name.specs.Names.{are_labels_and_root}
use Rattle.cd_block.specs.declared.keys.TheConstants as key
use Rattle.cd_block.specs.declared.kept.KeptQuestion.{KeptQuestion}
use Rattle.cd_block.specs.declared.kept.KeptRr.{KeptRr}
use Rattle.cd_block.specs.declared.kept.KeptLists.{KeptLists}
use Rattle.cd_block.specs.declared.kept.KeptSig.{KeptSig}
use Rattle.cd_block.specs.declared.kept.KeptItem.{KeptItem}
use Rattle.cd_block.specs.declared.kept.KeptData.{KeptData}
use Rattle.cd_block.specs.declared.kept.KeptMalformed.{KeptMalformed}
use Rattle.cd_block.specs.declared.kept.KeptBlock.{KeptBlock}
use Rattle.cd_block.specs.declared.block.BlockLists.{BlockLists}
use Rattle.cd_block.specs.declared.block.BlockItem.{BlockItem}
use Rattle.cd_block.specs.declared.block.BlockMalformed.{BlockMalformed}
use Rattle.cd_block.specs.declared.block.Block.{Block}

-- why a block does not resolve: an index is at or past the length of the table of this key, or bytes that are used as a
-- name are none
pub data Unresolved : Type 0 where
  PastTable : ℕ → Unresolved
  NotName : Unresolved

-- what a value resolves to, or the first fault in it
abbrev pub Resolving : Type 0 → Type 0
Resolving A = Result A Unresolved

infixl 10 ◌>>=◌
-- one value and then another, which may take the first
abbrev pub ◌>>=◌ : {A B : Type 0} → Resolving A → (A → Resolving B) → Resolving B
(Ok x) >>= next = next x
(Err why) >>= next = Err why

-- a value that may be absent
abbrev pub if_present : {A B : Type 0} → (A → Resolving B) → Option A → Resolving (Option B)
if_present resolved None = Ok None
if_present resolved (Some x) = do
  value ← resolved x
  Ok (Some value)

-- values one after the other
unfoldable pub each : {A B : Type 0} → (A → Resolving B) → List A → Resolving (List B)
each resolved [] = Ok []
each resolved (x ∷ xs) = do
  value ← resolved x
  values ← each resolved xs
  Ok (value ∷ values)

-- the entry of a table at an index, where the table has this key
abbrev pub entry : {A : Type 0} → ℕ → List A → ℕ → Resolving A
entry table_key table index = ok_or (slice_get table index) (PastTable table_key)

-- whether bytes are a name without pointers (RFC 1035 3.1)
abbrev pub is_name : List ℕ → Bool
is_name bytes = are_labels_and_root 0 bytes && nat_le (length bytes) 255

-- bytes as a name
abbrev pub name_of : List ℕ → Resolving (List ℕ)
name_of bytes = if is_name bytes then Ok bytes else Err NotName

-- the address at an index
abbrev pub resolved_address : Block → ℕ → Resolving (List ℕ)
resolved_address b index = entry key.TABLES_IP_ADDRESS b.ip_address index

-- the type and the class at an index
abbrev pub resolved_classtype : Block → ℕ → Resolving (ℕ × ℕ)
resolved_classtype b index = entry key.TABLES_CLASSTYPE b.classtype index

-- the bytes at an index, which are RDATA or a name
abbrev pub resolved_bytes : Block → ℕ → Resolving (List ℕ)
resolved_bytes b index = entry key.TABLES_NAME_RDATA b.name_rdata index

-- the name at an index
unfoldable pub resolved_name : Block → ℕ → Resolving (List ℕ)
resolved_name b index = do
  bytes ← resolved_bytes b index
  name_of bytes

-- the signature at an index: its entry, its server's address, its type and class, and the options of its OPT record
unfoldable pub resolved_signature : Block → ℕ → Resolving KeptSig
resolved_signature b index = do
  s ← entry key.TABLES_QR_SIG b.qr_sig index
  server_address ← if_present (resolved_address b) s.server_address
  classtype ← if_present (resolved_classtype b) s.classtype
  opt_rdata ← if_present (resolved_bytes b) s.opt_rdata
  Ok (record {
    server_address = server_address;
    server_port = s.server_port;
    transport_flags = s.transport_flags;
    sig_flags = s.sig_flags;
    opcode = s.opcode;
    dns_flags = s.dns_flags;
    query_rcode = s.query_rcode;
    classtype = classtype;
    qd = s.qd;
    an = s.an;
    ns = s.ns;
    ar = s.ar;
    edns_version = s.edns_version;
    udp_size = s.udp_size;
    opt_rdata = opt_rdata;
    response_rcode = s.response_rcode;
  })

-- the question at an index: its entry, its name, and its type and class
unfoldable pub resolved_question : Block → ℕ → Resolving KeptQuestion
resolved_question b index = do
  q ← entry key.TABLES_QRR b.qrr index
  name ← resolved_name b q.name
  classtype ← resolved_classtype b q.classtype
  Ok (record { name = name; rtype = classtype.0; rclass = classtype.1 })

-- the list of questions at an index, and each of its questions; an absent list is an empty one
unfoldable pub resolved_questions : Block → Option ℕ → Resolving (List KeptQuestion)
resolved_questions b None = Ok []
resolved_questions b (Some index) = do
  indexes ← entry key.TABLES_QLIST b.qlist index
  each (resolved_question b) indexes

-- the resource record at an index: its entry, its name, its type and class, and its RDATA
unfoldable pub resolved_record : Block → ℕ → Resolving KeptRr
resolved_record b index = do
  r ← entry key.TABLES_RR b.rr index
  name ← resolved_name b r.name
  classtype ← resolved_classtype b r.classtype
  rdata ← if_present (resolved_bytes b) r.rdata
  Ok (record { name = name; rtype = classtype.0; rclass = classtype.1; ttl = r.ttl; rdata = rdata })

-- the list of resource records at an index, and each of its records; an absent list is an empty one
unfoldable pub resolved_records : Block → Option ℕ → Resolving (List KeptRr)
resolved_records b None = Ok []
resolved_records b (Some index) = do
  indexes ← entry key.TABLES_RRLIST b.rrlist index
  each (resolved_record b) indexes

-- an extended part: its questions, answers, authority records and additional records
unfoldable pub resolved_lists : Block → BlockLists → Resolving KeptLists
resolved_lists b l = do
  question ← resolved_questions b l.question
  answer ← resolved_records b l.answer
  authority ← resolved_records b l.authority
  additional ← resolved_records b l.additional
  Ok (record { question = question; answer = answer; authority = authority; additional = additional })

-- an item: its client's address, its signature, its query's name, and the extended parts of its query and its response
unfoldable pub resolved_item : Block → BlockItem → Resolving KeptItem
resolved_item b i = do
  client_address ← if_present (resolved_address b) i.client_address
  signature ← if_present (resolved_signature b) i.signature
  query_name ← if_present (resolved_name b) i.query_name
  query_extended ← resolved_lists b i.query_extended
  response_extended ← resolved_lists b i.response_extended
  Ok (record {
    time_offset = i.time_offset;
    client_address = client_address;
    client_port = i.client_port;
    transaction_id = i.transaction_id;
    signature = signature;
    client_hoplimit = i.client_hoplimit;
    response_delay = i.response_delay;
    query_name = query_name;
    query_size = i.query_size;
    response_size = i.response_size;
    query_extended = query_extended;
    response_extended = response_extended;
  })

-- the data of a malformed message at an index: its entry, and its server's address
unfoldable pub resolved_data : Block → ℕ → Resolving KeptData
resolved_data b index = do
  d ← entry key.TABLES_MALFORMED_MESSAGE_DATA b.malformed_message_data index
  server_address ← if_present (resolved_address b) d.server_address
  Ok (record {
    server_address = server_address;
    server_port = d.server_port;
    transport_flags = d.transport_flags;
    payload = d.payload;
  })

-- a malformed message: its client's address, and its data
unfoldable pub resolved_malformed : Block → BlockMalformed → Resolving KeptMalformed
resolved_malformed b m = do
  client_address ← if_present (resolved_address b) m.client_address
  message_data ← if_present (resolved_data b) m.message_data
  Ok (record {
    time_offset = m.time_offset;
    client_address = client_address;
    client_port = m.client_port;
    message_data = message_data;
  })

-- a block: its items, and then its malformed messages
unfoldable pub resolved : Block → Resolving KeptBlock
resolved b = do
  items ← each (resolved_item b) b.items
  malformed ← each (resolved_malformed b) b.malformed
  Ok (record { earliest = b.earliest; params = b.params; stats = b.stats; items = items; malformed = malformed })
