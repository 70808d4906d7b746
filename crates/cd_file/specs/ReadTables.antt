-- What the tables of a block give (RFC 8618 7.3.2.3). Each kind of map has one table here, with a line a key: whether it is
-- required, its kind, and its place.
use Rattle.std.specs.Prelude.{ℕ, List, [], ◌∷◌, None, Some}
use Rattle.cd_block.specs.declared.block.Block.{Block}
use Rattle.cd_block.specs.declared.block.BlockData.{BlockData}
use Rattle.cd_block.specs.declared.block.BlockQuestion.{BlockQuestion}
use Rattle.cd_block.specs.declared.block.BlockRr.{BlockRr}
use Rattle.cd_block.specs.declared.block.BlockSig.{BlockSig}
use Rattle.cd_block.specs.declared.keys.TheConstants as key
use Rattle.cd_file.specs.Kinds.{unsigned, unsigned_below, unsigned_if_below, byte_string, short_byte_string, array_of}
use Rattle.cd_file.specs.MapReading.{Line, required, optional, map_from}

-- the keys of a type and a class (RFC 8618 7.3.2.3.1)
abbrev pub classtype_table : List (Line (ℕ × ℕ))
classtype_table =
    required key.CLASSTYPE_TYPE (unsigned_below 0x1_0000) (λ n c. (n, c.1))
    ∷ required key.CLASSTYPE_CLASS (unsigned_below 0x1_0000) (λ n c. (c.0, n))
    ∷ []

-- a signature without fields
abbrev pub no_signature : BlockSig
no_signature = record {
  server_address = None;
  server_port = None;
  transport_flags = None;
  sig_flags = None;
  opcode = None;
  dns_flags = None;
  query_rcode = None;
  classtype = None;
  qd = None;
  an = None;
  ns = None;
  ar = None;
  edns_version = None;
  udp_size = None;
  opt_rdata = None;
  response_rcode = None;
}

-- the keys of a query-response signature (RFC 8618 7.3.2.3.2); here a number beyond its range is absent
abbrev pub signature_table : List (Line BlockSig)
signature_table =
    optional key.SIG_SERVER_ADDRESS unsigned (λ n s. record s { server_address = Some n })
    ∷ optional key.SIG_SERVER_PORT (unsigned_if_below 0x1_0000) (λ n s. record s { server_port = n })
    ∷ optional key.SIG_TRANSPORT_FLAGS (unsigned_if_below 0x100) (λ n s. record s { transport_flags = n })
    ∷ optional key.SIG_SIG_FLAGS (unsigned_if_below 0x100) (λ n s. record s { sig_flags = n })
    ∷ optional key.SIG_OPCODE (unsigned_if_below 16) (λ n s. record s { opcode = n })
    ∷ optional key.SIG_DNS_FLAGS (unsigned_if_below 0x1_0000) (λ n s. record s { dns_flags = n })
    ∷ optional key.SIG_QUERY_RCODE (unsigned_if_below 0x1000) (λ n s. record s { query_rcode = n })
    ∷ optional key.SIG_CLASSTYPE unsigned (λ n s. record s { classtype = Some n })
    ∷ optional key.SIG_QDCOUNT (unsigned_if_below 0x1_0000) (λ n s. record s { qd = n })
    ∷ optional key.SIG_ANCOUNT (unsigned_if_below 0x1_0000) (λ n s. record s { an = n })
    ∷ optional key.SIG_NSCOUNT (unsigned_if_below 0x1_0000) (λ n s. record s { ns = n })
    ∷ optional key.SIG_ARCOUNT (unsigned_if_below 0x1_0000) (λ n s. record s { ar = n })
    ∷ optional key.SIG_EDNS_VERSION (unsigned_if_below 0x100) (λ n s. record s { edns_version = n })
    ∷ optional key.SIG_UDP_SIZE (unsigned_if_below 0x1_0000) (λ n s. record s { udp_size = n })
    ∷ optional key.SIG_OPT_RDATA unsigned (λ n s. record s { opt_rdata = Some n })
    ∷ optional key.SIG_RESPONSE_RCODE (unsigned_if_below 0x1000) (λ n s. record s { response_rcode = n })
    ∷ []

-- the keys of a question (RFC 8618 7.3.2.3.3)
abbrev pub question_table : List (Line BlockQuestion)
question_table =
    required key.QUESTION_NAME unsigned (λ n q. record q { name = n })
    ∷ required key.QUESTION_CLASSTYPE unsigned (λ n q. record q { classtype = n })
    ∷ []

-- a question before its first entry
abbrev pub no_question : BlockQuestion
no_question = record { name = 0; classtype = 0 }

-- the keys of a resource record (RFC 8618 7.3.2.3.4)
abbrev pub rr_table : List (Line BlockRr)
rr_table =
    required key.RR_NAME unsigned (λ n r. record r { name = n })
    ∷ required key.RR_CLASSTYPE unsigned (λ n r. record r { classtype = n })
    ∷ optional key.RR_TTL unsigned (λ n r. record r { ttl = Some n })
    ∷ optional key.RR_RDATA unsigned (λ n r. record r { rdata = Some n })
    ∷ []

-- a resource record before its first entry
abbrev pub no_rr : BlockRr
no_rr = record { name = 0; classtype = 0; ttl = None; rdata = None }

-- the keys of the data of a malformed message (RFC 8618 7.3.2.3.5); here a number beyond its range is absent
abbrev pub malformed_data_table : List (Line BlockData)
malformed_data_table =
    optional key.MALFORMED_DATA_SERVER_ADDRESS unsigned (λ n d. record d { server_address = Some n })
    ∷ optional key.MALFORMED_DATA_SERVER_PORT (unsigned_if_below 0x1_0000) (λ n d. record d { server_port = n })
    ∷ optional key.MALFORMED_DATA_TRANSPORT_FLAGS (unsigned_if_below 0x100) (λ n d. record d { transport_flags = n })
    ∷ optional key.MALFORMED_DATA_PAYLOAD byte_string (λ content d. record d { payload = Some content })
    ∷ []

-- data without fields
abbrev pub no_data : BlockData
no_data = record { server_address = None; server_port = None; transport_flags = None; payload = None }

-- the keys of the tables of a block (RFC 8618 7.3.2.3)
abbrev pub tables_table : List (Line Block)
tables_table =
    optional key.TABLES_IP_ADDRESS (array_of (short_byte_string 16)) (λ xs b. record b { ip_address = xs })
    ∷ optional key.TABLES_CLASSTYPE (array_of (map_from classtype_table (0, 0))) (λ xs b. record b { classtype = xs })
    ∷ optional key.TABLES_NAME_RDATA (array_of byte_string) (λ xs b. record b { name_rdata = xs })
    ∷ optional key.TABLES_QR_SIG (array_of (map_from signature_table no_signature)) (λ xs b. record b { qr_sig = xs })
    ∷ optional key.TABLES_QLIST (array_of (array_of unsigned)) (λ xs b. record b { qlist = xs })
    ∷ optional key.TABLES_QRR (array_of (map_from question_table no_question)) (λ xs b. record b { qrr = xs })
    ∷ optional key.TABLES_RRLIST (array_of (array_of unsigned)) (λ xs b. record b { rrlist = xs })
    ∷ optional key.TABLES_RR (array_of (map_from rr_table no_rr)) (λ xs b. record b { rr = xs })
    ∷ optional key.TABLES_MALFORMED_MESSAGE_DATA (array_of (map_from malformed_data_table no_data))
    (λ xs b. record b { malformed_message_data = xs })
    ∷ []
