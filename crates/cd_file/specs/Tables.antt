-- The tables of a block (RFC 8618 7.3.2.3).
use Rattle.std.specs.Prelude.{ℕ, List, [], ◌∷◌, map, Option, Some}
use Rattle.std.specs.Option.{option_map}
use Rattle.cd_cbor.specs.declared.item.Item.{Item}
use Rattle.cd_cbor.specs.Items.{unsigned, bytes}
use Rattle.cd_file.specs.Maps.{map_of, optional_map, optional_array, number, numbers}
use Rattle.cd_block.specs.declared.block.Block.{Block}
use Rattle.cd_block.specs.declared.block.BlockData.{BlockData}
use Rattle.cd_block.specs.declared.block.BlockQuestion.{BlockQuestion}
use Rattle.cd_block.specs.declared.block.BlockRr.{BlockRr}
use Rattle.cd_block.specs.declared.block.BlockSig.{BlockSig}
use Rattle.cd_block.specs.declared.keys.TheConstants as key

-- a type and a class (RFC 8618 7.3.2.3.1)
abbrev pub classtype_item : ℕ × ℕ → Item
classtype_item c = map_of (
    (key.CLASSTYPE_TYPE, Some (unsigned c.0))
    ∷ (key.CLASSTYPE_CLASS, Some (unsigned c.1))
    ∷ [])

-- a query-response signature (RFC 8618 7.3.2.3.2)
abbrev pub signature_item : BlockSig → Item
signature_item s = map_of (
    (key.SIG_SERVER_ADDRESS, number s.server_address)
    ∷ (key.SIG_SERVER_PORT, number s.server_port)
    ∷ (key.SIG_TRANSPORT_FLAGS, number s.transport_flags)
    ∷ (key.SIG_SIG_FLAGS, number s.sig_flags)
    ∷ (key.SIG_OPCODE, number s.opcode)
    ∷ (key.SIG_DNS_FLAGS, number s.dns_flags)
    ∷ (key.SIG_QUERY_RCODE, number s.query_rcode)
    ∷ (key.SIG_CLASSTYPE, number s.classtype)
    ∷ (key.SIG_QDCOUNT, number s.qd)
    ∷ (key.SIG_ANCOUNT, number s.an)
    ∷ (key.SIG_NSCOUNT, number s.ns)
    ∷ (key.SIG_ARCOUNT, number s.ar)
    ∷ (key.SIG_EDNS_VERSION, number s.edns_version)
    ∷ (key.SIG_UDP_SIZE, number s.udp_size)
    ∷ (key.SIG_OPT_RDATA, number s.opt_rdata)
    ∷ (key.SIG_RESPONSE_RCODE, number s.response_rcode)
    ∷ [])

-- a question (RFC 8618 7.3.2.3.3)
abbrev pub question_item : BlockQuestion → Item
question_item q = map_of (
    (key.QUESTION_NAME, Some (unsigned q.name))
    ∷ (key.QUESTION_CLASSTYPE, Some (unsigned q.classtype))
    ∷ [])

-- a resource record (RFC 8618 7.3.2.3.4)
abbrev pub rr_item : BlockRr → Item
rr_item r = map_of (
    (key.RR_NAME, Some (unsigned r.name))
    ∷ (key.RR_CLASSTYPE, Some (unsigned r.classtype))
    ∷ (key.RR_TTL, number r.ttl)
    ∷ (key.RR_RDATA, number r.rdata)
    ∷ [])

-- the data of a malformed message (RFC 8618 7.3.2.3.5)
abbrev pub malformed_data_item : BlockData → Item
malformed_data_item d = map_of (
    (key.MALFORMED_DATA_SERVER_ADDRESS, number d.server_address)
    ∷ (key.MALFORMED_DATA_SERVER_PORT, number d.server_port)
    ∷ (key.MALFORMED_DATA_TRANSPORT_FLAGS, number d.transport_flags)
    ∷ (key.MALFORMED_DATA_PAYLOAD, option_map bytes d.payload)
    ∷ [])

-- the tables of a block, each absent where it has no value
abbrev pub table_entries : Block → List (ℕ × Option Item)
table_entries b =
    (key.TABLES_IP_ADDRESS, optional_array (map bytes b.ip_address))
    ∷ (key.TABLES_CLASSTYPE, optional_array (map classtype_item b.classtype))
    ∷ (key.TABLES_NAME_RDATA, optional_array (map bytes b.name_rdata))
    ∷ (key.TABLES_QR_SIG, optional_array (map signature_item b.qr_sig))
    ∷ (key.TABLES_QLIST, optional_array (map numbers b.qlist))
    ∷ (key.TABLES_QRR, optional_array (map question_item b.qrr))
    ∷ (key.TABLES_RRLIST, optional_array (map numbers b.rrlist))
    ∷ (key.TABLES_RR, optional_array (map rr_item b.rr))
    ∷ (key.TABLES_MALFORMED_MESSAGE_DATA, optional_array (map malformed_data_item b.malformed_message_data))
    ∷ []

-- the map of tables, absent where no table has a value (RFC 8618 7.3.2.3)
abbrev pub tables_item : Block → Option Item
tables_item b = optional_map (table_entries b)
