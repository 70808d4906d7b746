-- The ranges of the tables and of the items of a block that is read.
use Rattle.std.proofs.Common.{◌≡◌, ◌<◌, ◌≤◌, length, Some, Ok, arith}
use Rattle.std.specs.Prelude.{⊤, IfSome}
use Rattle.std.specs.List.{AllByRecursion}
use Rattle.cd_cbor.specs.declared.item.Item.{Item}
use Rattle.cd_block.specs.declared.block.Block.{Block}
use Rattle.cd_block.specs.declared.block.BlockData.{BlockData}
use Rattle.cd_block.specs.declared.block.BlockItem.{BlockItem}
use Rattle.cd_block.specs.declared.block.BlockMalformed.{BlockMalformed}
use Rattle.cd_block.specs.declared.block.BlockSig.{BlockSig}
use Rattle.cd_block.specs.declared.keys.TheConstants as key
use Rattle.cd_file.specs.Kinds.{unsigned, unsigned_below, unsigned_if_below, signed, stamp, byte_string, short_byte_string, array_of}
use Rattle.cd_file.specs.MapReading.{map_from}
use Rattle.cd_file.specs.Ranges.{IsByte, IsWord, ClasstypeInRange}
use Rattle.cd_file.specs.Readable.{IsRcode, IsSigned}
use Rattle.cd_file.specs.ReadRanges.{IsOpcode}
use Rattle.cd_file.specs.ReadTables.{classtype_table, signature_table, no_signature, question_table, no_question, rr_table, no_rr, malformed_data_table, no_data, tables_table}
use Rattle.cd_file.specs.ReadBlock.{block_preamble_table, statistics_table, no_statistics, extended_table, no_lists, item_table, no_item, malformed_table, no_malformed, block_table, no_block, read_block}
use Rattle.cd_file.proofs.BlockParts.{block_is_map}
use Rattle.cd_file.proofs.KindsGive.{below_gives, if_below_gives, signed_gives, short_gives}
use Rattle.cd_file.proofs.MapsKeep.{Keeps, map_keeps, fields_keep, any_value, array_gives, optional_line, required_line, within_line, required_within_line}

-- a type and a class
classtype_lines : AllByRecursion (Keeps ClasstypeInRange) classtype_table
classtype_lines = (
  required_line ClasstypeInRange (λ n. n < 0x1_0000) (unsigned_below 0x1_0000) (λ n c. (n, c.1)) key.CLASSTYPE_TYPE (below_gives 0x1_0000) (λ n c q p. record { rtype = q; rclass = p.rclass }),
  (
    required_line ClasstypeInRange (λ n. n < 0x1_0000) (unsigned_below 0x1_0000) (λ n c. (c.0, n)) key.CLASSTYPE_CLASS (below_gives 0x1_0000) (λ n c q p. record { rtype = p.rtype; rclass = q }),
    tt,
  ),
)

-- the ranges of a signature with indexes
pub record SignatureRanged (s : BlockSig) : Type 0 where
  pub server_port : IsWord s.server_port
  pub transport_flags : IsByte s.transport_flags
  pub sig_flags : IsByte s.sig_flags
  pub opcode : IsOpcode s.opcode
  pub dns_flags : IsWord s.dns_flags
  pub query_rcode : IsRcode s.query_rcode
  pub qd : IsWord s.qd
  pub an : IsWord s.an
  pub ns : IsWord s.ns
  pub ar : IsWord s.ar
  pub edns_version : IsByte s.edns_version
  pub udp_size : IsWord s.udp_size
  pub response_rcode : IsRcode s.response_rcode

-- its keys
signature_lines : AllByRecursion (Keeps SignatureRanged) signature_table
signature_lines = (
  optional_line SignatureRanged (λ n. ⊤) unsigned (λ n s. record s { server_address = Some n }) key.SIG_SERVER_ADDRESS (any_value unsigned) (λ value fields q p. record { server_port = p.server_port; transport_flags = p.transport_flags; sig_flags = p.sig_flags; opcode = p.opcode; dns_flags = p.dns_flags; query_rcode = p.query_rcode; qd = p.qd; an = p.an; ns = p.ns; ar = p.ar; edns_version = p.edns_version; udp_size = p.udp_size; response_rcode = p.response_rcode }),
  (
    optional_line SignatureRanged IsWord (unsigned_if_below 0x1_0000) (λ n s. record s { server_port = n }) key.SIG_SERVER_PORT (if_below_gives 0x1_0000) (λ value fields q p. record { server_port = q; transport_flags = p.transport_flags; sig_flags = p.sig_flags; opcode = p.opcode; dns_flags = p.dns_flags; query_rcode = p.query_rcode; qd = p.qd; an = p.an; ns = p.ns; ar = p.ar; edns_version = p.edns_version; udp_size = p.udp_size; response_rcode = p.response_rcode }),
    (
      optional_line SignatureRanged IsByte (unsigned_if_below 0x100) (λ n s. record s { transport_flags = n }) key.SIG_TRANSPORT_FLAGS (if_below_gives 0x100) (λ value fields q p. record { server_port = p.server_port; transport_flags = q; sig_flags = p.sig_flags; opcode = p.opcode; dns_flags = p.dns_flags; query_rcode = p.query_rcode; qd = p.qd; an = p.an; ns = p.ns; ar = p.ar; edns_version = p.edns_version; udp_size = p.udp_size; response_rcode = p.response_rcode }),
      (
        optional_line SignatureRanged IsByte (unsigned_if_below 0x100) (λ n s. record s { sig_flags = n }) key.SIG_SIG_FLAGS (if_below_gives 0x100) (λ value fields q p. record { server_port = p.server_port; transport_flags = p.transport_flags; sig_flags = q; opcode = p.opcode; dns_flags = p.dns_flags; query_rcode = p.query_rcode; qd = p.qd; an = p.an; ns = p.ns; ar = p.ar; edns_version = p.edns_version; udp_size = p.udp_size; response_rcode = p.response_rcode }),
        (
          optional_line SignatureRanged IsOpcode (unsigned_if_below 16) (λ n s. record s { opcode = n }) key.SIG_OPCODE (if_below_gives 16) (λ value fields q p. record { server_port = p.server_port; transport_flags = p.transport_flags; sig_flags = p.sig_flags; opcode = q; dns_flags = p.dns_flags; query_rcode = p.query_rcode; qd = p.qd; an = p.an; ns = p.ns; ar = p.ar; edns_version = p.edns_version; udp_size = p.udp_size; response_rcode = p.response_rcode }),
          (
            optional_line SignatureRanged IsWord (unsigned_if_below 0x1_0000) (λ n s. record s { dns_flags = n }) key.SIG_DNS_FLAGS (if_below_gives 0x1_0000) (λ value fields q p. record { server_port = p.server_port; transport_flags = p.transport_flags; sig_flags = p.sig_flags; opcode = p.opcode; dns_flags = q; query_rcode = p.query_rcode; qd = p.qd; an = p.an; ns = p.ns; ar = p.ar; edns_version = p.edns_version; udp_size = p.udp_size; response_rcode = p.response_rcode }),
            (
              optional_line SignatureRanged IsRcode (unsigned_if_below 0x1000) (λ n s. record s { query_rcode = n }) key.SIG_QUERY_RCODE (if_below_gives 0x1000) (λ value fields q p. record { server_port = p.server_port; transport_flags = p.transport_flags; sig_flags = p.sig_flags; opcode = p.opcode; dns_flags = p.dns_flags; query_rcode = q; qd = p.qd; an = p.an; ns = p.ns; ar = p.ar; edns_version = p.edns_version; udp_size = p.udp_size; response_rcode = p.response_rcode }),
              (
                optional_line SignatureRanged (λ n. ⊤) unsigned (λ n s. record s { classtype = Some n }) key.SIG_CLASSTYPE (any_value unsigned) (λ value fields q p. record { server_port = p.server_port; transport_flags = p.transport_flags; sig_flags = p.sig_flags; opcode = p.opcode; dns_flags = p.dns_flags; query_rcode = p.query_rcode; qd = p.qd; an = p.an; ns = p.ns; ar = p.ar; edns_version = p.edns_version; udp_size = p.udp_size; response_rcode = p.response_rcode }),
                (
                  optional_line SignatureRanged IsWord (unsigned_if_below 0x1_0000) (λ n s. record s { qd = n }) key.SIG_QDCOUNT (if_below_gives 0x1_0000) (λ value fields q p. record { server_port = p.server_port; transport_flags = p.transport_flags; sig_flags = p.sig_flags; opcode = p.opcode; dns_flags = p.dns_flags; query_rcode = p.query_rcode; qd = q; an = p.an; ns = p.ns; ar = p.ar; edns_version = p.edns_version; udp_size = p.udp_size; response_rcode = p.response_rcode }),
                  (
                    optional_line SignatureRanged IsWord (unsigned_if_below 0x1_0000) (λ n s. record s { an = n }) key.SIG_ANCOUNT (if_below_gives 0x1_0000) (λ value fields q p. record { server_port = p.server_port; transport_flags = p.transport_flags; sig_flags = p.sig_flags; opcode = p.opcode; dns_flags = p.dns_flags; query_rcode = p.query_rcode; qd = p.qd; an = q; ns = p.ns; ar = p.ar; edns_version = p.edns_version; udp_size = p.udp_size; response_rcode = p.response_rcode }),
                    (
                      optional_line SignatureRanged IsWord (unsigned_if_below 0x1_0000) (λ n s. record s { ns = n }) key.SIG_NSCOUNT (if_below_gives 0x1_0000) (λ value fields q p. record { server_port = p.server_port; transport_flags = p.transport_flags; sig_flags = p.sig_flags; opcode = p.opcode; dns_flags = p.dns_flags; query_rcode = p.query_rcode; qd = p.qd; an = p.an; ns = q; ar = p.ar; edns_version = p.edns_version; udp_size = p.udp_size; response_rcode = p.response_rcode }),
                      (
                        optional_line SignatureRanged IsWord (unsigned_if_below 0x1_0000) (λ n s. record s { ar = n }) key.SIG_ARCOUNT (if_below_gives 0x1_0000) (λ value fields q p. record { server_port = p.server_port; transport_flags = p.transport_flags; sig_flags = p.sig_flags; opcode = p.opcode; dns_flags = p.dns_flags; query_rcode = p.query_rcode; qd = p.qd; an = p.an; ns = p.ns; ar = q; edns_version = p.edns_version; udp_size = p.udp_size; response_rcode = p.response_rcode }),
                        (
                          optional_line SignatureRanged IsByte (unsigned_if_below 0x100) (λ n s. record s { edns_version = n }) key.SIG_EDNS_VERSION (if_below_gives 0x100) (λ value fields q p. record { server_port = p.server_port; transport_flags = p.transport_flags; sig_flags = p.sig_flags; opcode = p.opcode; dns_flags = p.dns_flags; query_rcode = p.query_rcode; qd = p.qd; an = p.an; ns = p.ns; ar = p.ar; edns_version = q; udp_size = p.udp_size; response_rcode = p.response_rcode }),
                          (
                            optional_line SignatureRanged IsWord (unsigned_if_below 0x1_0000) (λ n s. record s { udp_size = n }) key.SIG_UDP_SIZE (if_below_gives 0x1_0000) (λ value fields q p. record { server_port = p.server_port; transport_flags = p.transport_flags; sig_flags = p.sig_flags; opcode = p.opcode; dns_flags = p.dns_flags; query_rcode = p.query_rcode; qd = p.qd; an = p.an; ns = p.ns; ar = p.ar; edns_version = p.edns_version; udp_size = q; response_rcode = p.response_rcode }),
                            (
                              optional_line SignatureRanged (λ n. ⊤) unsigned (λ n s. record s { opt_rdata = Some n }) key.SIG_OPT_RDATA (any_value unsigned) (λ value fields q p. record { server_port = p.server_port; transport_flags = p.transport_flags; sig_flags = p.sig_flags; opcode = p.opcode; dns_flags = p.dns_flags; query_rcode = p.query_rcode; qd = p.qd; an = p.an; ns = p.ns; ar = p.ar; edns_version = p.edns_version; udp_size = p.udp_size; response_rcode = p.response_rcode }),
                              (
                                optional_line SignatureRanged IsRcode (unsigned_if_below 0x1000) (λ n s. record s { response_rcode = n }) key.SIG_RESPONSE_RCODE (if_below_gives 0x1000) (λ value fields q p. record { server_port = p.server_port; transport_flags = p.transport_flags; sig_flags = p.sig_flags; opcode = p.opcode; dns_flags = p.dns_flags; query_rcode = p.query_rcode; qd = p.qd; an = p.an; ns = p.ns; ar = p.ar; edns_version = p.edns_version; udp_size = p.udp_size; response_rcode = q }),
                                tt,
                              ),
                            ),
                          ),
                        ),
                      ),
                    ),
                  ),
                ),
              ),
            ),
          ),
        ),
      ),
    ),
  ),
)

no_signature_ranged : SignatureRanged no_signature
no_signature_ranged = record { server_port = tt; transport_flags = tt; sig_flags = tt; opcode = tt; dns_flags = tt; query_rcode = tt; qd = tt; an = tt; ns = tt; ar = tt; edns_version = tt; udp_size = tt; response_rcode = tt }

-- the ranges of the data of a malformed message
pub record DataRanged (d : BlockData) : Type 0 where
  pub server_port : IsWord d.server_port
  pub transport_flags : IsByte d.transport_flags

-- its keys
data_lines : AllByRecursion (Keeps DataRanged) malformed_data_table
data_lines = (
  optional_line DataRanged (λ n. ⊤) unsigned (λ n d. record d { server_address = Some n }) key.MALFORMED_DATA_SERVER_ADDRESS (any_value unsigned) (λ value fields q p. record { server_port = p.server_port; transport_flags = p.transport_flags }),
  (
    optional_line DataRanged IsWord (unsigned_if_below 0x1_0000) (λ n d. record d { server_port = n }) key.MALFORMED_DATA_SERVER_PORT (if_below_gives 0x1_0000) (λ value fields q p. record { server_port = q; transport_flags = p.transport_flags }),
    (
      optional_line DataRanged IsByte (unsigned_if_below 0x100) (λ n d. record d { transport_flags = n }) key.MALFORMED_DATA_TRANSPORT_FLAGS (if_below_gives 0x100) (λ value fields q p. record { server_port = p.server_port; transport_flags = q }),
      (
        optional_line DataRanged (λ n. ⊤) byte_string (λ content d. record d { payload = Some content }) key.MALFORMED_DATA_PAYLOAD (any_value byte_string) (λ value fields q p. record { server_port = p.server_port; transport_flags = p.transport_flags }),
        tt,
      ),
    ),
  ),
)

no_data_ranged : DataRanged no_data
no_data_ranged = record { server_port = tt; transport_flags = tt }

-- the ranges of an item with indexes
pub record ItemRanged (i : BlockItem) : Type 0 where
  pub client_port : IsWord i.client_port
  pub transaction_id : IsWord i.transaction_id
  pub client_hoplimit : IsByte i.client_hoplimit
  pub response_delay : IfSome i.response_delay IsSigned

-- its keys
item_lines : AllByRecursion (Keeps ItemRanged) item_table
item_lines = (
  optional_line ItemRanged (λ n. ⊤) unsigned (λ n i. record i { time_offset = Some n }) key.ITEM_TIME_OFFSET (any_value unsigned) (λ value fields q p. record { client_port = p.client_port; transaction_id = p.transaction_id; client_hoplimit = p.client_hoplimit; response_delay = p.response_delay }),
  (
    optional_line ItemRanged (λ n. ⊤) unsigned (λ n i. record i { client_address = Some n }) key.ITEM_CLIENT_ADDRESS (any_value unsigned) (λ value fields q p. record { client_port = p.client_port; transaction_id = p.transaction_id; client_hoplimit = p.client_hoplimit; response_delay = p.response_delay }),
    (
      optional_line ItemRanged IsWord (unsigned_if_below 0x1_0000) (λ n i. record i { client_port = n }) key.ITEM_CLIENT_PORT (if_below_gives 0x1_0000) (λ value fields q p. record { client_port = q; transaction_id = p.transaction_id; client_hoplimit = p.client_hoplimit; response_delay = p.response_delay }),
      (
        optional_line ItemRanged IsWord (unsigned_if_below 0x1_0000) (λ n i. record i { transaction_id = n }) key.ITEM_TRANSACTION_ID (if_below_gives 0x1_0000) (λ value fields q p. record { client_port = p.client_port; transaction_id = q; client_hoplimit = p.client_hoplimit; response_delay = p.response_delay }),
        (
          optional_line ItemRanged (λ n. ⊤) unsigned (λ n i. record i { signature = Some n }) key.ITEM_SIGNATURE (any_value unsigned) (λ value fields q p. record { client_port = p.client_port; transaction_id = p.transaction_id; client_hoplimit = p.client_hoplimit; response_delay = p.response_delay }),
          (
            optional_line ItemRanged IsByte (unsigned_if_below 0x100) (λ n i. record i { client_hoplimit = n }) key.ITEM_CLIENT_HOPLIMIT (if_below_gives 0x100) (λ value fields q p. record { client_port = p.client_port; transaction_id = p.transaction_id; client_hoplimit = q; response_delay = p.response_delay }),
            (
              optional_line ItemRanged IsSigned signed (λ z i. record i { response_delay = Some z }) key.ITEM_RESPONSE_DELAY signed_gives (λ value fields q p. record { client_port = p.client_port; transaction_id = p.transaction_id; client_hoplimit = p.client_hoplimit; response_delay = q }),
              (
                optional_line ItemRanged (λ n. ⊤) unsigned (λ n i. record i { query_name = Some n }) key.ITEM_QUERY_NAME (any_value unsigned) (λ value fields q p. record { client_port = p.client_port; transaction_id = p.transaction_id; client_hoplimit = p.client_hoplimit; response_delay = p.response_delay }),
                (
                  optional_line ItemRanged (λ n. ⊤) unsigned (λ n i. record i { query_size = Some n }) key.ITEM_QUERY_SIZE (any_value unsigned) (λ value fields q p. record { client_port = p.client_port; transaction_id = p.transaction_id; client_hoplimit = p.client_hoplimit; response_delay = p.response_delay }),
                  (
                    optional_line ItemRanged (λ n. ⊤) unsigned (λ n i. record i { response_size = Some n }) key.ITEM_RESPONSE_SIZE (any_value unsigned) (λ value fields q p. record { client_port = p.client_port; transaction_id = p.transaction_id; client_hoplimit = p.client_hoplimit; response_delay = p.response_delay }),
                    (
                      optional_line ItemRanged (λ l. ⊤) (map_from extended_table no_lists) (λ l i. record i { query_extended = l }) key.ITEM_QUERY_EXTENDED (any_value (map_from extended_table no_lists)) (λ value fields q p. record { client_port = p.client_port; transaction_id = p.transaction_id; client_hoplimit = p.client_hoplimit; response_delay = p.response_delay }),
                      (
                        optional_line ItemRanged (λ l. ⊤) (map_from extended_table no_lists) (λ l i. record i { response_extended = l }) key.ITEM_RESPONSE_EXTENDED (any_value (map_from extended_table no_lists)) (λ value fields q p. record { client_port = p.client_port; transaction_id = p.transaction_id; client_hoplimit = p.client_hoplimit; response_delay = p.response_delay }),
                        tt,
                      ),
                    ),
                  ),
                ),
              ),
            ),
          ),
        ),
      ),
    ),
  ),
)

no_item_ranged : ItemRanged no_item
no_item_ranged = record { client_port = tt; transaction_id = tt; client_hoplimit = tt; response_delay = tt }

-- the range of a malformed message with indexes
abbrev pub MalformedRanged : BlockMalformed → Type 0
MalformedRanged m = IsWord m.client_port

-- its keys
malformed_lines : AllByRecursion (Keeps MalformedRanged) malformed_table
malformed_lines = (
  optional_line MalformedRanged (λ n. ⊤) unsigned (λ n m. record m { time_offset = Some n }) key.MALFORMED_TIME_OFFSET (any_value unsigned) (λ value fields q p. p),
  (
    optional_line MalformedRanged (λ n. ⊤) unsigned (λ n m. record m { client_address = Some n }) key.MALFORMED_CLIENT_ADDRESS (any_value unsigned) (λ value fields q p. p),
    (
      optional_line MalformedRanged IsWord (unsigned_if_below 0x1_0000) (λ n m. record m { client_port = n }) key.MALFORMED_CLIENT_PORT (if_below_gives 0x1_0000) (λ value fields q p. q),
      (
        optional_line MalformedRanged (λ n. ⊤) unsigned (λ n m. record m { message_data = Some n }) key.MALFORMED_MESSAGE_DATA (any_value unsigned) (λ value fields q p. p),
        tt,
      ),
    ),
  ),
)

-- the ranges of a block with indexes
pub record BlockRanged (b : Block) : Type 0 where
  pub ip_address : AllByRecursion (λ address. length address ≤ 16) b.ip_address
  pub classtype : AllByRecursion ClasstypeInRange b.classtype
  pub qr_sig : AllByRecursion SignatureRanged b.qr_sig
  pub malformed_message_data : AllByRecursion DataRanged b.malformed_message_data
  pub items : AllByRecursion ItemRanged b.items
  pub malformed : AllByRecursion MalformedRanged b.malformed

no_block_ranged : BlockRanged no_block
no_block_ranged = record { ip_address = tt; classtype = tt; qr_sig = tt; malformed_message_data = tt; items = tt; malformed = tt }

-- the keys of its tables
tables_lines : AllByRecursion (Keeps BlockRanged) tables_table
tables_lines = (
  optional_line BlockRanged (AllByRecursion (λ address. length address ≤ 16)) (array_of (short_byte_string 16)) (λ xs b. record b { ip_address = xs }) key.TABLES_IP_ADDRESS (array_gives (λ address. length address ≤ 16) (short_byte_string 16) (short_gives 16)) (λ value fields q p. record { ip_address = q; classtype = p.classtype; qr_sig = p.qr_sig; malformed_message_data = p.malformed_message_data; items = p.items; malformed = p.malformed }),
  (
    optional_line BlockRanged (AllByRecursion ClasstypeInRange) (array_of (map_from classtype_table (0, 0))) (λ xs b. record b { classtype = xs }) key.TABLES_CLASSTYPE (array_gives ClasstypeInRange (map_from classtype_table (0, 0)) (map_keeps ClasstypeInRange classtype_table classtype_lines (0, 0) (record { rtype = omega arith; rclass = omega arith }))) (λ value fields q p. record { ip_address = p.ip_address; classtype = q; qr_sig = p.qr_sig; malformed_message_data = p.malformed_message_data; items = p.items; malformed = p.malformed }),
    (
      optional_line BlockRanged (λ xs. ⊤) (array_of byte_string) (λ xs b. record b { name_rdata = xs }) key.TABLES_NAME_RDATA (any_value (array_of byte_string)) (λ value fields q p. record { ip_address = p.ip_address; classtype = p.classtype; qr_sig = p.qr_sig; malformed_message_data = p.malformed_message_data; items = p.items; malformed = p.malformed }),
      (
        optional_line BlockRanged (AllByRecursion SignatureRanged) (array_of (map_from signature_table no_signature)) (λ xs b. record b { qr_sig = xs }) key.TABLES_QR_SIG (array_gives SignatureRanged (map_from signature_table no_signature) (map_keeps SignatureRanged signature_table signature_lines no_signature no_signature_ranged)) (λ value fields q p. record { ip_address = p.ip_address; classtype = p.classtype; qr_sig = q; malformed_message_data = p.malformed_message_data; items = p.items; malformed = p.malformed }),
        (
          optional_line BlockRanged (λ xs. ⊤) (array_of (array_of unsigned)) (λ xs b. record b { qlist = xs }) key.TABLES_QLIST (any_value (array_of (array_of unsigned))) (λ value fields q p. record { ip_address = p.ip_address; classtype = p.classtype; qr_sig = p.qr_sig; malformed_message_data = p.malformed_message_data; items = p.items; malformed = p.malformed }),
          (
            optional_line BlockRanged (λ xs. ⊤) (array_of (map_from question_table no_question)) (λ xs b. record b { qrr = xs }) key.TABLES_QRR (any_value (array_of (map_from question_table no_question))) (λ value fields q p. record { ip_address = p.ip_address; classtype = p.classtype; qr_sig = p.qr_sig; malformed_message_data = p.malformed_message_data; items = p.items; malformed = p.malformed }),
            (
              optional_line BlockRanged (λ xs. ⊤) (array_of (array_of unsigned)) (λ xs b. record b { rrlist = xs }) key.TABLES_RRLIST (any_value (array_of (array_of unsigned))) (λ value fields q p. record { ip_address = p.ip_address; classtype = p.classtype; qr_sig = p.qr_sig; malformed_message_data = p.malformed_message_data; items = p.items; malformed = p.malformed }),
              (
                optional_line BlockRanged (λ xs. ⊤) (array_of (map_from rr_table no_rr)) (λ xs b. record b { rr = xs }) key.TABLES_RR (any_value (array_of (map_from rr_table no_rr))) (λ value fields q p. record { ip_address = p.ip_address; classtype = p.classtype; qr_sig = p.qr_sig; malformed_message_data = p.malformed_message_data; items = p.items; malformed = p.malformed }),
                (
                  optional_line BlockRanged (AllByRecursion DataRanged) (array_of (map_from malformed_data_table no_data)) (λ xs b. record b { malformed_message_data = xs }) key.TABLES_MALFORMED_MESSAGE_DATA (array_gives DataRanged (map_from malformed_data_table no_data) (map_keeps DataRanged malformed_data_table data_lines no_data no_data_ranged)) (λ value fields q p. record { ip_address = p.ip_address; classtype = p.classtype; qr_sig = p.qr_sig; malformed_message_data = q; items = p.items; malformed = p.malformed }),
                  tt,
                ),
              ),
            ),
          ),
        ),
      ),
    ),
  ),
)

-- the keys of its preamble
preamble_lines : AllByRecursion (Keeps BlockRanged) block_preamble_table
preamble_lines = (
  optional_line BlockRanged (λ s. ⊤) stamp (λ s b. record b { earliest = Some s }) key.BLOCK_PREAMBLE_EARLIEST_TIME (any_value stamp) (λ value fields q p. record { ip_address = p.ip_address; classtype = p.classtype; qr_sig = p.qr_sig; malformed_message_data = p.malformed_message_data; items = p.items; malformed = p.malformed }),
  (
    optional_line BlockRanged (λ n. ⊤) unsigned (λ n b. record b { params = n }) key.BLOCK_PREAMBLE_PARAMETERS_INDEX (any_value unsigned) (λ value fields q p. record { ip_address = p.ip_address; classtype = p.classtype; qr_sig = p.qr_sig; malformed_message_data = p.malformed_message_data; items = p.items; malformed = p.malformed }),
    tt,
  ),
)

-- its keys
block_lines : AllByRecursion (Keeps BlockRanged) block_table
block_lines = (
  required_within_line BlockRanged key.BLOCK_PREAMBLE block_preamble_table preamble_lines,
  (
    optional_line BlockRanged (λ s. ⊤) (map_from statistics_table no_statistics) (λ s b. record b { stats = Some s }) key.BLOCK_STATISTICS (any_value (map_from statistics_table no_statistics)) (λ value fields q p. record { ip_address = p.ip_address; classtype = p.classtype; qr_sig = p.qr_sig; malformed_message_data = p.malformed_message_data; items = p.items; malformed = p.malformed }),
    (
      within_line BlockRanged key.BLOCK_TABLES tables_table tables_lines,
      (
        optional_line BlockRanged (AllByRecursion ItemRanged) (array_of (map_from item_table no_item)) (λ xs b. record b { items = xs }) key.BLOCK_ITEMS (array_gives ItemRanged (map_from item_table no_item) (map_keeps ItemRanged item_table item_lines no_item no_item_ranged)) (λ value fields q p. record { ip_address = p.ip_address; classtype = p.classtype; qr_sig = p.qr_sig; malformed_message_data = p.malformed_message_data; items = q; malformed = p.malformed }),
        (
          optional_line BlockRanged (AllByRecursion MalformedRanged) (array_of (map_from malformed_table no_malformed)) (λ xs b. record b { malformed = xs }) key.BLOCK_MALFORMED (array_gives MalformedRanged (map_from malformed_table no_malformed) (map_keeps MalformedRanged malformed_table malformed_lines no_malformed tt)) (λ value fields q p. record { ip_address = p.ip_address; classtype = p.classtype; qr_sig = p.qr_sig; malformed_message_data = p.malformed_message_data; items = p.items; malformed = q }),
          tt,
        ),
      ),
    ),
  ),
)

-- a block that is read has its ranges
pub block_ranged : (item : Item) (b : Block) → read_block item ≡ Ok b → BlockRanged b
block_ranged item b h =
    let k = block_is_map item b h in fields_keep (λ n. BlockRanged) (λ n more fields p. p) block_table block_lines k.0 no_block b 0 k.2 no_block_ranged
