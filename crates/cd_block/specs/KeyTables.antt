-- The keys of each map of a file, in the order of the format.
use Rattle.std.specs.Prelude.{ℕ, List, [], ◌∷◌}
use Rattle.cd_block.specs.declared.keys.TheConstants as key

-- the keys of the file preamble (RFC 8618 7.3.1)
abbrev pub preamble_keys : List ℕ
preamble_keys =
    key.PREAMBLE_MAJOR_VERSION ∷ key.PREAMBLE_MINOR_VERSION ∷ key.PREAMBLE_PRIVATE_VERSION
    ∷ key.PREAMBLE_BLOCK_PARAMETERS ∷ []

-- the keys of block parameters (RFC 8618 7.3.1.1)
abbrev pub block_parameter_keys : List ℕ
block_parameter_keys =
    key.BLOCK_PARAMETERS_STORAGE ∷ key.BLOCK_PARAMETERS_COLLECTION ∷ []

-- the keys of storage parameters (RFC 8618 7.3.1.1.1)
abbrev pub storage_keys : List ℕ
storage_keys =
    key.STORAGE_TICKS_PER_SECOND ∷ key.STORAGE_MAX_BLOCK_ITEMS ∷ key.STORAGE_HINTS ∷ key.STORAGE_OPCODES
    ∷ key.STORAGE_RR_TYPES ∷ key.STORAGE_FLAGS ∷ key.STORAGE_CLIENT_PREFIX_IPV4
    ∷ key.STORAGE_CLIENT_PREFIX_IPV6 ∷ key.STORAGE_SERVER_PREFIX_IPV4 ∷ key.STORAGE_SERVER_PREFIX_IPV6
    ∷ key.STORAGE_SAMPLING_METHOD ∷ key.STORAGE_ANONYMIZATION_METHOD ∷ []

-- the keys of storage hints (RFC 8618 7.3.1.1.1.1)
abbrev pub hint_keys : List ℕ
hint_keys =
    key.HINTS_QUERY_RESPONSE ∷ key.HINTS_SIGNATURE ∷ key.HINTS_RR ∷ key.HINTS_OTHER_DATA ∷ []

-- the keys of collection parameters (RFC 8618 7.3.1.1.2)
abbrev pub collection_keys : List ℕ
collection_keys =
    key.COLLECTION_QUERY_TIMEOUT ∷ key.COLLECTION_SKEW_TIMEOUT ∷ []

-- the keys of a block (RFC 8618 7.3.2)
abbrev pub block_keys : List ℕ
block_keys =
    key.BLOCK_PREAMBLE ∷ key.BLOCK_STATISTICS ∷ key.BLOCK_TABLES ∷ key.BLOCK_ITEMS
    ∷ key.BLOCK_ADDRESS_EVENT_COUNTS ∷ key.BLOCK_MALFORMED ∷ []

-- the keys of the preamble of a block (RFC 8618 7.3.2.1)
abbrev pub block_preamble_keys : List ℕ
block_preamble_keys =
    key.BLOCK_PREAMBLE_EARLIEST_TIME ∷ key.BLOCK_PREAMBLE_PARAMETERS_INDEX ∷ []

-- the keys of block statistics (RFC 8618 7.3.2.2)
abbrev pub statistics_keys : List ℕ
statistics_keys =
    key.STATISTICS_PROCESSED ∷ key.STATISTICS_ITEMS ∷ key.STATISTICS_UNMATCHED_QUERIES
    ∷ key.STATISTICS_UNMATCHED_RESPONSES ∷ key.STATISTICS_DISCARDED ∷ key.STATISTICS_MALFORMED ∷ []

-- the keys of the tables of a block (RFC 8618 7.3.2.3)
abbrev pub tables_keys : List ℕ
tables_keys =
    key.TABLES_IP_ADDRESS ∷ key.TABLES_CLASSTYPE ∷ key.TABLES_NAME_RDATA ∷ key.TABLES_QR_SIG
    ∷ key.TABLES_QLIST ∷ key.TABLES_QRR ∷ key.TABLES_RRLIST ∷ key.TABLES_RR
    ∷ key.TABLES_MALFORMED_MESSAGE_DATA ∷ []

-- the keys of a type and a class (RFC 8618 7.3.2.3.1)
abbrev pub classtype_keys : List ℕ
classtype_keys =
    key.CLASSTYPE_TYPE ∷ key.CLASSTYPE_CLASS ∷ []

-- the keys of a query-response signature (RFC 8618 7.3.2.3.2)
abbrev pub signature_keys : List ℕ
signature_keys =
    key.SIG_SERVER_ADDRESS ∷ key.SIG_SERVER_PORT ∷ key.SIG_TRANSPORT_FLAGS ∷ key.SIG_QR_TYPE
    ∷ key.SIG_SIG_FLAGS ∷ key.SIG_OPCODE ∷ key.SIG_DNS_FLAGS ∷ key.SIG_QUERY_RCODE ∷ key.SIG_CLASSTYPE
    ∷ key.SIG_QDCOUNT ∷ key.SIG_ANCOUNT ∷ key.SIG_NSCOUNT ∷ key.SIG_ARCOUNT ∷ key.SIG_EDNS_VERSION
    ∷ key.SIG_UDP_SIZE ∷ key.SIG_OPT_RDATA ∷ key.SIG_RESPONSE_RCODE ∷ []

-- the keys of a question (RFC 8618 7.3.2.3.3)
abbrev pub question_keys : List ℕ
question_keys =
    key.QUESTION_NAME ∷ key.QUESTION_CLASSTYPE ∷ []

-- the keys of a resource record (RFC 8618 7.3.2.3.4)
abbrev pub rr_keys : List ℕ
rr_keys =
    key.RR_NAME ∷ key.RR_CLASSTYPE ∷ key.RR_TTL ∷ key.RR_RDATA ∷ []

-- the keys of the data of a malformed message (RFC 8618 7.3.2.3.5)
abbrev pub malformed_data_keys : List ℕ
malformed_data_keys =
    key.MALFORMED_DATA_SERVER_ADDRESS ∷ key.MALFORMED_DATA_SERVER_PORT ∷ key.MALFORMED_DATA_TRANSPORT_FLAGS
    ∷ key.MALFORMED_DATA_PAYLOAD ∷ []

-- the keys of a query-response item (RFC 8618 7.3.2.4)
abbrev pub item_keys : List ℕ
item_keys =
    key.ITEM_TIME_OFFSET ∷ key.ITEM_CLIENT_ADDRESS ∷ key.ITEM_CLIENT_PORT ∷ key.ITEM_TRANSACTION_ID
    ∷ key.ITEM_SIGNATURE ∷ key.ITEM_CLIENT_HOPLIMIT ∷ key.ITEM_RESPONSE_DELAY ∷ key.ITEM_QUERY_NAME
    ∷ key.ITEM_QUERY_SIZE ∷ key.ITEM_RESPONSE_SIZE ∷ key.ITEM_PROCESSING_DATA ∷ key.ITEM_QUERY_EXTENDED
    ∷ key.ITEM_RESPONSE_EXTENDED ∷ []

-- the keys of the extended part of a query or a response (RFC 8618 7.3.2.4.2)
abbrev pub extended_keys : List ℕ
extended_keys =
    key.EXTENDED_QUESTION ∷ key.EXTENDED_ANSWER ∷ key.EXTENDED_AUTHORITY ∷ key.EXTENDED_ADDITIONAL ∷ []

-- the keys of a malformed message (RFC 8618 7.3.2.6)
abbrev pub malformed_keys : List ℕ
malformed_keys =
    key.MALFORMED_TIME_OFFSET ∷ key.MALFORMED_CLIENT_ADDRESS ∷ key.MALFORMED_CLIENT_PORT
    ∷ key.MALFORMED_MESSAGE_DATA ∷ []
