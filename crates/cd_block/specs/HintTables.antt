-- The bits of storage hints, in the order of the format.
use Rattle.std.specs.Prelude.{ℕ, List, [], ◌∷◌}
use Rattle.cd_block.specs.declared.hints.TheConstants as hint

-- the hints of an item and of its lists (RFC 8618 7.3.1.1.1.1)
abbrev pub item_hints : List ℕ
item_hints =
    hint.QR_TIME_OFFSET ∷ hint.QR_CLIENT_ADDRESS ∷ hint.QR_CLIENT_PORT ∷ hint.QR_TRANSACTION_ID
    ∷ hint.QR_SIGNATURE ∷ hint.QR_CLIENT_HOPLIMIT ∷ hint.QR_RESPONSE_DELAY ∷ hint.QR_QUERY_NAME
    ∷ hint.QR_QUERY_SIZE ∷ hint.QR_RESPONSE_SIZE ∷ hint.QR_PROCESSING_DATA ∷ hint.QR_QUESTIONS
    ∷ hint.QR_QUERY_ANSWER ∷ hint.QR_QUERY_AUTHORITY ∷ hint.QR_QUERY_ADDITIONAL ∷ hint.QR_RESPONSE_ANSWER
    ∷ hint.QR_RESPONSE_AUTHORITY ∷ hint.QR_RESPONSE_ADDITIONAL ∷ []

-- the hints of a signature (RFC 8618 7.3.1.1.1.1)
abbrev pub signature_hints : List ℕ
signature_hints =
    hint.SIG_SERVER_ADDRESS ∷ hint.SIG_SERVER_PORT ∷ hint.SIG_TRANSPORT_FLAGS ∷ hint.SIG_QR_TYPE
    ∷ hint.SIG_SIG_FLAGS ∷ hint.SIG_OPCODE ∷ hint.SIG_DNS_FLAGS ∷ hint.SIG_QUERY_RCODE ∷ hint.SIG_CLASSTYPE
    ∷ hint.SIG_QDCOUNT ∷ hint.SIG_ANCOUNT ∷ hint.SIG_NSCOUNT ∷ hint.SIG_ARCOUNT ∷ hint.SIG_EDNS_VERSION
    ∷ hint.SIG_UDP_SIZE ∷ hint.SIG_OPT_RDATA ∷ hint.SIG_RESPONSE_RCODE ∷ []

-- the hints of a resource record (RFC 8618 7.3.1.1.1.1)
abbrev pub rr_hints : List ℕ
rr_hints =
    hint.RR_TTL ∷ hint.RR_RDATA ∷ []

-- the hints of other data (RFC 8618 7.3.1.1.1.1)
abbrev pub other_hints : List ℕ
other_hints =
    hint.OTHER_MALFORMED ∷ hint.OTHER_ADDRESS_EVENTS ∷ []
