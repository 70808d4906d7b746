-- The bits of flags, in the order of the format.
use Rattle.std.specs.Prelude.{ℕ, List, [], ◌∷◌}
use Rattle.cd_block.specs.declared.flags.TheConstants as flag

-- storage flags (RFC 8618 7.3.1.1.1)
abbrev pub storage_flags : List ℕ
storage_flags =
    flag.STORAGE_ANONYMIZED ∷ flag.STORAGE_SAMPLED ∷ flag.STORAGE_NORMALIZED_NAMES ∷ []

-- transport flags: IPv6, the transports UDP and TCP, and bytes after the message (RFC 8618 7.3.2.3.2)
abbrev pub transport_flags : List ℕ
transport_flags =
    flag.TRANSPORT_IPV6 ∷ flag.TRANSPORT_UDP ∷ flag.TRANSPORT_TCP ∷ flag.TRANSPORT_TRAILING_BYTES ∷ []

-- signature flags (RFC 8618 7.3.2.3.2)
abbrev pub signature_flags : List ℕ
signature_flags =
    flag.SIG_HAS_QUERY ∷ flag.SIG_HAS_RESPONSE ∷ flag.SIG_QUERY_HAS_OPT ∷ flag.SIG_RESPONSE_HAS_OPT
    ∷ flag.SIG_QUERY_HAS_NO_QUESTION ∷ flag.SIG_RESPONSE_HAS_NO_QUESTION ∷ []

-- DNS flags of a query (RFC 8618 7.3.2.3.2)
abbrev pub query_flags : List ℕ
query_flags =
    flag.DNS_QUERY_CD ∷ flag.DNS_QUERY_AD ∷ flag.DNS_QUERY_Z ∷ flag.DNS_QUERY_RA ∷ flag.DNS_QUERY_RD
    ∷ flag.DNS_QUERY_TC ∷ flag.DNS_QUERY_AA ∷ flag.DNS_QUERY_DO ∷ []

-- DNS flags of a response (RFC 8618 7.3.2.3.2)
abbrev pub response_flags : List ℕ
response_flags =
    flag.DNS_RESPONSE_CD ∷ flag.DNS_RESPONSE_AD ∷ flag.DNS_RESPONSE_Z ∷ flag.DNS_RESPONSE_RA
    ∷ flag.DNS_RESPONSE_RD ∷ flag.DNS_RESPONSE_TC ∷ flag.DNS_RESPONSE_AA ∷ []
