-- The flags of a signature (RFC 8618 7.3.2.3.2).
use Rattle.std.specs.Prelude.{ℕ, ◌+◌, ◌*◌, Bool, nat_eq, length, is_some, false, if◌then◌else◌, Option}
use Rattle.std.specs.Int.{bit_at}
use Rattle.std.specs.Option.{option_map_or}
use Rattle.cd_block.specs.declared.flags.TheConstants as flag
use Rattle.cd_edns.specs.Opts.{opt_of_message}
use Rattle.cd_message.specs.declared.message.Message.{Message}
use Rattle.cd_ident.specs.Events.{EventParts}
use Rattle.cd_ident.specs.Identifiers.{transport_of}

-- a flag that is set where the test holds
abbrev pub flag_where : Bool → ℕ → ℕ
flag_where test flag = if test then flag else 0

-- The transport flags: the version of IP, the transport in the bits 1 to 4, and whether bytes stand after the query.
abbrev pub transport_flags : EventParts → Bool → ℕ
transport_flags e trailing =
    flag_where e.client.v6 flag.TRANSPORT_IPV6 + 2 * transport_of e.ids
    + flag_where trailing flag.TRANSPORT_TRAILING_BYTES

-- the message has an OPT record
abbrev pub has_opt : Message → Bool
has_opt m = is_some (opt_of_message m)

-- the message has no question
abbrev pub has_no_question : Message → Bool
has_no_question m = nat_eq (length m.questions) 0

-- what the signature flags say of a query
abbrev pub query_signature_flags : Message → ℕ
query_signature_flags m =
    flag.SIG_HAS_QUERY
    + flag_where (has_opt m) flag.SIG_QUERY_HAS_OPT
    + flag_where (has_no_question m) flag.SIG_QUERY_HAS_NO_QUESTION

-- what they say of a response
abbrev pub response_signature_flags : Message → ℕ
response_signature_flags m =
    flag.SIG_HAS_RESPONSE
    + flag_where (has_opt m) flag.SIG_RESPONSE_HAS_OPT
    + flag_where (has_no_question m) flag.SIG_RESPONSE_HAS_NO_QUESTION

-- the signature flags of a query and a response, of which one may be absent
abbrev pub signature_flags : Option Message → Option Message → ℕ
signature_flags query response =
    option_map_or query_signature_flags query 0 + option_map_or response_signature_flags response 0

-- the message has an OPT record with DO: its sender takes DNSSEC records (RFC 6891 6.1.4)
abbrev pub is_dnssec_ok : Message → Bool
is_dnssec_ok m = option_map_or (λ o. o.dnssec_ok) (opt_of_message m) false

-- The DNS flags of a query: in the second word of the header CD, AD, Z, RA, RD, TC and AA are the bits 4 to 10 (RFC
-- 1035 4.1.1, RFC 4035 3.1.6), and DO stands in the OPT record (RFC 6891 6.1.4).
abbrev pub query_dns_flags : Message → ℕ
query_dns_flags m =
    bit_at m.bits 4 * flag.DNS_QUERY_CD
    + bit_at m.bits 5 * flag.DNS_QUERY_AD
    + bit_at m.bits 6 * flag.DNS_QUERY_Z
    + bit_at m.bits 7 * flag.DNS_QUERY_RA
    + bit_at m.bits 8 * flag.DNS_QUERY_RD
    + bit_at m.bits 9 * flag.DNS_QUERY_TC
    + bit_at m.bits 10 * flag.DNS_QUERY_AA
    + flag_where (is_dnssec_ok m) flag.DNS_QUERY_DO

-- the DNS flags of a response
abbrev pub response_dns_flags : Message → ℕ
response_dns_flags m =
    bit_at m.bits 4 * flag.DNS_RESPONSE_CD
    + bit_at m.bits 5 * flag.DNS_RESPONSE_AD
    + bit_at m.bits 6 * flag.DNS_RESPONSE_Z
    + bit_at m.bits 7 * flag.DNS_RESPONSE_RA
    + bit_at m.bits 8 * flag.DNS_RESPONSE_RD
    + bit_at m.bits 9 * flag.DNS_RESPONSE_TC
    + bit_at m.bits 10 * flag.DNS_RESPONSE_AA

-- the DNS flags of a query and a response, of which one may be absent
abbrev pub dns_flags : Option Message → Option Message → ℕ
dns_flags query response = option_map_or query_dns_flags query 0 + option_map_or response_dns_flags response 0
