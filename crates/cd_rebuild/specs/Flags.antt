-- What the flags of a signature say of an item (RFC 8618 7.3.2.3.2). Flags that are absent are all 0.
use Rattle.std.specs.Prelude.{ℕ, ◌/◌, ◌%◌, Bool, true, false, not, ◌&&◌, ◌||◌, nat_eq, bit_and, is_none, Option, unwrap_or}
use Rattle.std.specs.Option.{option_map_or}
use Rattle.cd_block.specs.declared.flags.TheConstants as flag
use Rattle.cd_block.specs.declared.kept.KeptSig.{KeptSig}
use Rattle.cd_block.specs.declared.kept.KeptItem.{KeptItem}
use Rattle.cd_block.specs.declared.kept.KeptData.{KeptData}
use Rattle.cd_block.specs.declared.kept.KeptMalformed.{KeptMalformed}

-- a flag is set
abbrev pub is_set : ℕ → ℕ → Bool
is_set flags flag = not (nat_eq (bit_and flags flag) 0)

-- a flag of a signature's flags is set
abbrev pub has_flag : KeptSig → ℕ → Bool
has_flag s flag = is_set (unwrap_or s.sig_flags 0) flag

-- the item has a query
abbrev pub has_query : KeptSig → Bool
has_query s = has_flag s flag.SIG_HAS_QUERY

-- the item has a response
abbrev pub has_response : KeptSig → Bool
has_response s = has_flag s flag.SIG_HAS_RESPONSE

-- transport flags tell IPv6
abbrev pub is_ipv6 : Option ℕ → Bool
is_ipv6 flags = is_set (unwrap_or flags 0) flag.TRANSPORT_IPV6

-- transport flags tell UDP, which is 0 in the bits 1 to 4
abbrev pub is_udp : Option ℕ → Bool
is_udp flags = nat_eq (unwrap_or flags 0 / 2 % 16) 0

-- a signature says too little of its item: no transport, or neither half
abbrev pub is_bare_signature : KeptSig → Bool
is_bare_signature s = is_none s.transport_flags || not (has_query s || has_response s)

-- an item is bare: it has no signature, or its signature says too little (RFC 8618 7.3.2.4)
abbrev pub is_bare : KeptItem → Bool
is_bare i = option_map_or is_bare_signature i.signature true

-- an item is not bare, and its transport is another than UDP
abbrev pub is_not_udp : KeptItem → Bool
is_not_udp i = option_map_or (λ s. not (is_bare_signature s) && not (is_udp s.transport_flags)) i.signature false

-- the data of a malformed message say too little of it: no transport, or no payload
abbrev pub is_bare_data : KeptData → Bool
is_bare_data d = is_none d.transport_flags || is_none d.payload

-- a malformed message is bare: it has no data, or they say too little (RFC 8618 7.3.2.6)
abbrev pub is_bare_malformed : KeptMalformed → Bool
is_bare_malformed m = option_map_or is_bare_data m.message_data true

-- a malformed message is not bare, and its transport is another than UDP
abbrev pub is_not_udp_malformed : KeptMalformed → Bool
is_not_udp_malformed m = option_map_or (λ d. not (is_bare_data d) && not (is_udp d.transport_flags)) m.message_data false
