-- Addresses as they are kept: the first bytes, as many as the prefix takes (RFC 8618 7.3.1.1.1).
use Rattle.std.specs.Prelude.{ℕ, Bool, if◌then◌else◌, List, take, Option, None, slice_index_or}
use Rattle.cd_packet.specs.declared.address.Addr.{Addr}
use Rattle.cd_hints.specs.Prefix.{prefix_bytes, prefix_size}

-- the bits that are kept of a client's address of this version of IP
abbrev pub client_prefix : List (Option ℕ) → Bool → Option ℕ
client_prefix prefixes v6 = slice_index_or prefixes (if v6 then 1 else 0) None

-- the bits that are kept of a server's address of this version of IP
abbrev pub server_prefix : List (Option ℕ) → Bool → Option ℕ
server_prefix prefixes v6 = slice_index_or prefixes (if v6 then 3 else 2) None

-- the bytes of an address that hold these bits, with the bits after them 0
abbrev pub stored_address : Option ℕ → Addr → List ℕ
stored_address bits addr = take (prefix_size addr bits) (prefix_bytes addr bits)

-- the bytes that are kept of a client's address
abbrev pub client_address : List (Option ℕ) → Addr → List ℕ
client_address prefixes addr = stored_address (client_prefix prefixes addr.v6) addr

-- the bytes that are kept of a server's address
abbrev pub server_address : List (Option ℕ) → Addr → List ℕ
server_address prefixes addr = stored_address (server_prefix prefixes addr.v6) addr
