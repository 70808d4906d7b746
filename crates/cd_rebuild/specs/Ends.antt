-- The addresses and ports between which a message is rebuilt (RFC 8618 7.3.2.3.2, 7.3.2.3.5, 7.3.2.4, 7.3.2.6).
use Rattle.std.specs.Prelude.{◌≡◌, ℕ, Bool, true, false, List, [], ◌∷◌, drop, replicate, slice_index, if◌then◌else◌}
use Rattle.std.specs.Prelude.{Option, unwrap_or, refl}
use Rattle.std.proofs.lemmas.Bool.{true≢false}
use Rattle.cd_block.specs.declared.kept.KeptSig.{KeptSig}
use Rattle.cd_block.specs.declared.kept.KeptItem.{KeptItem}
use Rattle.cd_block.specs.declared.kept.KeptData.{KeptData}
use Rattle.cd_block.specs.declared.kept.KeptMalformed.{KeptMalformed}
use Rattle.cd_packet.specs.declared.address.Addr.{Addr}
use Rattle.cd_rebuild.specs.Flags.{is_ipv6}
use Rattle.cd_rebuild.specs.declared.ends.Ends.{Ends}

-- the first four bytes of an address, with 0 for each that is not kept
abbrev pub ipv4_octets : List ℕ → List ℕ
ipv4_octets bytes =
    slice_index bytes 0 ∷ slice_index bytes 1 ∷ slice_index bytes 2 ∷ slice_index bytes 3
    ∷ 0 ∷ 0 ∷ 0 ∷ 0 ∷ 0 ∷ 0 ∷ 0 ∷ 0 ∷ 0 ∷ 0 ∷ 0 ∷ 0 ∷ []

-- the first sixteen bytes of an address, with 0 for each that is not kept
abbrev pub ipv6_octets : List ℕ → List ℕ
ipv6_octets bytes =
    slice_index bytes 0 ∷ slice_index bytes 1 ∷ slice_index bytes 2 ∷ slice_index bytes 3
    ∷ slice_index bytes 4 ∷ slice_index bytes 5 ∷ slice_index bytes 6 ∷ slice_index bytes 7
    ∷ slice_index bytes 8 ∷ slice_index bytes 9 ∷ slice_index bytes 10 ∷ slice_index bytes 11
    ∷ slice_index bytes 12 ∷ slice_index bytes 13 ∷ slice_index bytes 14 ∷ slice_index bytes 15 ∷ []

-- the octets of an address of which these bytes are kept
abbrev pub octets_of : Bool → List ℕ → List ℕ
octets_of v6 bytes = if v6 then ipv6_octets bytes else ipv4_octets bytes

-- after the four octets of IPv4 the others are 0
pub octets_padded : (v6 : Bool) (bytes : List ℕ) → v6 ≡ false → drop 4 (octets_of v6 bytes) ≡ replicate 12 0
octets_padded true bytes is = absurd (true≢false is)
octets_padded false bytes is = refl

-- the address of which these bytes are kept; where none are, all octets are 0
abbrev pub address_of : Bool → Option (List ℕ) → Addr
address_of v6 bytes = record {
  v6 = v6;
  octets = octets_of v6 (unwrap_or bytes []);
  padded = octets_padded v6 (unwrap_or bytes []);
}

-- The two ends, of what is kept of them. An absent port of the client is 0, and one of the server is 53.
abbrev pub ends_of : Bool → Option (List ℕ) → Option ℕ → Option (List ℕ) → Option ℕ → Ends
ends_of v6 client client_port server server_port = record {
  client = address_of v6 client;
  client_port = unwrap_or client_port 0;
  server = address_of v6 server;
  server_port = unwrap_or server_port 53;
  one_version = refl;
}

-- the ends of an item
abbrev pub item_ends : KeptItem → KeptSig → Ends
item_ends i s = ends_of (is_ipv6 s.transport_flags) i.client_address i.client_port s.server_address s.server_port

-- the ends of a malformed message
abbrev pub malformed_ends : KeptMalformed → KeptData → Ends
malformed_ends m d = ends_of (is_ipv6 d.transport_flags) m.client_address m.client_port d.server_address d.server_port
