-- The IP packet of a datagram: the header of IPv4 (RFC 791 3.1) or of IPv6 (RFC 8200 3), and UDP (RFC 768).
use Rattle.std.specs.Prelude.{◌≡◌, ℕ, ◌+◌, ◌<◌, ◌^◌, nat_lt, ◌==◌, Bool, ◌⊎◌, List, [], ◌∷◌, ◌++◌, length, take}
use Rattle.std.specs.Prelude.{if◌then◌else◌, Option, Some, None}
use Rattle.std.specs.Int.{w16, to_be_bytes}
use Rattle.cd_bytes.specs.Checksum.{checksum_of}
use Rattle.cd_packet.specs.Layers.{Datagram, datagram, layer_of}
use Rattle.cd_packet.specs.declared.address.Addr.{Addr}
use Rattle.cd_packet.specs.declared.packet.Packet.{Packet}
use Rattle.cd_packet.specs.declared.packet.When.TheVariants.{At}

-- the octets of an address, by whether it is one of IPv6
abbrev pub address_size : Bool → ℕ
address_size v6 = if v6 then 16 else 4

-- the octets of an address
abbrev pub address_bytes : Addr → List ℕ
address_bytes a = take (address_size a.v6) a.octets

-- the length that UDP tells: its header and the payload
abbrev pub udp_size : Datagram → ℕ
udp_size d = length d.payload + 8

-- the header of UDP, with this checksum
abbrev pub udp_header : Datagram → ℕ → List ℕ
udp_header d check =
    to_be_bytes w16 d.sport ++ to_be_bytes w16 d.dport ++ to_be_bytes w16 (udp_size d) ++ to_be_bytes w16 check

-- what stands after the addresses in the pseudo header of a UDP of this length (RFC 768, RFC 8200 8.1)
abbrev pub pseudo_end : Bool → ℕ → List ℕ
pseudo_end v6 size =
    if v6 then 0 ∷ 0 ∷ [] ++ to_be_bytes w16 size ++ 0 ∷ 0 ∷ 0 ∷ 17 ∷ [] else 0 ∷ 17 ∷ [] ++ to_be_bytes w16 size

-- the checksum of the pseudo header and UDP, where 0 is sent as the other spelling of 0
abbrev pub sent : ℕ → ℕ
sent check = if check == 0 then 0xffff else check

-- the checksum of UDP
abbrev pub udp_check : Datagram → ℕ
udp_check d = sent (checksum_of
    (address_bytes d.src ++ address_bytes d.dst ++ pseudo_end d.src.v6 (udp_size d) ++ udp_header d 0 ++ d.payload))

-- the header of IPv4 up to its addresses, of 20 bytes in all: no options, not a fragment, with this checksum
abbrev pub ipv4_front : ℕ → ℕ → ℕ → List ℕ
ipv4_front total hop check =
    0x45 ∷ 0 ∷ [] ++ to_be_bytes w16 total ++ 0 ∷ 0 ∷ 0 ∷ 0 ∷ hop ∷ 17 ∷ [] ++ to_be_bytes w16 check

-- the header of IPv6 up to its addresses: traffic class 0, flow label 0
abbrev pub ipv6_front : ℕ → ℕ → List ℕ
ipv6_front size hop = 0x60 ∷ 0 ∷ 0 ∷ 0 ∷ [] ++ to_be_bytes w16 size ++ 17 ∷ hop ∷ []

-- the header of IP
abbrev pub ip_header : Datagram → List ℕ
ip_header d =
    if d.src.v6 then ipv6_front (udp_size d) d.hop ++ address_bytes d.src ++ address_bytes d.dst
    else ipv4_front (udp_size d + 20) d.hop
    (checksum_of (ipv4_front (udp_size d + 20) d.hop 0 ++ address_bytes d.src ++ address_bytes d.dst))
    ++ address_bytes d.src ++ address_bytes d.dst

-- the greatest payload: its length and that of the headers before it have 16 bits
abbrev pub most_payload : Bool → ℕ
most_payload v6 = if v6 then 65527 else 65507

-- the bytes of the IP packet of a datagram
abbrev pub spelled : Datagram → List ℕ
spelled d = ip_header d ++ udp_header d (udp_check d) ++ d.payload

-- the IP packet of a datagram whose payload is not too long
unfoldable pub built : Datagram → Option (List ℕ)
built d = if nat_lt (most_payload d.src.v6) (length d.payload) then None else Some (spelled d)

-- what types keep of a datagram, and that its addresses have one version
pub record IsBuildable (d : Datagram) : Type 0 where
  pub src : length d.src.octets ≡ 16
  pub dst : length d.dst.octets ≡ 16
  pub one_version : d.src.v6 ≡ d.dst.v6
  pub sport : d.sport < 2 ^ 16
  pub dport : d.dport < 2 ^ 16

-- a packet of this time that holds exactly these bytes of IP, uncut, with no link header
pub record HoldsIp (time : ℕ) (held : List ℕ) (p : Packet) : Type 0 where
  pub when : p.when ≡ At time
  pub link : p.link ≡ 101
  pub bytes : p.bytes ≡ held
  pub original : p.original ≡ length held

-- the IP packet of a datagram holds that datagram, for each of its two ports
abbrev pub BuiltIsRead : Type 0
BuiltIsRead = (d : Datagram) (bytes : List ℕ) (p : Packet) (port : ℕ) → IsBuildable d → built d ≡ Some bytes →
    HoldsIp d.time bytes p → (port ≡ d.sport) ⊎ (port ≡ d.dport) → layer_of port p ≡ datagram d
