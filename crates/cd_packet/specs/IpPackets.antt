-- What the headers of IPv4 (RFC 791 3.1) and of IPv6 (RFC 8200 3 and 4) at an offset of a packet say.
use Rattle.std.specs.Prelude.{ℕ, zero, suc, ◌+◌, ◌-◌, ◌*◌, ◌%◌, ◌/◌, nat_lt, nat_eq, Bool, true, false, ◌||◌, not}
use Rattle.std.specs.Prelude.{List, [], ◌∷◌, take, drop, slice_index, if◌then◌else◌, Result, Ok, Err, refl}
use Rattle.std.proofs.lemmas.Bool.{true≢false}
use Rattle.cd_bytes.specs.Numbers.{be16}
use Rattle.cd_packet.specs.Readings.{◌>>=◌, skip_if, needs}
use Rattle.cd_packet.specs.declared.address.Addr.{Addr}
use Rattle.cd_packet.specs.declared.datagram.Reason.{Reason}
use Rattle.cd_packet.specs.declared.datagram.Reason.TheVariants.{Length, NotIp, Fragment}
use Rattle.cd_packet.specs.declared.ip_packet.IpPacket.{IpPacket}
use Rattle.cd_packet.specs.declared.packet.Packet.{Packet}

-- the IPv4 address at an offset
abbrev pub ipv4_at : ℕ → List ℕ → Addr
ipv4_at at bytes = record {
  v6 = false;
  octets = slice_index bytes at ∷ slice_index bytes (at + 1) ∷ slice_index bytes (at + 2) ∷ slice_index bytes (at + 3)
      ∷ 0 ∷ 0 ∷ 0 ∷ 0 ∷ 0 ∷ 0 ∷ 0 ∷ 0 ∷ 0 ∷ 0 ∷ 0 ∷ 0 ∷ [];
  padded = λ _. refl;
}

-- the IPv6 address at an offset
abbrev pub ipv6_at : ℕ → List ℕ → Addr
ipv6_at at bytes = record { v6 = true; octets = take 16 (drop at bytes); padded = λ e. absurd (true≢false e) }

-- the version of IP that the header at an offset tells
abbrev pub version_at : ℕ → List ℕ → ℕ
version_at at bytes = slice_index bytes at / 16

-- the length of the IPv4 header at an offset, in bytes
abbrev pub header_length : ℕ → List ℕ → ℕ
header_length at bytes = slice_index bytes at % 16 * 4

-- the length of the IPv4 packet at an offset, in bytes
abbrev pub total_length : ℕ → List ℕ → ℕ
total_length at bytes = be16 (at + 2) bytes

-- what the IPv4 header at an offset says
abbrev pub ipv4_header : ℕ → List ℕ → IpPacket
ipv4_header at bytes = record {
  protocol = slice_index bytes (at + 9);
  src = ipv4_at (at + 12) bytes;
  dst = ipv4_at (at + 16) bytes;
  hop = slice_index bytes (at + 8);
  start = at + header_length at bytes;
  end = at + total_length at bytes;
  one_version = refl;
}

-- IPv4. A fragment has an offset, in 13 bits, or the bit before them that says that more follow.
abbrev pub ipv4_packet : ℕ → Packet → Result IpPacket Reason
ipv4_packet at p = do
  _ ← needs (at + 20) p
  _ ← skip_if (not (nat_eq (version_at at p.bytes) 4)) NotIp
  _ ← skip_if (nat_lt (header_length at p.bytes) 20) Length
  _ ← skip_if (nat_lt (total_length at p.bytes) (header_length at p.bytes)) Length
  _ ← skip_if (not (nat_eq (be16 (at + 6) p.bytes % 0x4000) 0)) Fragment
  Ok (ipv4_header at p.bytes)

-- what the fixed header of IPv6 at an offset says, of 40 bytes, before any extension header
abbrev pub ipv6_header : ℕ → List ℕ → IpPacket
ipv6_header at bytes = record {
  protocol = slice_index bytes (at + 6);
  src = ipv6_at (at + 8) bytes;
  dst = ipv6_at (at + 24) bytes;
  hop = slice_index bytes (at + 7);
  start = at + 40;
  end = at + 40 + be16 (at + 4) bytes;
  one_version = refl;
}

-- the extension headers that are walked: hop-by-hop options, routing, destination options (RFC 8200 4.3, 4.4, 4.6)
abbrev pub is_extension : ℕ → Bool
is_extension protocol = nat_eq protocol 0 || nat_eq protocol 43 || nat_eq protocol 60

-- the offset after the extension header at an offset, which tells its length in units of 8 bytes, without the first 8
abbrev pub extension_end : ℕ → List ℕ → ℕ
extension_end at bytes = at + 8 + 8 * slice_index bytes (at + 1)

-- the extension header at an offset, in a payload that ends at another: first its two bytes that tell what follows and
-- its length, and then the whole of it, lie in the payload and are needed
abbrev pub extension_there : ℕ → ℕ → Packet → Result (Unit {0}) Reason
extension_there start end p = do
  _ ← skip_if (nat_lt end (start + 2)) Length
  _ ← needs (start + 2) p
  _ ← skip_if (nat_lt end (extension_end start p.bytes)) Length
  needs (extension_end start p.bytes) p

-- the offset after an extension header that is there
abbrev pub extension_passed : ℕ → ℕ → Packet → Result ℕ Reason
extension_passed start end p = do
  _ ← extension_there start end p
  Ok (extension_end start p.bytes)

-- what is known of the packet after its next extension header, which tells the protocol of what follows
abbrev pub after_extension : List ℕ → IpPacket → IpPacket
after_extension bytes ip =
    record ip { protocol = slice_index bytes ip.start; start = extension_end ip.start bytes }

-- what is carried after all extension headers that are walked: a fragment is not read (RFC 8200 4.5)
abbrev pub carried : IpPacket → Result IpPacket Reason
carried ip = if nat_eq ip.protocol 44 then Err Fragment else Ok ip

-- The extension headers that come next, where at most so many bytes of the payload are left. With none left not even
-- the two bytes of the next one lie in the payload.
unfoldable pub walked_within : ℕ → Packet → IpPacket → Result IpPacket Reason
walked_within zero p ip = if is_extension ip.protocol then Err Length else carried ip
walked_within (suc left) p ip =
    if is_extension ip.protocol then (do
      _ ← extension_there ip.start ip.end p
      walked_within left p (after_extension p.bytes ip))
    else carried ip

-- the extension headers from here on
unfoldable pub walked : Packet → IpPacket → Result IpPacket Reason
walked p ip = walked_within (ip.end - ip.start) p ip

-- IPv6
abbrev pub ipv6_packet : ℕ → Packet → Result IpPacket Reason
ipv6_packet at p = do
  _ ← needs (at + 40) p
  _ ← skip_if (not (nat_eq (version_at at p.bytes) 6)) NotIp
  walked p (ipv6_header at p.bytes)
