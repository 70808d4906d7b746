-- Prefixes of addresses.
use Rattle.std.specs.Prelude.{◌≡◌, ℕ, ◌+◌, ◌-◌, ◌*◌, ◌/◌, ◌^◌, min, Bool, List, [], ◌∷◌, if◌then◌else◌, Option, None}
use Rattle.std.specs.Prelude.{unwrap_or, length}
use Rattle.cd_packet.specs.declared.address.Addr.{Addr}

-- the first bits of a byte, as many as are given, and 0 after them
abbrev pub first_bits_of_byte : ℕ → ℕ → ℕ
first_bits_of_byte bits byte = byte / 2 ^ (8 - bits) * 2 ^ (8 - bits)

-- the first bits of some bytes, and 0 after them: whole bytes, then one that is cut, and then 0
abbrev pub first_bits : ℕ → List ℕ → List ℕ
first_bits bits [] = []
first_bits bits (byte ∷ bytes) = first_bits_of_byte (min bits 8) byte ∷ first_bits (bits - 8) bytes

-- the bits of an address of IPv6, or of IPv4
abbrev pub width_of : Bool → ℕ
width_of v6 = if v6 then 128 else 32

-- the bits of an address that are kept: all where none are given
abbrev pub kept_bits : Addr → Option ℕ → ℕ
kept_bits addr bits = unwrap_or bits (width_of addr.v6)

-- the bytes of an address, with all bits past the kept ones 0
abbrev pub prefix_bytes : Addr → Option ℕ → List ℕ
prefix_bytes addr bits = first_bits (kept_bits addr bits) addr.octets

-- how many bytes are stored
abbrev pub prefix_size : Addr → Option ℕ → ℕ
prefix_size addr bits = (kept_bits addr bits + 7) / 8

-- an address of which all bits are kept stays as it is
abbrev pub WholeAddressesStay : Type 0
WholeAddressesStay = (addr : Addr) → length addr.octets ≡ 16 → prefix_bytes addr None ≡ addr.octets
