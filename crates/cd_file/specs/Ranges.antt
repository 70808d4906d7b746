-- The ranges of the numbers of a block, which are those of their types, and the length of a string in it.
use Rattle.std.specs.Prelude.{ℕ, ◌<◌, List, length, Option, None, Some, IfSome}
use Rattle.cd_block.specs.declared.block.BlockSig.{BlockSig}
use Rattle.cd_block.specs.declared.block.BlockItem.{BlockItem}
use Rattle.cd_block.specs.declared.block.BlockData.{BlockData}
use Rattle.cd_block.specs.declared.block.BlockMalformed.{BlockMalformed}

-- a byte, where it is there
abbrev pub IsByte : Option ℕ → Type 0
IsByte v = IfSome v (λ n. n < 0x100)

-- a number of two bytes, where it is there
abbrev pub IsWord : Option ℕ → Type 0
IsWord v = IfSome v (λ n. n < 0x1_0000)

-- the ranges of a signature
pub record SignatureInRange (s : BlockSig) : Type 0 where
  pub server_port : IsWord s.server_port
  pub transport_flags : IsByte s.transport_flags
  pub sig_flags : IsByte s.sig_flags
  pub opcode : IsByte s.opcode
  pub dns_flags : IsWord s.dns_flags
  pub query_rcode : IsWord s.query_rcode
  pub qd : IsWord s.qd
  pub an : IsWord s.an
  pub ns : IsWord s.ns
  pub ar : IsWord s.ar
  pub edns_version : IsByte s.edns_version
  pub udp_size : IsWord s.udp_size
  pub response_rcode : IsWord s.response_rcode

-- the ranges of an item
pub record ItemInRange (i : BlockItem) : Type 0 where
  pub client_port : IsWord i.client_port
  pub transaction_id : IsWord i.transaction_id
  pub client_hoplimit : IsByte i.client_hoplimit

-- the ranges of the data of a malformed message
pub record DataInRange (d : BlockData) : Type 0 where
  pub server_port : IsWord d.server_port
  pub transport_flags : IsByte d.transport_flags

-- the range of a malformed message
pub record MalformedInRange (m : BlockMalformed) : Type 0 where
  pub client_port : IsWord m.client_port

-- the ranges of a type and a class
pub record ClasstypeInRange (c : ℕ × ℕ) : Type 0 where
  pub rtype : c.0 < 0x1_0000
  pub rclass : c.1 < 0x1_0000

-- how long a string is, 0 where it is not there
abbrev pub string_length : Option (List ℕ) → ℕ
string_length None = 0
string_length (Some content) = length content
