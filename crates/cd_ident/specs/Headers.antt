-- What the second word of a message's header says (RFC 1035 4.1.1).
use Rattle.std.specs.Prelude.{ℕ, ◌/◌, ◌%◌, ◌^◌, nat_eq, Bool}

-- QR, its first bit: 0 in a query, 1 in a response
abbrev pub qr_of : ℕ → ℕ
qr_of bits = bits / 0x8000 % 2

-- the opcode, the four bits after QR
abbrev pub opcode_of : ℕ → ℕ
opcode_of bits = bits / 0x800 % 16

-- whether the bit of an opcode is set
abbrev pub is_listed : ℕ → ℕ → Bool
is_listed opcodes opcode = nat_eq (opcodes / 2 ^ opcode % 2) 1
