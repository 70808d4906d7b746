-- Numbers in bytes, in either order.
use Rattle.std.specs.Prelude.{ℕ, ◌+◌, ◌*◌, List, slice_index}
use Rattle.std.specs.Int.{Width, from_be_bytes, from_le_bytes, to_be_bytes, to_le_bytes}
use Rattle.cd_bytes.specs.declared.order.Order.{Order}
use Rattle.cd_bytes.specs.declared.order.Order.TheVariants.{Big, Little}

-- the number of this width that the first bytes are, in this order
abbrev pub number_of : Width → Order → List ℕ → ℕ
number_of width Big bytes = from_be_bytes width bytes
number_of width Little bytes = from_le_bytes width bytes

-- the bytes of a number of this width, in this order
abbrev pub bytes_of : Width → Order → ℕ → List ℕ
bytes_of width Big n = to_be_bytes width n
bytes_of width Little n = to_le_bytes width n

-- the big-endian number of two bytes at an offset, where a byte past the end counts as 0, as in the three that follow
unfoldable pub be16 : ℕ → List ℕ → ℕ
be16 at bytes = 0x100 * slice_index bytes at + slice_index bytes (at + 1)

-- the big-endian number of four bytes at an offset
unfoldable pub be32 : ℕ → List ℕ → ℕ
be32 at bytes = 0x100_0000 * slice_index bytes at + 0x1_0000 * slice_index bytes (at + 1) + 0x100 * slice_index bytes (at + 2) + slice_index bytes (at + 3)

-- the little-endian number of two bytes at an offset
unfoldable pub le16 : ℕ → List ℕ → ℕ
le16 at bytes = slice_index bytes at + 0x100 * slice_index bytes (at + 1)

-- the little-endian number of four bytes at an offset
unfoldable pub le32 : ℕ → List ℕ → ℕ
le32 at bytes = slice_index bytes at + 0x100 * slice_index bytes (at + 1) + 0x1_0000 * slice_index bytes (at + 2) + 0x100_0000 * slice_index bytes (at + 3)

-- the number of two bytes at an offset, in this order
abbrev pub number16_at : Order → ℕ → List ℕ → ℕ
number16_at Big at bytes = be16 at bytes
number16_at Little at bytes = le16 at bytes

-- the number of four bytes at an offset, in this order
abbrev pub number32_at : Order → ℕ → List ℕ → ℕ
number32_at Big at bytes = be32 at bytes
number32_at Little at bytes = le32 at bytes
