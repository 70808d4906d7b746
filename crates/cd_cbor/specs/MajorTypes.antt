-- The numbers of major types.
use Rattle.std.specs.Prelude.{ℕ}
use Rattle.cd_cbor.specs.declared.major_type.MajorType.{MajorType}
use Rattle.cd_cbor.specs.declared.major_type.MajorType.TheVariants.{Unsigned, Negative, Bytes, Text, Array, Map, Tag, Simple}

-- the number of a major type (RFC 8949 3.1)
abbrev pub major_number : MajorType → ℕ
major_number Unsigned = 0
major_number Negative = 1
major_number Bytes = 2
major_number Text = 3
major_number Array = 4
major_number Map = 5
major_number Tag = 6
major_number Simple = 7
