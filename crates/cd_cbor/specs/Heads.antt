-- Heads (RFC 8949 3): the first byte has the major type and the additional information, and the argument follows.
use Rattle.std.specs.Prelude.{◌≡◌, ℕ, ◌+◌, ◌*◌, ◌^◌, ◌<◌, nat_lt, nat_eq, List, ◌∷◌, length, slice_index, if◌then◌else◌}
use Rattle.std.specs.Int.{from_be_bytes, w16, w32, w64}
use Rattle.cd_cbor.specs.MajorTypes.{major_number}
use Rattle.cd_cbor.specs.declared.major_type.MajorType.{MajorType}
use Rattle.cd_cbor.specs.declared.major_type.MajorType.TheVariants.{Unsigned, Negative, Bytes, Text, Array, Map, Tag, Simple}

-- the major type of this number, 0 to 7
unfoldable pub major_type : ℕ → MajorType
major_type number =
    if nat_eq number 0 then Unsigned
    else (if nat_eq number 1 then Negative
    else (if nat_eq number 2 then Bytes
    else (if nat_eq number 3 then Text
    else (if nat_eq number 4 then Array
    else (if nat_eq number 5 then Map
    else (if nat_eq number 6 then Tag
    else Simple))))))

-- how many bytes of a head with this additional information, below 28, stand after its first
unfoldable pub argument_size : ℕ → ℕ
argument_size info =
    if nat_lt info 24 then 0
    else (if nat_lt info 25 then 1
    else (if nat_lt info 26 then 2
    else (if nat_lt info 27 then 4
    else 8)))

-- the argument of a head with this additional information, below 28, and these bytes after its first
unfoldable pub argument_of : ℕ → List ℕ → ℕ
argument_of info bytes =
    if nat_lt info 24 then info
    else (if nat_lt info 25 then slice_index bytes 0
    else (if nat_lt info 26 then from_be_bytes w16 bytes
    else (if nat_lt info 27 then from_be_bytes w32 bytes
    else from_be_bytes w64 bytes)))

-- these bytes are a head of this major type with this argument, in any of its sizes
pub record IsHead (major : MajorType) (argument : ℕ) (bytes : List ℕ) : Type 0 where
  pub small : argument < 2 ^ 64
  pub info : ℕ
  pub after : List ℕ
  pub definite : info < 28
  pub long : length after ≡ argument_size info
  pub whole : bytes ≡ (32 * major_number major + info) ∷ after
  pub value : argument_of info after ≡ argument
