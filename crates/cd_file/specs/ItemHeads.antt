-- Heads at the front of some bytes, judged before the rest of their item is there (RFC 8949 3): those of the outer array of
-- a file, of its text, and of what stands behind.
use Rattle.std.specs.Prelude.{ℕ, ◌+◌, ◌/◌, ◌%◌, nat_lt, nat_eq, Bool, true, false, ◌&&◌, List, Option, Some, None, Ok, if◌then◌else◌}
use Rattle.cd_cbor.specs.Heads.{major_type}
use Rattle.cd_cbor.specs.Spells.{most_string}
use Rattle.cd_cbor.specs.Readings.{Reading, ◌>>=◌, refused, byte_at}
use Rattle.cd_cbor.specs.Reading.{argument_at, is_chunk}
use Rattle.cd_cbor.specs.declared.fault.Why.TheVariants as why
use Rattle.cd_cbor.specs.declared.major_type.MajorType.{MajorType}
use Rattle.cd_cbor.specs.declared.major_type.MajorType.TheVariants as major

-- A head: its major type, and its argument, which is absent where the length is indefinite.
pub record ItemHead : Type 0 where
  pub kind : MajorType
  pub argument : Option ℕ

-- the major type of a text or of a string of bytes
abbrev pub is_string : MajorType → Bool
is_string major.Bytes = true
is_string major.Text = true
is_string kind = false

-- a simple value of two bytes that is below 32, which no item has (RFC 8949 3.3)
abbrev pub is_low_simple : ℕ → ℕ → Bool
is_low_simple first argument = nat_eq first 0xf8 && nat_lt argument 32

-- the head of a string that is too long
abbrev pub is_too_long : MajorType → ℕ → Bool
is_too_long kind argument = is_string kind && nat_lt most_string argument

-- the head with an argument that begins with this byte
unfoldable pub definite_head : ℕ → List ℕ → Reading ItemHead
definite_head first bytes = do
  argument ← argument_at (first % 32) 0 bytes
  if is_low_simple first argument.0 then refused 0 why.Head
      else (if is_too_long (major_type (first / 32)) argument.0 then refused 0 why.Length
      else Ok (record { kind = major_type (first / 32); argument = Some argument.0 }, argument.1))

-- the head of one byte that tells no length
unfoldable pub indefinite_head : MajorType → Reading ItemHead
indefinite_head major.Bytes = Ok (record { kind = major.Bytes; argument = None }, 1)
indefinite_head major.Text = Ok (record { kind = major.Text; argument = None }, 1)
indefinite_head major.Array = Ok (record { kind = major.Array; argument = None }, 1)
indefinite_head major.Map = Ok (record { kind = major.Map; argument = None }, 1)
indefinite_head major.Simple = refused 0 why.Break
indefinite_head kind = refused 0 why.Head

-- the head of the item at the front of some bytes, or its fault
unfoldable pub begun_item : List ℕ → Reading ItemHead
begun_item bytes = do
  first ← byte_at 0 bytes
  if nat_lt (first % 32) 28 then definite_head first bytes
      else (if nat_lt (first % 32) 31 then refused 0 why.Head
      else indefinite_head (major_type (first / 32)))

-- how many bytes the chunk at the front adds to a text that has so many, and the size of its head
unfoldable pub chunk_head : ℕ → List ℕ → Reading ℕ
chunk_head before bytes = do
  first ← byte_at 0 bytes
  if is_chunk true first then (do
    more ← argument_at (first % 32) 0 bytes
    if nat_lt most_string (before + more.0) then refused 0 why.Length else Ok more)
      else refused 0 why.Head
