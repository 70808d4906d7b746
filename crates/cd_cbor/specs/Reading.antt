-- What some bytes are: an item and its length, or the first fault with its place (RFC 8949 3 and Appendix C). A fault
-- stands at the head that shows it, an end of the bytes at their end.
use Rattle.std.specs.Prelude.{ℕ, zero, suc, ◌+◌, ◌-◌, ◌/◌, ◌%◌, nat_lt, nat_eq, Bool, true, false, ◌&&◌, List, length, Result, Ok, if◌then◌else◌}
use Rattle.std.specs.List.{concat}
use Rattle.cd_cbor.specs.Heads.{major_type, argument_size, argument_of}
use Rattle.cd_cbor.specs.MajorTypes.{major_number}
use Rattle.cd_cbor.specs.Items.{unsigned, negative, array, entries}
use Rattle.cd_cbor.specs.Spells.{other, most_string, most_depth, string_type, string_item, is_content}
use Rattle.cd_cbor.specs.Readings.{Reading, ◌>>=◌, refused, ends, piece, byte_at, times, until_break}
use Rattle.cd_cbor.specs.declared.item.Item.{Item}
use Rattle.cd_cbor.specs.declared.fault.Why.{Why}
use Rattle.cd_cbor.specs.declared.fault.Why.TheVariants as why
use Rattle.cd_cbor.specs.declared.fault.CborFault.{CborFault}
use Rattle.cd_cbor.specs.declared.major_type.MajorType.{MajorType}
use Rattle.cd_cbor.specs.declared.major_type.MajorType.TheVariants as major

-- the argument of the head at an offset, of which the first byte is there, and where the head ends
unfoldable pub argument_at : ℕ → ℕ → List ℕ → Reading ℕ
argument_at info at bytes =
    if nat_lt (length bytes) (at + 1 + argument_size info) then ends bytes
    else Ok (argument_of info (piece (at + 1) (argument_size info) bytes), at + 1 + argument_size info)

-- the content of a string, once it is whole: so many bytes from an offset on, of a head at an offset before
unfoldable pub content_at : Bool → ℕ → ℕ → ℕ → List ℕ → Reading (List ℕ)
content_at is_text head size at bytes =
    if nat_lt (length bytes) (at + size) then ends bytes
    else (if is_content is_text (piece at size bytes) then Ok (piece at size bytes, at + size)
    else refused head why.Utf8)

-- the string of the head at an offset, in which so many bytes were there before, in chunks
unfoldable pub string_at : Bool → ℕ → ℕ → ℕ → List ℕ → Reading (List ℕ)
string_at is_text before info at bytes = do
  size ← argument_at info at bytes
  if nat_lt most_string (before + size.0) then refused at why.Length
      else content_at is_text at size.0 size.1 bytes

-- this is the first byte of a string of definite length
abbrev pub is_chunk : Bool → ℕ → Bool
is_chunk is_text first = nat_eq (first / 32) (major_number (string_type is_text)) && nat_lt (first % 32) 28

-- a chunk, and the place after it: how many bytes of chunks were there, and the offset
unfoldable pub chunk_at : Bool → List ℕ → ℕ × ℕ → Result (List ℕ × (ℕ × ℕ)) CborFault
chunk_at is_text bytes place = do
  first ← byte_at place.1 bytes
  if is_chunk is_text first then (do
    chunk ← string_at is_text place.0 (first % 32) place.1 bytes
    Ok (chunk.0, (place.0 + length chunk.0, chunk.1)))
      else refused place.1 why.Head

-- what some chunks are together
abbrev pub joined : List (List ℕ) × ℕ → Reading (List ℕ)
joined chunks = Ok (concat chunks.0, chunks.1)

-- the content of the string in chunks that begin at an offset
unfoldable pub chunks_at : Bool → ℕ → List ℕ → Reading (List ℕ)
chunks_at is_text at bytes =
    until_break (λ place. place.1) bytes (length bytes) (chunk_at is_text bytes) (0, at) >>= joined

-- the string of definite length with its head at an offset
unfoldable pub definite_string_at : Bool → ℕ → ℕ → List ℕ → Reading Item
definite_string_at is_text info at bytes = do
  content ← string_at is_text 0 info at bytes
  Ok (string_item is_text content.0, content.1)

-- the string in chunks with its head at an offset
unfoldable pub chunked_string_at : Bool → ℕ → List ℕ → Reading Item
chunked_string_at is_text at bytes = do
  content ← chunks_at is_text (at + 1) bytes
  Ok (string_item is_text content.0, content.1)

-- the simple value or the float with its head at an offset; in two bytes it is not below 32
unfoldable pub simple_at : ℕ → ℕ → List ℕ → Reading Item
simple_at info at bytes = do
  value ← argument_at info at bytes
  if nat_eq info 24 && nat_lt value.0 32 then refused at why.Head
      else Ok (other (piece at (value.1 - at) bytes), value.1)

-- reads an item from an offset on, at which a break is this fault
abbrev pub ItemReader : Type 0
ItemReader = Why → ℕ → Reading Item

-- a key, and a value, at which a break is this fault
unfoldable pub entry_at : ItemReader → Why → ℕ → Reading (Item × Item)
entry_at inner broken at = do
  key ← inner why.Break at
  value ← inner broken key.1
  Ok ((key.0, value.0), value.1)

-- some items as an array
abbrev pub array_of : List Item × ℕ → Reading Item
array_of items = Ok (array items.0, items.1)

-- some pairs as a map
abbrev pub map_of : List (Item × Item) × ℕ → Reading Item
map_of pairs = Ok (entries pairs.0, pairs.1)

-- what is read where one more array, map or tag may be open, at the offset of its head
abbrev pub opened : {A : Type 0} → ℕ → ℕ → Result A CborFault → Result A CborFault
opened depth at reading = if nat_eq depth 0 then refused at why.Depth else reading

-- the array of definite length with its head at an offset
unfoldable pub array_at : ℕ → ItemReader → ℕ → ℕ → List ℕ → Reading Item
array_at depth inner info at bytes = opened depth at (do
  count ← argument_at info at bytes
  times count.0 (inner why.Break) count.1 >>= array_of)

-- the map of definite length with its head at an offset
unfoldable pub map_at : ℕ → ItemReader → ℕ → ℕ → List ℕ → Reading Item
map_at depth inner info at bytes = opened depth at (do
  count ← argument_at info at bytes
  times count.0 (entry_at inner why.Break) count.1 >>= map_of)

-- the tagged value with its head at an offset
unfoldable pub tagged_at : ℕ → ItemReader → ℕ → ℕ → List ℕ → Reading Item
tagged_at depth inner info at bytes = opened depth at (do
  tag ← argument_at info at bytes
  content ← inner why.Break tag.1
  Ok (other (piece at (content.1 - at) bytes), content.1))

-- the array up to a break with its head at an offset
unfoldable pub open_array_at : ℕ → ItemReader → ℕ → List ℕ → Reading Item
open_array_at depth inner at bytes =
    opened depth at (until_break (λ place. place) bytes (length bytes) (inner why.Break) (at + 1) >>= array_of)

-- the map up to a break with its head at an offset
unfoldable pub open_map_at : ℕ → ItemReader → ℕ → List ℕ → Reading Item
open_map_at depth inner at bytes =
    opened depth at (until_break (λ place. place) bytes (length bytes) (entry_at inner why.Odd) (at + 1) >>= map_of)

-- the item of a head with an argument
unfoldable pub definite_at : ℕ → ItemReader → MajorType → ℕ → ℕ → List ℕ → Reading Item
definite_at depth inner major.Unsigned info at bytes = do
  n ← argument_at info at bytes
  Ok (unsigned n.0, n.1)
definite_at depth inner major.Negative info at bytes = do
  n ← argument_at info at bytes
  Ok (negative n.0, n.1)
definite_at depth inner major.Bytes info at bytes = definite_string_at false info at bytes
definite_at depth inner major.Text info at bytes = definite_string_at true info at bytes
definite_at depth inner major.Array info at bytes = array_at depth inner info at bytes
definite_at depth inner major.Map info at bytes = map_at depth inner info at bytes
definite_at depth inner major.Tag info at bytes = tagged_at depth inner info at bytes
definite_at depth inner major.Simple info at bytes = simple_at info at bytes

-- the item of a head of one byte that tells no length, or a break, which is no item
unfoldable pub indefinite_at : ℕ → ItemReader → Why → MajorType → ℕ → List ℕ → Reading Item
indefinite_at depth inner broken major.Unsigned at bytes = refused at why.Head
indefinite_at depth inner broken major.Negative at bytes = refused at why.Head
indefinite_at depth inner broken major.Bytes at bytes = chunked_string_at false at bytes
indefinite_at depth inner broken major.Text at bytes = chunked_string_at true at bytes
indefinite_at depth inner broken major.Array at bytes = open_array_at depth inner at bytes
indefinite_at depth inner broken major.Map at bytes = open_map_at depth inner at bytes
indefinite_at depth inner broken major.Tag at bytes = refused at why.Head
indefinite_at depth inner broken major.Simple at bytes = refused at broken

-- the item at an offset, in which so many arrays, maps and tags may be open, with those in it read by another reader
unfoldable pub item_by : ℕ → ItemReader → Why → ℕ → List ℕ → Reading Item
item_by depth inner broken at bytes = do
  first ← byte_at at bytes
  if nat_lt (first % 32) 28 then definite_at depth inner (major_type (first / 32)) (first % 32) at bytes
      else (if nat_lt (first % 32) 31 then refused at why.Head
      else indefinite_at depth inner broken (major_type (first / 32)) at bytes)

-- the item at an offset, at which a break is this fault
unfoldable pub item_at : ℕ → List ℕ → Why → ℕ → Reading Item
item_at zero bytes broken at = item_by 0 (λ reason inside. refused inside why.Depth) broken at bytes
item_at (suc depth) bytes broken at = item_by (suc depth) (item_at depth bytes) broken at bytes

-- the item at the front of some bytes and its length, or the first fault
abbrev pub cbor : List ℕ → Reading Item
cbor bytes = item_at most_depth bytes why.Break 0
