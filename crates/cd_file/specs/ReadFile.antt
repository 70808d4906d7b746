-- What reading a file gives (RFC 8618 7.3): an array of the text "C-DNS", a preamble and an array of blocks. A file is judged
-- from left to right, each head of its beginning once it is there. The preamble and each block are read once they are whole,
-- but for a fault of their CBOR and for too many bytes, which are judged where they stand.
use Rattle.std.specs.Prelude.{ℕ, zero, suc, ◌+◌, ◌-◌, nat_lt, nat_eq, Bool, true, false, ◌&&◌, List, [], ◌∷◌, ◌++◌, length, take, drop, Option, Some, None, Result, Ok, Err, ok_or, bytes_eq, codes, if◌then◌else◌}
use Rattle.cd_cbor.specs.Reading.{item_at, content_at}
use Rattle.cd_cbor.specs.declared.item.Item.{Item}
use Rattle.cd_cbor.specs.declared.fault.Why.TheVariants as why
use Rattle.cd_cbor.specs.declared.fault.CborFault.{CborFault}
use Rattle.cd_cbor.specs.declared.fault.CborFault.TheVariants as fault
use Rattle.cd_cbor.specs.declared.major_type.MajorType.{MajorType}
use Rattle.cd_cbor.specs.declared.major_type.MajorType.TheVariants as major
use Rattle.cd_block.specs.declared.block.Block.{Block}
use Rattle.cd_block.specs.declared.params.Params.{Params}
use Rattle.cd_file.specs.declared.refusal.FileWhy.{FileWhy}
use Rattle.cd_file.specs.declared.refusal.FileWhy.TheVariants.{Cbor, NotCdns, ParamIndex, TooLarge, Trailing}
use Rattle.cd_file.specs.declared.refusal.BadFile.{BadFile}
use Rattle.cd_file.specs.Refusing.{Refusing}
use Rattle.cd_file.specs.ReadHead.{read_params}
use Rattle.cd_file.specs.ReadBlock.{read_block}
use Rattle.cd_file.specs.ItemHeads.{ItemHead, begun_item, chunk_head}

-- How a file ends: whole; open, where its bytes end before it does and hold no refusal; or refused.
pub data FileEnd : Type 0 where
  Whole : FileEnd
  Open : FileEnd
  Refused : FileWhy → FileEnd

-- What a file holds: its block parameters, once its head is whole, its blocks up to the first that is refused, and how it
-- ends after them. Indexes into tables are not looked up.
pub record FileRead : Type 0 where
  pub params : Option (List Params)
  pub blocks : List Block
  pub end : FileEnd

-- a file that ends so before its head is whole
abbrev pub headless : FileEnd → FileRead
headless e = record { params = None; blocks = []; end = e }

-- a file with these block parameters that ends so with no further block
abbrev pub blockless : List Params → FileEnd → FileRead
blockless entries e = record { params = Some entries; blocks = []; end = e }

-- these blocks before those of a file
abbrev pub after_blocks : List Block → FileRead → FileRead
after_blocks blocks rest = record { params = rest.params; blocks = blocks ++ rest.blocks; end = rest.end }

infixl 10 ◌>>=◌
-- one part of a file and then another, which knows what the first gave
abbrev pub ◌>>=◌ : {A B : Type 0} → Result A FileEnd → (A → Result B FileEnd) → Result B FileEnd
(Ok x) >>= next = next x
(Err e) >>= next = Err e

-- what stands at the front of some bytes, and its size
abbrev pub Front : Type 0 → Type 0
Front A = Result (A × ℕ) FileEnd

-- a file goes on after a part at the front of some bytes at an offset, or ends there
abbrev pub onward : {A : Type 0} → Front A → ℕ → List ℕ → (A → ℕ → List ℕ → FileRead) → FileRead
onward (Err e) at bytes go = headless e
onward (Ok x) at bytes go = go x.0 (at + x.1) (drop x.1 bytes)

-- what is read of an item
abbrev pub refusing : {A : Type 0} → Refusing A → Result A FileEnd
refusing (Ok x) = Ok x
refusing (Err reason) = Err (Refused reason)

-- what is read of bytes at an offset, where bytes that end too early are this
abbrev pub judged_or : {A : Type 0} → FileEnd → ℕ → Result A CborFault → Result A FileEnd
judged_or unfinished at (Ok x) = Ok x
judged_or unfinished at (Err (fault.Bad place why.End)) = Err unfinished
judged_or unfinished at (Err (fault.Bad place reason)) = Err (Refused (Cbor (at + place)))
judged_or unfinished at (Err fault.NoMemory) = Err unfinished

-- what is read of bytes at an offset
abbrev pub judged : {A : Type 0} → ℕ → Result A CborFault → Result A FileEnd
judged at reading = judged_or Open at reading

-- the first byte is a break
abbrev pub begins_with_break : List ℕ → Bool
begins_with_break [] = false
begins_with_break (byte ∷ bytes) = nat_eq byte 0xff

-- the head of an element of the outer array; a break is no fault where it ends the array
unfoldable pub element_head : Bool → ℕ → List ℕ → Front ItemHead
element_head is_open at bytes =
    if is_open && begins_with_break bytes then Err (Refused NotCdns) else judged at (begun_item bytes)

-- the longest preamble or block, in bytes
abbrev pub most_item : ℕ
most_item = 134217728

-- bytes of an item that is not whole: they are open, or too many
abbrev pub unfinished_item : List ℕ → FileEnd
unfinished_item bytes = if nat_lt most_item (length bytes) then Refused TooLarge else Open

-- The item at the front, in which so many arrays, maps and tags may be open. What its bytes show first decides, a fault or
-- that they are too many; where one byte shows both, they are too many.
unfoldable pub item_front : ℕ → ℕ → List ℕ → Front Item
item_front depth at bytes =
    judged_or (unfinished_item bytes) at (item_at depth (take most_item bytes) why.Break 0)

-- an array of three is the outer array of a file, and so is one that is open: whether it is open
abbrev pub outer_of : MajorType → Option ℕ → Option Bool
outer_of major.Array None = Some true
outer_of major.Array (Some n) = if nat_eq n 3 then Some false else None
outer_of kind argument = None

-- the head of the outer array at the front: whether it is open
unfoldable pub outer_front : List ℕ → Front Bool
outer_front bytes = do
  head ← judged 0 (begun_item bytes)
  is_open ← ok_or (outer_of head.0.kind head.0.argument) (Refused NotCdns)
  Ok (is_open, head.1)

-- a text of five bytes may be the title of a file, and so may one in chunks: whether it comes in chunks
abbrev pub title_of : MajorType → Option ℕ → Option Bool
title_of major.Text None = Some true
title_of major.Text (Some n) = if nat_eq n 5 then Some false else None
title_of kind argument = None

-- the head of the title at the front: whether it comes in chunks
unfoldable pub title_head : Bool → ℕ → List ℕ → Front Bool
title_head is_open at bytes = do
  head ← element_head is_open at bytes
  is_chunked ← ok_or (title_of head.0.kind head.0.argument) (Refused NotCdns)
  Ok (is_chunked, head.1)

-- a text is the title of a file
abbrev pub is_title : List ℕ → Bool
is_title content = bytes_eq content (codes "C-DNS")

-- the title at the front, behind a head of this size
unfoldable pub title_front : ℕ → ℕ → List ℕ → Front (List ℕ)
title_front size at bytes = do
  content ← judged at (content_at true 0 5 size bytes)
  if is_title content.0 then Ok content else Err (Refused NotCdns)

-- the title so far and the chunk of it at the front, which may bring it to five bytes
unfoldable pub chunk_front : List ℕ → ℕ → List ℕ → Front (List ℕ)
chunk_front title at bytes = do
  more ← judged at (chunk_head (length title) bytes)
  short ← if nat_lt 5 (length title + more.0) then Err (Refused NotCdns) else Ok more
  chunk ← judged at (content_at true 0 short.0 short.1 bytes)
  Ok (title ++ chunk.0, chunk.1)

-- the major type of a map
abbrev pub is_map : MajorType → Bool
is_map major.Map = true
is_map kind = false

-- the preamble at the front: its block parameters
unfoldable pub preamble_front : Bool → ℕ → List ℕ → Front (List Params)
preamble_front is_open at bytes = do
  head ← element_head is_open at bytes
  item ← if is_map head.0.kind then item_front 15 at bytes else Err (Refused NotCdns)
  entries ← refusing (read_params item.0)
  Ok (entries, item.1)

-- an array: how many items it has, if its length is definite
abbrev pub count_of : MajorType → Option ℕ → Option (Option ℕ)
count_of major.Array count = Some count
count_of kind argument = None

-- the head of the array of blocks at the front: how many there are, if its length is definite
unfoldable pub count_front : Bool → ℕ → List ℕ → Front (Option ℕ)
count_front is_open at bytes = do
  head ← element_head is_open at bytes
  count ← ok_or (count_of head.0.kind head.0.argument) (Refused NotCdns)
  Ok (count, head.1)

-- the block at the front, of a file with so many block parameters
unfoldable pub block_front : ℕ → ℕ → List ℕ → Front Block
block_front entry_count at bytes = do
  item ← item_front 14 at bytes
  block ← refusing (read_block item.0)
  if nat_lt block.params entry_count then Ok (block, item.1) else Err (Refused ParamIndex)

-- nothing stands after a file
abbrev pub nothing_more : List ℕ → FileEnd
nothing_more [] = Whole
nothing_more (byte ∷ bytes) = Refused Trailing

-- how a file ends with these bytes after its array of blocks: an outer array that is open ends with a break
unfoldable pub closing : Bool → List ℕ → FileEnd
closing false bytes = nothing_more bytes
closing true [] = Open
closing true (byte ∷ bytes) = if nat_eq byte 0xff then nothing_more bytes else Refused NotCdns

-- how many blocks are still to come, after one more
abbrev pub one_less : Option ℕ → Option ℕ
one_less None = None
one_less (Some n) = Some (n - 1)

-- this byte ends the array of blocks
abbrev pub ends_blocks : Option ℕ → ℕ → Bool
ends_blocks None byte = nat_eq byte 0xff
ends_blocks (Some n) byte = false

-- What bytes at an offset hold of the array of blocks, of which so many are to come: so many of the bytes still belong to the
-- block before, and then come the blocks.
unfoldable pub blocks_on : Bool → List Params → Option ℕ → ℕ → ℕ → List ℕ → FileRead
blocks_on is_open entries (Some zero) zero at bytes = blockless entries (closing is_open bytes)
blocks_on is_open entries left inside at [] = blockless entries Open
blocks_on is_open entries left (suc inside) at (byte ∷ bytes) =
    blocks_on is_open entries left inside (at + 1) bytes
blocks_on is_open entries left zero at (byte ∷ bytes) =
    if ends_blocks left byte then blockless entries (closing is_open bytes)
    else elim (block_front (length entries) at (byte ∷ bytes)) [
      | Err e ↦ blockless entries e
      | Ok x ↦ after_blocks (x.0 ∷ []) (blocks_on is_open entries (one_less left) (x.1 - 1) (at + 1) bytes)
    ]

-- what bytes at an offset hold from the head of the array of blocks on
unfoldable pub array_on : Bool → List Params → ℕ → List ℕ → FileRead
array_on is_open entries at bytes =
    onward (count_front is_open at bytes) at bytes (λ count. blocks_on is_open entries count 0)

-- what bytes at an offset hold from the preamble on
unfoldable pub preamble_on : Bool → ℕ → List ℕ → FileRead
preamble_on is_open at bytes = onward (preamble_front is_open at bytes) at bytes (array_on is_open)

-- What bytes at an offset hold from within a title in chunks on: this is the title so far, so many of the bytes still belong
-- to the chunk before, and then come the chunks.
unfoldable pub chunks_on : Bool → List ℕ → ℕ → ℕ → List ℕ → FileRead
chunks_on is_open title inside at [] = headless Open
chunks_on is_open title (suc inside) at (byte ∷ bytes) = chunks_on is_open title inside (at + 1) bytes
chunks_on is_open title zero at (byte ∷ bytes) =
    if nat_eq byte 0xff then (if is_title title then preamble_on is_open (at + 1) bytes else headless (Refused NotCdns))
    else elim (chunk_front title at (byte ∷ bytes)) [
      | Err e ↦ headless e
      | Ok x ↦ chunks_on is_open x.0 (x.1 - 1) (at + 1) bytes
    ]

-- what bytes at an offset hold from the title on, by its head: whether it comes in chunks
abbrev pub title_by : Bool → ℕ → List ℕ → Front Bool → FileRead
title_by is_open at bytes (Err e) = headless e
title_by is_open at bytes (Ok (true, size)) = chunks_on is_open [] 0 (at + size) (drop size bytes)
title_by is_open at bytes (Ok (false, size)) =
    onward (title_front size at bytes) at bytes (λ title. preamble_on is_open)

-- what bytes at an offset hold from the title on
unfoldable pub title_on : Bool → ℕ → List ℕ → FileRead
title_on is_open at bytes = title_by is_open at bytes (title_head is_open at bytes)

-- what some bytes hold as a file
unfoldable pub read_file : List ℕ → FileRead
read_file bytes = onward (outer_front bytes) 0 bytes title_on

-- the number of what stands after so many blocks: 0 where the head is not whole, for the head
abbrev pub number_after : Option (List Params) → ℕ → ℕ
number_after None count = 0
number_after (Some entries) count = count + 1

-- the refusal of what has this number, where the file ends with one
abbrev pub refusal_at : ℕ → FileEnd → Option BadFile
refusal_at number Whole = None
refusal_at number Open = None
refusal_at number (Refused reason) = Some (record { block = number; why = reason })

-- the first refusal of a file, whose indexes are not looked up
abbrev pub refusal_in : FileRead → Option BadFile
refusal_in file = refusal_at (number_after file.params (length file.blocks)) file.end

-- how a file ends where no byte comes after so many: it does not stay open
abbrev pub told : ℕ → FileEnd → FileEnd
told count Whole = Whole
told count Open = Refused (Cbor count)
told count (Refused reason) = Refused reason

-- the first refusal of a file that has no byte after these, and whose indexes are not looked up
abbrev pub told_refusal : List ℕ → Option BadFile
told_refusal bytes =
    refusal_at (number_after (read_file bytes).params (length (read_file bytes).blocks)) (told (length bytes) (read_file bytes).end)
