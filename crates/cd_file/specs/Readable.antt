-- What a file gives back: block parameters and blocks whose numbers lie in the ranges in which they are read (RFC 8618 7.3).
use Rattle.std.specs.Prelude.{◌≡◌, ℕ, ◌<◌, ◌≤◌, ◌^◌, ℤ, pos, negsuc, List, length, Option, IfSome}
use Rattle.std.specs.List.{AllByRecursion}
use Rattle.cd_cbor.specs.Spelling.{spelling}
use Rattle.cd_block.specs.declared.block.Block.{Block}
use Rattle.cd_block.specs.declared.block.BlockData.{BlockData}
use Rattle.cd_block.specs.declared.block.BlockItem.{BlockItem}
use Rattle.cd_block.specs.declared.block.BlockLists.{BlockLists}
use Rattle.cd_block.specs.declared.block.BlockMalformed.{BlockMalformed}
use Rattle.cd_block.specs.declared.block.BlockQuestion.{BlockQuestion}
use Rattle.cd_block.specs.declared.block.BlockRr.{BlockRr}
use Rattle.cd_block.specs.declared.block.BlockSig.{BlockSig}
use Rattle.cd_block.specs.declared.hints.Hints.{Hints}
use Rattle.cd_block.specs.declared.params.Params.{Params}
use Rattle.cd_block.specs.declared.stamp.Stamp.{Stamp}
use Rattle.cd_block.specs.declared.stats.Stats.{Stats}
use Rattle.cd_file.specs.Head.{preamble_item, prefix}
use Rattle.cd_file.specs.Files.{block_spelling}
use Rattle.cd_file.specs.Ranges.{IsByte, SignatureInRange, ItemInRange, DataInRange, MalformedInRange, ClasstypeInRange}
use Rattle.cd_file.specs.ReadFile.{most_item}

-- a number of 64 bits
abbrev pub IsNumber : ℕ → Type 0
IsNumber n = n < 2 ^ 64

-- the same, where it is there
abbrev pub IsIndex : Option ℕ → Type 0
IsIndex v = IfSome v IsNumber

-- a signed number of 64 bits
abbrev pub IsSigned : ℤ → Type 0
IsSigned (pos n) = n < 2 ^ 63
IsSigned (negsuc n) = n < 2 ^ 63

-- an RCODE of twelve bits, where it is there
abbrev pub IsRcode : Option ℕ → Type 0
IsRcode v = IfSome v (λ n. n < 0x1000)

-- a signature that is read back: its opcode has four bits, and its RCODEs have twelve
pub record ReadableSignature (s : BlockSig) : Type 0 where
  pub ranges : SignatureInRange s
  pub server_address : IsIndex s.server_address
  pub opcode : IfSome s.opcode (λ n. n < 16)
  pub query_rcode : IsRcode s.query_rcode
  pub classtype : IsIndex s.classtype
  pub opt_rdata : IsIndex s.opt_rdata
  pub response_rcode : IsRcode s.response_rcode

-- a question that is read back
pub record ReadableQuestion (q : BlockQuestion) : Type 0 where
  pub name : IsNumber q.name
  pub classtype : IsNumber q.classtype

-- a resource record that is read back
pub record ReadableRr (r : BlockRr) : Type 0 where
  pub name : IsNumber r.name
  pub classtype : IsNumber r.classtype
  pub ttl : IsIndex r.ttl
  pub rdata : IsIndex r.rdata

-- the data of a malformed message that is read back
pub record ReadableData (d : BlockData) : Type 0 where
  pub ranges : DataInRange d
  pub server_address : IsIndex d.server_address

-- a malformed message that is read back
pub record ReadableMalformed (m : BlockMalformed) : Type 0 where
  pub ranges : MalformedInRange m
  pub time_offset : IsIndex m.time_offset
  pub client_address : IsIndex m.client_address
  pub message_data : IsIndex m.message_data

-- lists of an extended part that are read back
pub record ReadableLists (l : BlockLists) : Type 0 where
  pub question : IsIndex l.question
  pub answer : IsIndex l.answer
  pub authority : IsIndex l.authority
  pub additional : IsIndex l.additional

-- an item that is read back
pub record ReadableItem (i : BlockItem) : Type 0 where
  pub ranges : ItemInRange i
  pub time_offset : IsIndex i.time_offset
  pub client_address : IsIndex i.client_address
  pub signature : IsIndex i.signature
  pub response_delay : IfSome i.response_delay IsSigned
  pub query_name : IsIndex i.query_name
  pub query_size : IsIndex i.query_size
  pub response_size : IsIndex i.response_size
  pub query_extended : ReadableLists i.query_extended
  pub response_extended : ReadableLists i.response_extended

-- a time that is read back
pub record ReadableStamp (s : Stamp) : Type 0 where
  pub seconds : IsNumber s.seconds
  pub ticks : IsNumber s.ticks

-- statistics that are read back
pub record ReadableStats (s : Stats) : Type 0 where
  pub processed : IsNumber s.processed
  pub items : IsNumber s.items
  pub unmatched_queries : IsNumber s.unmatched_queries
  pub unmatched_responses : IsNumber s.unmatched_responses
  pub discarded : IsNumber s.discarded
  pub malformed : IsNumber s.malformed

-- a list of indexes that is read back
abbrev pub ReadableNumbers : List ℕ → Type 0
ReadableNumbers ns = AllByRecursion IsNumber ns

-- tables that are read back; an address has 16 bytes at most
pub record ReadableTables (b : Block) : Type 0 where
  pub ip_address : AllByRecursion (λ address. length address ≤ 16) b.ip_address
  pub classtype : AllByRecursion ClasstypeInRange b.classtype
  pub qr_sig : AllByRecursion ReadableSignature b.qr_sig
  pub qlist : AllByRecursion ReadableNumbers b.qlist
  pub qrr : AllByRecursion ReadableQuestion b.qrr
  pub rrlist : AllByRecursion ReadableNumbers b.rrlist
  pub rr : AllByRecursion ReadableRr b.rr
  pub malformed_message_data : AllByRecursion ReadableData b.malformed_message_data

-- A block that is read back: one of the first block parameters, whose numbers lie in their ranges, with no more bytes than
-- a block may have.
pub record ReadableBlock (b : Block) : Type 0 where
  pub earliest : IfSome b.earliest ReadableStamp
  pub params : b.params ≡ 0
  pub stats : IfSome b.stats ReadableStats
  pub tables : ReadableTables b
  pub items : AllByRecursion ReadableItem b.items
  pub malformed : AllByRecursion ReadableMalformed b.malformed
  pub is_short : length (block_spelling b) ≤ most_item

-- hints that are read back: no bit beyond those that are known
pub record ReadableHints (h : Hints) : Type 0 where
  pub qr : h.qr < 2 ^ 18
  pub sig : h.sig < 2 ^ 17
  pub rr : h.rr < 2 ^ 2
  pub other : h.other < 2 ^ 2

-- Block parameters that are read back: no flag is set, their numbers lie in their ranges, and the preamble with them has no
-- more bytes than it may have.
pub record ReadableParams (p : Params) : Type 0 where
  pub some_ticks : 1 ≤ p.ticks
  pub few_ticks : p.ticks ≤ 1000000000
  pub max_items : IsNumber p.max_items
  pub hints : ReadableHints p.hints
  pub opcodes : p.opcodes < 0x1_0000
  pub rr_types : AllByRecursion (λ rtype. rtype < 0x1_0000) p.rr_types
  pub flags : p.flags ≡ 0
  pub four_prefixes : length p.prefixes ≡ 4
  pub client_prefix4 : IsByte (prefix 0 p)
  pub client_prefix6 : IsByte (prefix 1 p)
  pub server_prefix4 : IsByte (prefix 2 p)
  pub server_prefix6 : IsByte (prefix 3 p)
  pub query_ms : IsIndex p.query_ms
  pub skew_us : IsIndex p.skew_us
  pub is_short : length (spelling (preamble_item p)) ≤ most_item
