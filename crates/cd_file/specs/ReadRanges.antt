-- The ranges of what a file gives with each value in its place: what lies beyond them is refused or absent (RFC 8618 7.3).
use Rattle.std.specs.Prelude.{◌≡◌, ℕ, ◌<◌, ◌≤◌, List, length, Option, IfSome}
use Rattle.std.specs.List.{AllByRecursion}
use Rattle.cd_block.specs.declared.kept.KeptBlock.{KeptBlock}
use Rattle.cd_block.specs.declared.kept.KeptData.{KeptData}
use Rattle.cd_block.specs.declared.kept.KeptItem.{KeptItem}
use Rattle.cd_block.specs.declared.kept.KeptLists.{KeptLists}
use Rattle.cd_block.specs.declared.kept.KeptMalformed.{KeptMalformed}
use Rattle.cd_block.specs.declared.kept.KeptQuestion.{KeptQuestion}
use Rattle.cd_block.specs.declared.kept.KeptRr.{KeptRr}
use Rattle.cd_block.specs.declared.kept.KeptSig.{KeptSig}
use Rattle.cd_block.specs.declared.params.Params.{Params}
use Rattle.cd_file.specs.Head.{prefix}
use Rattle.cd_file.specs.KeptFile.{KeptFile, kept_file}
use Rattle.cd_file.specs.Ranges.{IsByte, IsWord, ClasstypeInRange}
use Rattle.cd_file.specs.Readable.{IsRcode, IsSigned, ReadableHints}

-- an opcode of four bits, where it is there
abbrev pub IsOpcode : Option ℕ → Type 0
IsOpcode v = IfSome v (λ n. n < 16)

-- an address of 16 bytes at most, where it is there
abbrev pub IsAddress : Option (List ℕ) → Type 0
IsAddress v = IfSome v (λ address. length address ≤ 16)

-- the ranges of a question
pub record QuestionIsRead (q : KeptQuestion) : Type 0 where
  pub rtype : q.rtype < 0x1_0000
  pub rclass : q.rclass < 0x1_0000

-- the ranges of a resource record
pub record RrIsRead (r : KeptRr) : Type 0 where
  pub rtype : r.rtype < 0x1_0000
  pub rclass : r.rclass < 0x1_0000

-- the ranges of the lists of an extended part
pub record ListsAreRead (l : KeptLists) : Type 0 where
  pub question : AllByRecursion QuestionIsRead l.question
  pub answer : AllByRecursion RrIsRead l.answer
  pub authority : AllByRecursion RrIsRead l.authority
  pub additional : AllByRecursion RrIsRead l.additional

-- the ranges of a signature
pub record SignatureIsRead (s : KeptSig) : Type 0 where
  pub server_address : IsAddress s.server_address
  pub server_port : IsWord s.server_port
  pub transport_flags : IsByte s.transport_flags
  pub sig_flags : IsByte s.sig_flags
  pub opcode : IsOpcode s.opcode
  pub dns_flags : IsWord s.dns_flags
  pub query_rcode : IsRcode s.query_rcode
  pub classtype : IfSome s.classtype ClasstypeInRange
  pub qd : IsWord s.qd
  pub an : IsWord s.an
  pub ns : IsWord s.ns
  pub ar : IsWord s.ar
  pub edns_version : IsByte s.edns_version
  pub udp_size : IsWord s.udp_size
  pub response_rcode : IsRcode s.response_rcode

-- the ranges of an item
pub record ItemIsRead (i : KeptItem) : Type 0 where
  pub client_address : IsAddress i.client_address
  pub client_port : IsWord i.client_port
  pub transaction_id : IsWord i.transaction_id
  pub signature : IfSome i.signature SignatureIsRead
  pub client_hoplimit : IsByte i.client_hoplimit
  pub response_delay : IfSome i.response_delay IsSigned
  pub query_extended : ListsAreRead i.query_extended
  pub response_extended : ListsAreRead i.response_extended

-- the ranges of the data of a malformed message
pub record DataIsRead (d : KeptData) : Type 0 where
  pub server_address : IsAddress d.server_address
  pub server_port : IsWord d.server_port
  pub transport_flags : IsByte d.transport_flags

-- the ranges of a malformed message
pub record MalformedIsRead (m : KeptMalformed) : Type 0 where
  pub client_address : IsAddress m.client_address
  pub client_port : IsWord m.client_port
  pub message_data : IfSome m.message_data DataIsRead

-- the ranges of a block
pub record BlockIsRead (b : KeptBlock) : Type 0 where
  pub items : AllByRecursion ItemIsRead b.items
  pub malformed : AllByRecursion MalformedIsRead b.malformed

-- the ranges of block parameters; flags are passed over
pub record ParamsAreRead (p : Params) : Type 0 where
  pub some_ticks : 1 ≤ p.ticks
  pub few_ticks : p.ticks ≤ 1000000000
  pub hints : ReadableHints p.hints
  pub opcodes : p.opcodes < 0x1_0000
  pub rr_types : AllByRecursion (λ rtype. rtype < 0x1_0000) p.rr_types
  pub flags : p.flags ≡ 0
  pub four_prefixes : length p.prefixes ≡ 4
  pub client_prefix4 : IsByte (prefix 0 p)
  pub client_prefix6 : IsByte (prefix 1 p)
  pub server_prefix4 : IsByte (prefix 2 p)
  pub server_prefix6 : IsByte (prefix 3 p)

-- the ranges of a file
pub record FileIsRead (file : KeptFile) : Type 0 where
  pub params : IfSome file.params (AllByRecursion ParamsAreRead)
  pub blocks : AllByRecursion BlockIsRead file.blocks

-- what any bytes give as a file lies in its ranges
abbrev pub ReadInRange : Type 0
ReadInRange = (bytes : List ℕ) → FileIsRead (kept_file bytes)
