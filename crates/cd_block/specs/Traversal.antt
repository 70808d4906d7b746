-- The values of a kept block that stand in tables, in the order in which a block is gone through (RFC 8618 7.3.2.3).
-- The tables and the resolving of a block follow this order.
use Rattle.std.specs.Prelude.{ℕ, List, [], ◌∷◌, ◌++◌, Option, Some, None}
use Rattle.std.specs.List.{flat_map, filter_map}
use Rattle.std.specs.Option.{option_map_or}
use Rattle.cd_block.specs.declared.kept.KeptQuestion.{KeptQuestion}
use Rattle.cd_block.specs.declared.kept.KeptRr.{KeptRr}
use Rattle.cd_block.specs.declared.kept.KeptLists.{KeptLists}
use Rattle.cd_block.specs.declared.kept.KeptSig.{KeptSig}
use Rattle.cd_block.specs.declared.kept.KeptItem.{KeptItem}
use Rattle.cd_block.specs.declared.kept.KeptData.{KeptData}
use Rattle.cd_block.specs.declared.kept.KeptMalformed.{KeptMalformed}
use Rattle.cd_block.specs.declared.kept.KeptBlock.{KeptBlock}

-- a value that stands in a table, one kind for each table, in the order of their keys
pub data Visited : Type 0 where
  Address : List ℕ → Visited
  ClassType : ℕ × ℕ → Visited
  NameOrRdata : List ℕ → Visited
  Signature : KeptSig → Visited
  QuestionList : List KeptQuestion → Visited
  Question : KeptQuestion → Visited
  RecordList : List KeptRr → Visited
  Record : KeptRr → Visited
  MalformedData : KeptData → Visited

-- the values of a part that may be absent
abbrev pub where_present : {T : Type 0} → (T → List Visited) → Option T → List Visited
where_present visited part = option_map_or visited part []

-- an address
abbrev pub visited_address : List ℕ → List Visited
visited_address bytes = Address bytes ∷ []

-- a type and a class
abbrev pub visited_classtype : ℕ × ℕ → List Visited
visited_classtype c = ClassType c ∷ []

-- a name or RDATA, in its bytes as they are
abbrev pub visited_bytes : List ℕ → List Visited
visited_bytes bytes = NameOrRdata bytes ∷ []

-- a signature: itself, its server's address, its type and class, and the options of its OPT record
unfoldable pub visited_signature : KeptSig → List Visited
visited_signature s =
    Signature s ∷ where_present visited_address s.server_address
    ++ where_present visited_classtype s.classtype
    ++ where_present visited_bytes s.opt_rdata

-- a question: itself, its name, and its type and class
unfoldable pub visited_question : KeptQuestion → List Visited
visited_question q = Question q ∷ NameOrRdata q.name ∷ ClassType (q.rtype, q.rclass) ∷ []

-- a list of questions, which is absent where it is empty: itself, and then each of its questions
unfoldable pub visited_questions : List KeptQuestion → List Visited
visited_questions [] = []
visited_questions (q ∷ qs) = QuestionList (q ∷ qs) ∷ flat_map visited_question (q ∷ qs)

-- a resource record: itself, its name, its type and class, and its RDATA
unfoldable pub visited_record : KeptRr → List Visited
visited_record r =
    Record r ∷ NameOrRdata r.name ∷ ClassType (r.rtype, r.rclass) ∷ where_present visited_bytes r.rdata

-- a list of resource records, which is absent where it is empty: itself, and then each of its records
unfoldable pub visited_records : List KeptRr → List Visited
visited_records [] = []
visited_records (r ∷ rs) = RecordList (r ∷ rs) ∷ flat_map visited_record (r ∷ rs)

-- the extended part of a query or a response: its questions, answers, authority records and additional records
unfoldable pub visited_lists : KeptLists → List Visited
visited_lists l =
    visited_questions l.question
    ++ visited_records l.answer
    ++ visited_records l.authority
    ++ visited_records l.additional

-- an item: its client's address, its signature, its query's name, and the extended parts of its query and its response
unfoldable pub visited_item : KeptItem → List Visited
visited_item i =
    where_present visited_address i.client_address
    ++ where_present visited_signature i.signature
    ++ where_present visited_bytes i.query_name
    ++ visited_lists i.query_extended
    ++ visited_lists i.response_extended

-- the data of a malformed message: itself, and its server's address
unfoldable pub visited_data : KeptData → List Visited
visited_data d = MalformedData d ∷ where_present visited_address d.server_address

-- a malformed message: its client's address, and its data
unfoldable pub visited_malformed : KeptMalformed → List Visited
visited_malformed m = where_present visited_address m.client_address ++ where_present visited_data m.message_data

-- a block: its items, and then its malformed messages
unfoldable pub visited : KeptBlock → List Visited
visited b = flat_map visited_item b.items ++ flat_map visited_malformed b.malformed

-- an address, if the value is one
abbrev pub as_address : Visited → Option (List ℕ)
as_address (Address bytes) = Some bytes
as_address _ = None

-- a type and a class, if the value is one
abbrev pub as_classtype : Visited → Option (ℕ × ℕ)
as_classtype (ClassType c) = Some c
as_classtype _ = None

-- a name or RDATA, if the value is one
abbrev pub as_bytes : Visited → Option (List ℕ)
as_bytes (NameOrRdata bytes) = Some bytes
as_bytes _ = None

-- a signature, if the value is one
abbrev pub as_signature : Visited → Option KeptSig
as_signature (Signature s) = Some s
as_signature _ = None

-- a list of questions, if the value is one
abbrev pub as_question_list : Visited → Option (List KeptQuestion)
as_question_list (QuestionList qs) = Some qs
as_question_list _ = None

-- a question, if the value is one
abbrev pub as_question : Visited → Option KeptQuestion
as_question (Question q) = Some q
as_question _ = None

-- a list of resource records, if the value is one
abbrev pub as_record_list : Visited → Option (List KeptRr)
as_record_list (RecordList rs) = Some rs
as_record_list _ = None

-- a resource record, if the value is one
abbrev pub as_record : Visited → Option KeptRr
as_record (Record r) = Some r
as_record _ = None

-- the data of a malformed message, if the value is that
abbrev pub as_data : Visited → Option KeptData
as_data (MalformedData d) = Some d
as_data _ = None

-- the values of one kind, in order and with repeats
abbrev pub used : {T : Type 0} → (Visited → Option T) → List Visited → List T
used kind values = filter_map kind values
