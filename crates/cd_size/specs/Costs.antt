-- What the items of a kept block cost: the bytes of each item, and of each value that it uses, once for each use.
use Rattle.std.specs.Prelude.{ℕ, ◌+◌, length, map}
use Rattle.std.specs.List.{sum_by}
use Rattle.cd_cbor.specs.declared.item.Item.{Item}
use Rattle.cd_cbor.specs.Items.{bytes}
use Rattle.cd_cbor.specs.Spelling.{spelling}
use Rattle.cd_file.specs.Maps.{numbers}
use Rattle.cd_file.specs.Tables.{classtype_item, signature_item, question_item, rr_item, malformed_data_item}
use Rattle.cd_file.specs.Blocks.{query_response_item, malformed_item}
use Rattle.cd_block.specs.declared.kept.KeptItem.{KeptItem}
use Rattle.cd_block.specs.declared.kept.KeptMalformed.{KeptMalformed}
use Rattle.cd_block.specs.Traversal.{Visited, Address, ClassType, NameOrRdata, Signature, QuestionList, Question, RecordList, Record, MalformedData, visited_item, visited_malformed}
use Rattle.cd_block.specs.Tables.{KeptTables, question_index, record_index, indexed_signature, indexed_question, indexed_record, indexed_data, indexed_item, indexed_malformed}

-- the bytes of an item
abbrev pub size : Item → ℕ
size item = length (spelling item)

-- the bytes of a value in its table, with the indexes that its parts have in some tables
abbrev pub value_size : KeptTables → Visited → ℕ
value_size t (Address content) = size (bytes content)
value_size t (ClassType c) = size (classtype_item c)
value_size t (NameOrRdata content) = size (bytes content)
value_size t (Signature s) = size (signature_item (indexed_signature t s))
value_size t (QuestionList qs) = size (numbers (map (question_index t) qs))
value_size t (Question q) = size (question_item (indexed_question t q))
value_size t (RecordList rs) = size (numbers (map (record_index t) rs))
value_size t (Record r) = size (rr_item (indexed_record t r))
value_size t (MalformedData d) = size (malformed_data_item (indexed_data t d))

-- the cost of an item
abbrev pub item_cost : KeptTables → KeptItem → ℕ
item_cost t i = size (query_response_item (indexed_item t i)) + sum_by (value_size t) (visited_item i)

-- the cost of a malformed message
abbrev pub malformed_cost : KeptTables → KeptMalformed → ℕ
malformed_cost t m = size (malformed_item (indexed_malformed t m)) + sum_by (value_size t) (visited_malformed m)
