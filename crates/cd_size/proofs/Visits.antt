-- The values of the nine kinds together are the values that are gone through.
use Rattle.std.proofs.Common.{◌≡◌, ℕ, ◌+◌, ◌≤◌, List, [], ◌∷◌, map, refl, arith}
use Rattle.cd_cbor.specs.Items.{bytes}
use Rattle.cd_file.specs.Maps.{numbers}
use Rattle.cd_file.specs.Tables.{classtype_item, signature_item, question_item, rr_item, malformed_data_item}
use Rattle.cd_block.specs.Equality.{same_bytes, same_classtype, same_question, same_questions, same_record, same_records, same_signature, same_data}
use Rattle.cd_block.specs.Traversal.{Visited, Address, ClassType, NameOrRdata, Signature, QuestionList, Question, RecordList, Record, MalformedData, used, as_address, as_classtype, as_bytes, as_signature, as_question_list, as_question, as_record_list, as_record, as_data}
use Rattle.cd_block.specs.Tables.{KeptTables, tables_of, question_index, record_index, indexed_signature, indexed_question, indexed_record, indexed_data}
use Rattle.cd_size.specs.Costs.{size, value_size}
use Rattle.cd_size.proofs.Totals.{total, total_table}

-- the bytes of the values of nine tables, whose parts have the indexes of other tables
abbrev pub tables_size : KeptTables → KeptTables → ℕ
tables_size t held =
    total (λ content. size (bytes content)) held.ip_address
    + (total (λ c. size (classtype_item c)) held.classtype
    + (total (λ content. size (bytes content)) held.name_rdata
    + (total (λ s. size (signature_item (indexed_signature t s))) held.qr_sig
    + (total (λ qs. size (numbers (map (question_index t) qs))) held.qlist
    + (total (λ q. size (question_item (indexed_question t q))) held.qrr
    + (total (λ rs. size (numbers (map (record_index t) rs))) held.rrlist
    + (total (λ r. size (rr_item (indexed_record t r))) held.rr
    + total (λ d. size (malformed_data_item (indexed_data t d))) held.malformed_message_data)))))))

-- the values of each kind, with repeats, as tables
abbrev pub all_used : List Visited → KeptTables
all_used values = record {
  ip_address = used as_address values;
  classtype = used as_classtype values;
  name_rdata = used as_bytes values;
  qr_sig = used as_signature values;
  qlist = used as_question_list values;
  qrr = used as_question values;
  rrlist = used as_record_list values;
  rr = used as_record values;
  malformed_message_data = used as_data values;
}

-- each value is of one kind
kinds_together : (t : KeptTables) (values : List Visited) →
    tables_size t (all_used values) ≡ total (value_size t) values
kinds_together t [] = refl
kinds_together t (Address x ∷ values) = omega (arith, kinds_together t values)
kinds_together t (ClassType x ∷ values) = omega (arith, kinds_together t values)
kinds_together t (NameOrRdata x ∷ values) = omega (arith, kinds_together t values)
kinds_together t (Signature x ∷ values) = omega (arith, kinds_together t values)
kinds_together t (QuestionList x ∷ values) = omega (arith, kinds_together t values)
kinds_together t (Question x ∷ values) = omega (arith, kinds_together t values)
kinds_together t (RecordList x ∷ values) = omega (arith, kinds_together t values)
kinds_together t (Record x ∷ values) = omega (arith, kinds_together t values)
kinds_together t (MalformedData x ∷ values) = omega (arith, kinds_together t values)

-- a table has at most the values that are used
pub tables_within : (t : KeptTables) (values : List Visited) →
    tables_size t (tables_of values) ≤ total (value_size t) values
tables_within t values =
    omega (
      arith,
      kinds_together t values,
      total_table (λ content. size (bytes content)) same_bytes (used as_address values),
      total_table (λ c. size (classtype_item c)) same_classtype (used as_classtype values),
      total_table (λ content. size (bytes content)) same_bytes (used as_bytes values),
      total_table (λ s. size (signature_item (indexed_signature t s))) same_signature (used as_signature values),
      total_table (λ qs. size (numbers (map (question_index t) qs))) same_questions (used as_question_list values),
      total_table (λ q. size (question_item (indexed_question t q))) same_question (used as_question values),
      total_table (λ rs. size (numbers (map (record_index t) rs))) same_records (used as_record_list values),
      total_table (λ r. size (rr_item (indexed_record t r))) same_record (used as_record values),
      total_table (λ d. size (malformed_data_item (indexed_data t d))) same_data (used as_data values),
    )
