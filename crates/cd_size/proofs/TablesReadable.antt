-- The tables of values are read back, where each value is.
use Rattle.std.proofs.Common.{◌≡◌, ℕ, ◌+◌, ◌<◌, ◌≤◌, ◌^◌, Bool, List, [], ◌∷◌, length, map, Option, Some, None, refl, arith}
use Rattle.std.specs.Prelude.{IfSome, not, position, unwrap_or}
use Rattle.std.specs.List.{AllByRecursion, cons_option}
use Rattle.std.specs.Option.{option_map}
use Rattle.std.proofs.lemmas.List.Quantifiers.{position-Some}
use Rattle.cd_block.specs.declared.kept.KeptBlock.{KeptBlock}
use Rattle.cd_block.specs.Equality.{same_bytes, same_classtype, same_question, same_questions, same_record, same_records, same_signature, same_data}
use Rattle.cd_block.specs.Traversal.{Visited, Address, ClassType, NameOrRdata, Signature, QuestionList, Question, RecordList, Record, MalformedData, used, as_address, as_classtype, as_bytes, as_signature, as_question_list, as_question, as_record_list, as_record, as_data}
use Rattle.cd_block.specs.Tables.{KeptTables, table_of, index_in, tables_of, question_index, record_index, indexed_signature, indexed_question, indexed_record, indexed_data, indexed_in}
use Rattle.cd_file.specs.Ranges.{ClasstypeInRange}
use Rattle.cd_file.specs.Readable.{ReadableSignature, ReadableQuestion, ReadableRr, ReadableData, ReadableNumbers, ReadableTables}
use Rattle.cd_size.proofs.Fits.{all_filter}
use Rattle.cd_size.proofs.Lists.{length_filter_few}

-- a value that is read back from its table, with the indexes that its parts have in some tables
abbrev pub IsReadable : KeptTables → Visited → Type 0
IsReadable t (Address content) = length content ≤ 16
IsReadable t (ClassType c) = ClasstypeInRange c
IsReadable t (NameOrRdata content) = Unit {0}
IsReadable t (Signature s) = ReadableSignature (indexed_signature t s)
IsReadable t (QuestionList qs) = ReadableNumbers (map (question_index t) qs)
IsReadable t (Question q) = ReadableQuestion (indexed_question t q)
IsReadable t (RecordList rs) = ReadableNumbers (map (record_index t) rs)
IsReadable t (Record r) = ReadableRr (indexed_record t r)
IsReadable t (MalformedData d) = ReadableData (indexed_data t d)

-- a value before others, where it is there
there_or_others : {T : Type 0} (Q : T → Type 0) (o : Option T) (others : List T) → IfSome o Q → AllByRecursion Q others →
    AllByRecursion Q (cons_option o others)
there_or_others Q None others here all = all
there_or_others Q (Some x) others here all = (here, all)

-- what holds of each value of a kind holds of those of the kind that are used
used_all : {T : Type 0} (P : Visited → Type 0) (Q : T → Type 0) (kind : Visited → Option T) →
    ((v : Visited) → P v → IfSome (kind v) Q) → (values : List Visited) → AllByRecursion P values →
    AllByRecursion Q (used kind values)
used_all P Q kind turn [] all = tt
used_all P Q kind turn (v ∷ values) all =
    there_or_others Q (kind v) (used kind values) (turn v all.0) (used_all P Q kind turn values all.1)

-- so it does of those in their table
table_all : {T : Type 0} (Q : T → Type 0) (same : T → T → Bool) (vs : List T) → AllByRecursion Q vs →
    AllByRecursion Q (table_of same vs)
table_all Q same [] all = tt
table_all Q same (v ∷ vs) all =
    (all.0, all_filter Q (λ w. not (same v w)) (table_of same vs) (table_all Q same vs all.1))

-- what holds of each value that is made of another
pub map_all : {X Y : Type 0} (P : X → Type 0) (Q : Y → Type 0) (f : X → Y) → ((x : X) → P x → Q (f x)) → (xs : List X) →
    AllByRecursion P xs → AllByRecursion Q (map f xs)
map_all P Q f turn [] all = tt
map_all P Q f turn (x ∷ xs) all = (turn x all.0, map_all P Q f turn xs all.1)

module _ (t : KeptTables) where
  address_of : (v : Visited) → IsReadable t v → IfSome (as_address v) (λ content. length content ≤ 16)
  address_of (Address content) h = h
  address_of _ h = tt

  classtype_of : (v : Visited) → IsReadable t v → IfSome (as_classtype v) ClasstypeInRange
  classtype_of (ClassType c) h = h
  classtype_of _ h = tt

  signature_of : (v : Visited) → IsReadable t v → IfSome (as_signature v) (λ s. ReadableSignature (indexed_signature t s))
  signature_of (Signature s) h = h
  signature_of _ h = tt

  question_list_of : (v : Visited) → IsReadable t v → IfSome (as_question_list v) (λ qs. ReadableNumbers (map (question_index t) qs))
  question_list_of (QuestionList qs) h = h
  question_list_of _ h = tt

  question_of : (v : Visited) → IsReadable t v → IfSome (as_question v) (λ q. ReadableQuestion (indexed_question t q))
  question_of (Question q) h = h
  question_of _ h = tt

  record_list_of : (v : Visited) → IsReadable t v → IfSome (as_record_list v) (λ rs. ReadableNumbers (map (record_index t) rs))
  record_list_of (RecordList rs) h = h
  record_list_of _ h = tt

  record_of : (v : Visited) → IsReadable t v → IfSome (as_record v) (λ r. ReadableRr (indexed_record t r))
  record_of (Record r) h = h
  record_of _ h = tt

  data_of : (v : Visited) → IsReadable t v → IfSome (as_data v) (λ d. ReadableData (indexed_data t d))
  data_of (MalformedData d) h = h
  data_of _ h = tt

-- the tables of values that are read back
pub tables_readable : (values : List Visited) (b : KeptBlock) → AllByRecursion (IsReadable (tables_of values)) values →
    ReadableTables (indexed_in (tables_of values) b)
unfolding indexed_in
tables_readable values b all =
    let t : KeptTables = tables_of values in
    record {
      ip_address = table_all _ same_bytes _ (used_all (IsReadable t) _ as_address (address_of t) values all);
      classtype = table_all _ same_classtype _ (used_all (IsReadable t) _ as_classtype (classtype_of t) values all);
      qr_sig = map_all _ ReadableSignature (indexed_signature t) (λ x h. h) t.qr_sig
          (table_all _ same_signature _ (used_all (IsReadable t) _ as_signature (signature_of t) values all));
      qlist = map_all _ ReadableNumbers (map (question_index t)) (λ x h. h) t.qlist
          (table_all _ same_questions _ (used_all (IsReadable t) _ as_question_list (question_list_of t) values all));
      qrr = map_all _ ReadableQuestion (indexed_question t) (λ x h. h) t.qrr
          (table_all _ same_question _ (used_all (IsReadable t) _ as_question (question_of t) values all));
      rrlist = map_all _ ReadableNumbers (map (record_index t)) (λ x h. h) t.rrlist
          (table_all _ same_records _ (used_all (IsReadable t) _ as_record_list (record_list_of t) values all));
      rr = map_all _ ReadableRr (indexed_record t) (λ x h. h) t.rr
          (table_all _ same_record _ (used_all (IsReadable t) _ as_record (record_of t) values all));
      malformed_message_data = map_all _ ReadableData (indexed_data t) (λ x h. h) t.malformed_message_data
          (table_all _ same_data _ (used_all (IsReadable t) _ as_data (data_of t) values all));
    }

-- tables of few values
pub record AreFew (t : KeptTables) : Type 0 where
  pub ip_address : length t.ip_address < 2 ^ 64
  pub classtype : length t.classtype < 2 ^ 64
  pub name_rdata : length t.name_rdata < 2 ^ 64
  pub qr_sig : length t.qr_sig < 2 ^ 64
  pub qlist : length t.qlist < 2 ^ 64
  pub qrr : length t.qrr < 2 ^ 64
  pub rrlist : length t.rrlist < 2 ^ 64
  pub rr : length t.rr < 2 ^ 64
  pub malformed_message_data : length t.malformed_message_data < 2 ^ 64

-- no table has more values than are gone through
table_few : {T : Type 0} (same : T → T → Bool) (vs : List T) → length (table_of same vs) ≤ length vs
table_few same [] = omega arith
table_few same (v ∷ vs) = omega (arith, length_filter_few (λ w. not (same v w)) (table_of same vs), table_few same vs)

others_few : {T : Type 0} (o : Option T) (others : List T) → length (cons_option o others) ≤ 1 + length others
others_few None others = omega arith
others_few (Some x) others = omega arith

used_few : {T : Type 0} (kind : Visited → Option T) (values : List Visited) → length (used kind values) ≤ length values
used_few kind [] = omega arith
used_few kind (v ∷ values) = omega (arith, others_few (kind v) (used kind values), used_few kind values)

few_in_table : {T : Type 0} (same : T → T → Bool) (kind : Visited → Option T) (values : List Visited) → length values < 2 ^ 64 →
    length (table_of same (used kind values)) < 2 ^ 64
few_in_table same kind values few = omega (arith, few, table_few same (used kind values), used_few kind values)

pub tables_few : (values : List Visited) → length values < 2 ^ 64 → AreFew (tables_of values)
tables_few values few = record {
  ip_address = few_in_table same_bytes as_address values few;
  classtype = few_in_table same_classtype as_classtype values few;
  name_rdata = few_in_table same_bytes as_bytes values few;
  qr_sig = few_in_table same_signature as_signature values few;
  qlist = few_in_table same_questions as_question_list values few;
  qrr = few_in_table same_question as_question values few;
  rrlist = few_in_table same_records as_record_list values few;
  rr = few_in_table same_record as_record values few;
  malformed_message_data = few_in_table same_data as_data values few;
}

-- an index is at most the length of its table
position_within : {T : Type 0} (p : T → Bool) (table : List T) (d : T) (o : Option ℕ) → position p table ≡ o →
    unwrap_or o (length table) ≤ length table
position_within p table d None e = omega arith
position_within p table d (Some i) e = let least = position-Some p table i d e in omega (arith, least.0)

pub index_within : {T : Type 0} (same : T → T → Bool) (table : List T) (v : T) → index_in same table v ≤ length table
index_within same table v = position_within (same v) table v (position (same v) table) refl

-- so it has 64 bits
pub index_small : {T : Type 0} (same : T → T → Bool) (table : List T) (v : T) → length table < 2 ^ 64 → index_in same table v < 2 ^ 64
index_small same table v few = omega (arith, few, index_within same table v)

pub indexes_small : {T : Type 0} (same : T → T → Bool) (table : List T) → length table < 2 ^ 64 → (vs : List T) →
    AllByRecursion (λ n. n < 2 ^ 64) (map (index_in same table) vs)
indexes_small same table few [] = tt
indexes_small same table few (v ∷ vs) = (index_small same table v few, indexes_small same table few vs)

pub where_indexed : {T : Type 0} (same : T → T → Bool) (table : List T) → length table < 2 ^ 64 → (o : Option T) →
    IfSome (option_map (index_in same table) o) (λ n. n < 2 ^ 64)
where_indexed same table few None = tt
where_indexed same table few (Some v) = index_small same table v few
