-- In a block that has the tables of some values, the lists of an extended part and the parts of an item resolve to themselves.
use Rattle.std.proofs.Common.{◌≡◌, ℕ, List, [], ◌∷◌, ◌++◌, map, Option, Some, None, Ok, refl, inl, inr}
use Rattle.std.specs.Prelude.{IfSome}
use Rattle.std.specs.Option.{option_map}
use Rattle.cd_name.specs.Names.{IsName}
use Rattle.cd_block.specs.declared.keys.TheConstants as key
use Rattle.cd_block.specs.declared.kept.KeptQuestion.{KeptQuestion}
use Rattle.cd_block.specs.declared.kept.KeptRr.{KeptRr}
use Rattle.cd_block.specs.declared.kept.KeptLists.{KeptLists}
use Rattle.cd_block.specs.declared.kept.KeptSig.{KeptSig}
use Rattle.cd_block.specs.declared.kept.KeptData.{KeptData}
use Rattle.cd_block.specs.declared.kept.KeptItem.{KeptItem}
use Rattle.cd_block.specs.declared.kept.KeptMalformed.{KeptMalformed}
use Rattle.cd_block.specs.declared.block.Block.{Block}
use Rattle.cd_block.specs.Equality.{same_questions, same_records}
use Rattle.cd_block.specs.Traversal.{Visited, NameOrRdata, QuestionList, RecordList, used, as_question_list, as_record_list, where_present, visited_address, visited_bytes, visited_signature, visited_question, visited_questions, visited_record, visited_records, visited_lists, visited_data, visited_item, visited_malformed}
use Rattle.cd_block.specs.Tables.{index_in, KeptTables, tables_of, bytes_index, signature_index, question_index, record_index, data_index, question_list_index, record_list_index, indexed_lists, indexed_item, indexed_malformed}
use Rattle.cd_block.specs.Resolving.{if_present, each, entry, resolved_name, resolved_signature, resolved_question, resolved_questions, resolved_record, resolved_records, resolved_lists, resolved_data, resolved_item, resolved_malformed}
use Rattle.cd_block.specs.Naming.{QuestionsNamed, RecordsNamed, ListsNamed, ItemNamed}
use Rattle.cd_block.proofs.KeptEquality.{questions_decides, records_decides}
use Rattle.cd_block.proofs.Among.{all_among, among_first, among_second, among_each, among_kind, found_image}
use Rattle.cd_block.proofs.IndexingTables.{Covers, HasTables, entry_is, each_resolves, name_resolves, addresses_resolve, signature_resolves, question_resolves, record_resolves, data_resolves}

module _ (values : List Visited) (b : Block) (has : HasTables values b) where
  abbrev t : KeptTables
  t = tables_of values

  questions_resolve : (qs : List KeptQuestion) → QuestionsNamed qs → Covers values (visited_questions qs) → resolved_questions b (question_list_index t qs) ≡ Ok qs
  unfolding resolved_questions visited_questions
  questions_resolve [] named covers = refl
  questions_resolve (q ∷ qs) named covers =
      let all : List KeptQuestion = q ∷ qs in
      let index : ℕ = index_in same_questions t.qlist all in
      let at : entry key.TABLES_QLIST b.qlist index ≡ Ok (map (question_index t) all) =
      entry_is key.TABLES_QLIST b.qlist (map (map (question_index t)) t.qlist) index (map (question_index t) all) has.question_lists
      (found_image same_questions questions_decides (map (question_index t)) (used as_question_list values) all
      (among_kind as_question_list values (QuestionList all) all refl (covers (QuestionList all) (inl refl)))) in
      let parts : each (resolved_question b) (map (question_index t) all) ≡ Ok all =
      each_resolves (resolved_question b) (question_index t) all
      (λ x m. question_resolves values b has x (all_among (λ y. IsName y.name) all x named m) (λ v n. covers v (inr (among_each visited_question all x v m n)))) in
      rw at parts

  records_resolve : (rs : List KeptRr) → RecordsNamed rs → Covers values (visited_records rs) → resolved_records b (record_list_index t rs) ≡ Ok rs
  unfolding resolved_records visited_records
  records_resolve [] named covers = refl
  records_resolve (r ∷ rs) named covers =
      let all : List KeptRr = r ∷ rs in
      let index : ℕ = index_in same_records t.rrlist all in
      let at : entry key.TABLES_RRLIST b.rrlist index ≡ Ok (map (record_index t) all) =
      entry_is key.TABLES_RRLIST b.rrlist (map (map (record_index t)) t.rrlist) index (map (record_index t) all) has.record_lists
      (found_image same_records records_decides (map (record_index t)) (used as_record_list values) all
      (among_kind as_record_list values (RecordList all) all refl (covers (RecordList all) (inl refl)))) in
      let parts : each (resolved_record b) (map (record_index t) all) ≡ Ok all =
      each_resolves (resolved_record b) (record_index t) all
      (λ x m. record_resolves values b has x (all_among (λ y. IsName y.name) all x named m) (λ v n. covers v (inr (among_each visited_record all x v m n)))) in
      rw at parts

  lists_resolve : (l : KeptLists) → ListsNamed l → Covers values (visited_lists l) → resolved_lists b (indexed_lists t l) ≡ Ok l
  unfolding resolved_lists indexed_lists visited_lists
  lists_resolve l named covers =
      let q = visited_questions l.question in
      let a = visited_records l.answer in
      let u = visited_records l.authority in
      let d = visited_records l.additional in
      let question = questions_resolve l.question named.questions (λ v m. covers v (among_first v ((q ++ a) ++ u) d (among_first v (q ++ a) u (among_first v q a m)))) in
      let answer = records_resolve l.answer named.answers (λ v m. covers v (among_first v ((q ++ a) ++ u) d (among_first v (q ++ a) u (among_second v q a m)))) in
      let authority = records_resolve l.authority named.authorities (λ v m. covers v (among_first v ((q ++ a) ++ u) d (among_second v (q ++ a) u m))) in
      let additional = records_resolve l.additional named.additionals (λ v m. covers v (among_second v ((q ++ a) ++ u) d m)) in
      rw (question, answer, authority, additional) refl

  -- a signature that may be absent
  signatures_resolve : (o : Option KeptSig) → Covers values (where_present visited_signature o) → if_present (resolved_signature b) (option_map (signature_index t) o) ≡ Ok o
  signatures_resolve None covers = refl
  signatures_resolve (Some s) covers = rw (signature_resolves values b has s covers) refl

  -- a name that may be absent
  names_resolve : (o : Option (List ℕ)) → IfSome o IsName → Covers values (where_present visited_bytes o) → if_present (resolved_name b) (option_map (bytes_index t) o) ≡ Ok o
  names_resolve None named covers = refl
  names_resolve (Some n) named covers = rw (name_resolves values b has n named (covers (NameOrRdata n) (inl refl))) refl

  -- data that may be absent
  messages_resolve : (o : Option KeptData) → Covers values (where_present visited_data o) → if_present (resolved_data b) (option_map (data_index t) o) ≡ Ok o
  messages_resolve None covers = refl
  messages_resolve (Some d) covers = rw (data_resolves values b has d covers) refl

  pub item_resolves : (i : KeptItem) → ItemNamed i → Covers values (visited_item i) → resolved_item b (indexed_item t i) ≡ Ok i
  unfolding resolved_item indexed_item visited_item
  item_resolves i named covers =
      let a = where_present visited_address i.client_address in
      let s = where_present visited_signature i.signature in
      let n = where_present visited_bytes i.query_name in
      let q = visited_lists i.query_extended in
      let r = visited_lists i.response_extended in
      let front : Covers values ((a ++ s) ++ n) = λ v m. covers v (among_first v (((a ++ s) ++ n) ++ q) r (among_first v ((a ++ s) ++ n) q m)) in
      let address = addresses_resolve values b has i.client_address (λ v m. front v (among_first v (a ++ s) n (among_first v a s m))) in
      let signature = signatures_resolve i.signature (λ v m. front v (among_first v (a ++ s) n (among_second v a s m))) in
      let name = names_resolve i.query_name named.lead (λ v m. front v (among_second v (a ++ s) n m)) in
      let query = lists_resolve i.query_extended named.query (λ v m. covers v (among_first v (((a ++ s) ++ n) ++ q) r (among_second v ((a ++ s) ++ n) q m))) in
      let response = lists_resolve i.response_extended named.response (λ v m. covers v (among_second v (((a ++ s) ++ n) ++ q) r m)) in
      rw (address, signature, name, query, response) refl

  pub malformed_resolves : (m : KeptMalformed) → Covers values (visited_malformed m) → resolved_malformed b (indexed_malformed t m) ≡ Ok m
  unfolding resolved_malformed indexed_malformed visited_malformed
  malformed_resolves m covers =
      let a = where_present visited_address m.client_address in
      let d = where_present visited_data m.message_data in
      let address = addresses_resolve values b has m.client_address (λ v n. covers v (among_first v a d n)) in
      let message = messages_resolve m.message_data (λ v n. covers v (among_second v a d n)) in
      rw (address, message) refl
