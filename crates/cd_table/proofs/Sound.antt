-- The parts of each value that is gone through are gone through too.
use Rattle.std.proofs.Common.{ℕ, List, [], ◌∷◌, ◌++◌, Option, Some, None}
use Rattle.std.specs.List.{flat_map, cons_option, AllByRecursion}
use Rattle.cd_block.specs.declared.kept.KeptQuestion.{KeptQuestion}
use Rattle.cd_block.specs.declared.kept.KeptRr.{KeptRr}
use Rattle.cd_block.specs.declared.kept.KeptLists.{KeptLists}
use Rattle.cd_block.specs.declared.kept.KeptSig.{KeptSig}
use Rattle.cd_block.specs.declared.kept.KeptItem.{KeptItem}
use Rattle.cd_block.specs.declared.kept.KeptData.{KeptData}
use Rattle.cd_block.specs.declared.kept.KeptMalformed.{KeptMalformed}
use Rattle.cd_block.specs.declared.kept.KeptBlock.{KeptBlock}
use Rattle.cd_block.specs.Traversal.{Visited, Address, ClassType, NameOrRdata, Signature, QuestionList, Question, RecordList, Record, MalformedData, used, where_present, visited_address, visited_classtype, visited_bytes, visited_signature, visited_question, visited_questions, visited_record, visited_records, visited_lists, visited_item, visited_data, visited_malformed, visited, as_signature, as_question_list, as_question, as_record_list, as_record, as_data}
use Rattle.cd_block.specs.Equality.{same_questions, same_records, same_signature, same_data}
use Rattle.cd_block.specs.Tables.{KeptTables}
use Rattle.cd_table.proofs.Parts.{Has, Present, HasAddress, HasClasstype, HasBytes, HasQuestion, HasRecord, SignatureParts, QuestionParts, RecordParts, DataParts, QuestionsParts, RecordsParts}

-- what holds of each value of a list holds of each of its front
pub all_left : {A : Type 0} (P : A → Type 0) (xs ys : List A) → AllByRecursion P (xs ++ ys) → AllByRecursion P xs
all_left P [] ys h = tt
all_left P (x ∷ xs) ys h = (h.0, all_left P xs ys h.1)

-- and of each of its rest
pub all_right : {A : Type 0} (P : A → Type 0) (xs ys : List A) → AllByRecursion P (xs ++ ys) → AllByRecursion P ys
all_right P [] ys h = h
all_right P (x ∷ xs) ys h = all_right P xs ys h.1

-- what holds of each of two lists holds of each of both
pub all_both : {A : Type 0} (P : A → Type 0) (xs ys : List A) → AllByRecursion P xs → AllByRecursion P ys → AllByRecursion P (xs ++ ys)
all_both P [] ys h k = k
all_both P (x ∷ xs) ys h k = (h.0, all_both P xs ys h.1 k)

module _ (F : KeptTables) where
  -- a value that is gone through stands in the table of its kind
  abbrev pub Covered : Visited → Type 0
  Covered (Address a) = HasAddress F a
  Covered (ClassType c) = HasClasstype F c
  Covered (NameOrRdata b) = HasBytes F b
  Covered (Signature s) = Has same_signature F.qr_sig s
  Covered (QuestionList qs) = Has same_questions F.qlist qs
  Covered (Question q) = HasQuestion F q
  Covered (RecordList rs) = Has same_records F.rrlist rs
  Covered (Record r) = HasRecord F r
  Covered (MalformedData d) = Has same_data F.malformed_message_data d

  -- the parts of a value stand in the tables
  abbrev pub Sound : Visited → Type 0
  Sound (Address a) = Unit {0}
  Sound (ClassType c) = Unit {0}
  Sound (NameOrRdata b) = Unit {0}
  Sound (Signature s) = SignatureParts F s
  Sound (QuestionList qs) = QuestionsParts F qs
  Sound (Question q) = QuestionParts F q
  Sound (RecordList rs) = RecordsParts F rs
  Sound (Record r) = RecordParts F r
  Sound (MalformedData d) = DataParts F d

  abbrev pub AllCovered : List Visited → Type 0
  AllCovered vs = AllByRecursion Covered vs

  abbrev pub AllSound : List Visited → Type 0
  AllSound vs = AllByRecursion Sound vs

  -- where each value that is gone through is covered, so is the value itself
  present_has : {T : Type 0} (P : T → Type 0) (visit : T → List Visited) → ((x : T) → AllCovered (visit x) → P x) → (o : Option T) → AllCovered (where_present visit o) → Present P o
  present_has P visit has None h = tt
  present_has P visit has (Some x) h = has x h

  present_sound : {T : Type 0} (visit : T → List Visited) → ((x : T) → AllCovered (visit x) → AllSound (visit x)) → (o : Option T) → AllCovered (where_present visit o) → AllSound (where_present visit o)
  present_sound visit sound None h = tt
  present_sound visit sound (Some x) h = sound x h

  each_sound : {T : Type 0} (visit : T → List Visited) → ((x : T) → AllCovered (visit x) → AllSound (visit x)) → (xs : List T) → AllCovered (flat_map visit xs) → AllSound (flat_map visit xs)
  each_sound visit sound [] h = tt
  each_sound visit sound (x ∷ xs) h =
      all_both Sound (visit x) (flat_map visit xs) (sound x (all_left Covered (visit x) (flat_map visit xs) h))
      (each_sound visit sound xs (all_right Covered (visit x) (flat_map visit xs) h))

  -- the parts of a signature that is gone through
  pub signature_parts : (s : KeptSig) → AllCovered (visited_signature s) → SignatureParts F s
  unfolding visited_signature
  signature_parts s h =
      let address : List Visited = where_present visited_address s.server_address in
      let lead : List Visited = where_present visited_classtype s.classtype in
      let options : List Visited = where_present visited_bytes s.opt_rdata in
      let front = all_left Covered (Signature s ∷ address ++ lead) options h in
      let first = all_left Covered (Signature s ∷ address) lead front in
      record {
        server_address = present_has (HasAddress F) visited_address (λ x k. k.0) s.server_address first.1;
        classtype = present_has (HasClasstype F) visited_classtype (λ x k. k.0) s.classtype (all_right Covered (Signature s ∷ address) lead front);
        opt_rdata = present_has (HasBytes F) visited_bytes (λ x k. k.0) s.opt_rdata (all_right Covered (Signature s ∷ address ++ lead) options h);
      }

  address_sound : (a : List ℕ) → AllCovered (visited_address a) → AllSound (visited_address a)
  address_sound a h = (tt, tt)

  classtype_sound : (c : ℕ × ℕ) → AllCovered (visited_classtype c) → AllSound (visited_classtype c)
  classtype_sound c h = (tt, tt)

  bytes_sound : (b : List ℕ) → AllCovered (visited_bytes b) → AllSound (visited_bytes b)
  bytes_sound b h = (tt, tt)

  signature_sound : (s : KeptSig) → AllCovered (visited_signature s) → AllSound (visited_signature s)
  unfolding visited_signature
  signature_sound s h =
      let address : List Visited = where_present visited_address s.server_address in
      let lead : List Visited = where_present visited_classtype s.classtype in
      let options : List Visited = where_present visited_bytes s.opt_rdata in
      let front = all_left Covered (Signature s ∷ address ++ lead) options h in
      let first = all_left Covered (Signature s ∷ address) lead front in
      all_both Sound (Signature s ∷ address ++ lead) options
      (all_both Sound (Signature s ∷ address) lead
      (signature_parts s h, present_sound visited_address address_sound s.server_address first.1)
      (present_sound visited_classtype classtype_sound s.classtype (all_right Covered (Signature s ∷ address) lead front)))
      (present_sound visited_bytes bytes_sound s.opt_rdata (all_right Covered (Signature s ∷ address ++ lead) options h))

  -- the parts of a question that is gone through
  pub question_parts : (q : KeptQuestion) → AllCovered (visited_question q) → QuestionParts F q
  unfolding visited_question
  question_parts q h = record { name = h.1.0; classtype = h.1.1.0 }

  question_sound : (q : KeptQuestion) → AllCovered (visited_question q) → AllSound (visited_question q)
  unfolding visited_question
  question_sound q h = (question_parts q h, (tt, (tt, tt)))

  question_there : (q : KeptQuestion) → AllCovered (visited_question q) → HasQuestion F q
  unfolding visited_question
  question_there q h = h.0

  -- the questions of a list that is gone through
  pub questions_parts : (qs : List KeptQuestion) → AllCovered (flat_map visited_question qs) → QuestionsParts F qs
  questions_parts [] h = tt
  questions_parts (q ∷ qs) h = (
    question_there q (all_left Covered (visited_question q) (flat_map visited_question qs) h),
    questions_parts qs (all_right Covered (visited_question q) (flat_map visited_question qs) h),
  )

  questions_sound : (qs : List KeptQuestion) → AllCovered (visited_questions qs) → AllSound (visited_questions qs)
  unfolding visited_questions
  questions_sound [] h = tt
  questions_sound (q ∷ qs) h = (questions_parts (q ∷ qs) h.1, each_sound visited_question question_sound (q ∷ qs) h.1)

  -- the parts of a resource record that is gone through
  pub record_parts : (r : KeptRr) → AllCovered (visited_record r) → RecordParts F r
  unfolding visited_record
  record_parts r h = record {
    name = h.1.0;
    classtype = h.1.1.0;
    rdata = present_has (HasBytes F) visited_bytes (λ x k. k.0) r.rdata h.1.1.1;
  }

  record_sound : (r : KeptRr) → AllCovered (visited_record r) → AllSound (visited_record r)
  unfolding visited_record
  record_sound r h = (record_parts r h, (tt, (tt, present_sound visited_bytes bytes_sound r.rdata h.1.1.1)))

  record_there : (r : KeptRr) → AllCovered (visited_record r) → HasRecord F r
  unfolding visited_record
  record_there r h = h.0

  -- the records of a list that is gone through
  pub records_parts : (rs : List KeptRr) → AllCovered (flat_map visited_record rs) → RecordsParts F rs
  records_parts [] h = tt
  records_parts (r ∷ rs) h = (
    record_there r (all_left Covered (visited_record r) (flat_map visited_record rs) h),
    records_parts rs (all_right Covered (visited_record r) (flat_map visited_record rs) h),
  )

  records_sound : (rs : List KeptRr) → AllCovered (visited_records rs) → AllSound (visited_records rs)
  unfolding visited_records
  records_sound [] h = tt
  records_sound (r ∷ rs) h = (records_parts (r ∷ rs) h.1, each_sound visited_record record_sound (r ∷ rs) h.1)

  lists_sound : (l : KeptLists) → AllCovered (visited_lists l) → AllSound (visited_lists l)
  unfolding visited_lists
  lists_sound l h =
      let a : List Visited = visited_questions l.question in
      let b : List Visited = visited_records l.answer in
      let c : List Visited = visited_records l.authority in
      let d : List Visited = visited_records l.additional in
      let front = all_left Covered ((a ++ b) ++ c) d h in
      let first = all_left Covered (a ++ b) c front in
      all_both Sound ((a ++ b) ++ c) d
      (all_both Sound (a ++ b) c
      (all_both Sound a b (questions_sound l.question (all_left Covered a b first)) (records_sound l.answer (all_right Covered a b first)))
      (records_sound l.authority (all_right Covered (a ++ b) c front)))
      (records_sound l.additional (all_right Covered ((a ++ b) ++ c) d h))

  item_sound : (i : KeptItem) → AllCovered (visited_item i) → AllSound (visited_item i)
  unfolding visited_item
  item_sound i h =
      let a : List Visited = where_present visited_address i.client_address in
      let b : List Visited = where_present visited_signature i.signature in
      let c : List Visited = where_present visited_bytes i.query_name in
      let d : List Visited = visited_lists i.query_extended in
      let e : List Visited = visited_lists i.response_extended in
      let h4 = all_left Covered (((a ++ b) ++ c) ++ d) e h in
      let h3 = all_left Covered ((a ++ b) ++ c) d h4 in
      let h2 = all_left Covered (a ++ b) c h3 in
      all_both Sound (((a ++ b) ++ c) ++ d) e
      (all_both Sound ((a ++ b) ++ c) d
      (all_both Sound (a ++ b) c
      (all_both Sound a b
      (present_sound visited_address address_sound i.client_address (all_left Covered a b h2))
      (present_sound visited_signature signature_sound i.signature (all_right Covered a b h2)))
      (present_sound visited_bytes bytes_sound i.query_name (all_right Covered (a ++ b) c h3)))
      (lists_sound i.query_extended (all_right Covered ((a ++ b) ++ c) d h4)))
      (lists_sound i.response_extended (all_right Covered (((a ++ b) ++ c) ++ d) e h))

  -- the part of data that is gone through
  pub data_parts : (d : KeptData) → AllCovered (visited_data d) → DataParts F d
  unfolding visited_data
  data_parts d h = record { server_address = present_has (HasAddress F) visited_address (λ x k. k.0) d.server_address h.1 }

  data_sound : (d : KeptData) → AllCovered (visited_data d) → AllSound (visited_data d)
  unfolding visited_data
  data_sound d h = (data_parts d h, present_sound visited_address address_sound d.server_address h.1)

  malformed_sound : (m : KeptMalformed) → AllCovered (visited_malformed m) → AllSound (visited_malformed m)
  unfolding visited_malformed
  malformed_sound m h =
      let a : List Visited = where_present visited_address m.client_address in
      let b : List Visited = where_present visited_data m.message_data in
      all_both Sound a b
      (present_sound visited_address address_sound m.client_address (all_left Covered a b h))
      (present_sound visited_data data_sound m.message_data (all_right Covered a b h))

  -- where each value of a block is covered, the parts of each are
  pub block_sound : (b : KeptBlock) → AllCovered (visited b) → AllSound (visited b)
  unfolding visited
  block_sound b h =
      let items : List Visited = flat_map visited_item b.items in
      let malformed : List Visited = flat_map visited_malformed b.malformed in
      all_both Sound items malformed
      (each_sound visited_item item_sound b.items (all_left Covered items malformed h))
      (each_sound visited_malformed malformed_sound b.malformed (all_right Covered items malformed h))

  one_more : {T : Type 0} (P : T → Type 0) (o : Option T) (xs : List T) → Present P o → AllByRecursion P xs → AllByRecursion P (cons_option o xs)
  one_more P None xs p h = h
  one_more P (Some x) xs p h = (p, h)

  -- what holds of each value that is gone through holds of each one of a kind
  pub kind_sound : {T : Type 0} (kind : Visited → Option T) (P : T → Type 0) → ((v : Visited) → Sound v → Present P (kind v)) → (vs : List Visited) → AllSound vs → AllByRecursion P (used kind vs)
  kind_sound kind P each [] h = tt
  kind_sound kind P each (v ∷ vs) h = one_more P (kind v) (used kind vs) (each v h.0) (kind_sound kind P each vs h.1)

  pub sound_signature : (v : Visited) → Sound v → Present (SignatureParts F) (as_signature v)
  sound_signature (Signature s) h = h
  sound_signature _ h = tt

  pub sound_question_list : (v : Visited) → Sound v → Present (QuestionsParts F) (as_question_list v)
  sound_question_list (QuestionList qs) h = h
  sound_question_list _ h = tt

  pub sound_question : (v : Visited) → Sound v → Present (QuestionParts F) (as_question v)
  sound_question (Question q) h = h
  sound_question _ h = tt

  pub sound_record_list : (v : Visited) → Sound v → Present (RecordsParts F) (as_record_list v)
  sound_record_list (RecordList rs) h = h
  sound_record_list _ h = tt

  pub sound_record : (v : Visited) → Sound v → Present (RecordParts F) (as_record v)
  sound_record (Record r) h = h
  sound_record _ h = tt

  pub sound_data : (v : Visited) → Sound v → Present (DataParts F) (as_data v)
  sound_data (MalformedData d) h = h
  sound_data _ h = tt
