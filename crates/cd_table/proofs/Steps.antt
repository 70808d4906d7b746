-- Each step of the traversal goes through its values and gives the index at the end.
use Rattle.std.proofs.Common.{◌≡◌, ℕ, List, [], ◌∷◌, ◌++◌, map, fold, Option, Some, None, refl, ap, sym, ◌∙◌}
use Rattle.std.specs.List.{flat_map, AllByRecursion}
use Rattle.std.specs.Option.{option_map}
use Rattle.std.proofs.lemmas.List.{append_assoc}
use Rattle.cd_block.specs.declared.kept.KeptQuestion.{KeptQuestion}
use Rattle.cd_block.specs.declared.kept.KeptRr.{KeptRr}
use Rattle.cd_block.specs.declared.kept.KeptLists.{KeptLists}
use Rattle.cd_block.specs.declared.kept.KeptSig.{KeptSig}
use Rattle.cd_block.specs.declared.kept.KeptItem.{KeptItem}
use Rattle.cd_block.specs.declared.kept.KeptData.{KeptData}
use Rattle.cd_block.specs.declared.kept.KeptMalformed.{KeptMalformed}
use Rattle.cd_block.specs.declared.block.BlockLists.{BlockLists}
use Rattle.cd_block.specs.Traversal.{Visited, ClassType, NameOrRdata, Signature, QuestionList, Question, RecordList, Record, MalformedData, used, where_present, visited_address, visited_classtype, visited_bytes, visited_signature, visited_question, visited_questions, visited_record, visited_records, visited_lists, visited_item, visited_data, visited_malformed, as_address, as_classtype, as_bytes, as_signature, as_question_list, as_question, as_record_list, as_record, as_data}
use Rattle.cd_block.specs.Equality.{same_bytes, same_classtype, same_question, same_questions, same_record, same_records, same_signature, same_data}
use Rattle.cd_block.specs.Tables.{KeptTables, address_index, classtype_index, bytes_index, signature_index, question_index, record_index, data_index, question_list_index, record_list_index, indexed_question, indexed_record, indexed_lists, indexed_signature, indexed_item, indexed_data, indexed_malformed}
use Rattle.cd_table.specs.declared.tables.Tables.{Tables}
use Rattle.cd_table.specs.Interning.{put}
use Rattle.cd_table.specs.Equality.{same_indexes, same_block_question, same_block_record, same_block_signature, same_block_data}
use Rattle.cd_table.specs.Growing.{◌>>=◌, give, if_present, each, put_address, put_classtype, put_bytes, put_block_signature, put_block_question, put_question_indexes, put_block_record, put_record_indexes, put_block_data, signature_at, put_signature, put_question, put_questions, put_record, put_records, put_lists, item_at, put_item, data_at, put_data, malformed_at, put_malformed}
use Rattle.cd_block.proofs.KeptEquality.{bytes_decides, classtype_decides, question_decides, questions_decides, record_decides, records_decides, signature_decides, data_decides}
use Rattle.cd_table.proofs.Parts.{SignatureParts, QuestionParts, RecordParts, DataParts, QuestionsParts, RecordsParts, signature_agree, question_agree, record_agree, data_agree, question_list_agree, record_list_agree}
use Rattle.cd_table.proofs.Sound.{Covered, all_left, all_both, signature_parts, question_parts, questions_parts, record_parts, records_parts, data_parts}
use Rattle.cd_table.proofs.Stepping.{grown, image, grown_append, Goes, gives, in_turn, then_gives, regrouped, reordered, optional, one_by_one, index_at_end, image_at_end}

-- the parts of each value in the tables stand in the tables
pub record Closed (F : KeptTables) : Type 0 where
  pub signatures : AllByRecursion (SignatureParts F) F.qr_sig
  pub question_lists : AllByRecursion (QuestionsParts F) F.qlist
  pub questions : AllByRecursion (QuestionParts F) F.qrr
  pub record_lists : AllByRecursion (RecordsParts F) F.rrlist
  pub records : AllByRecursion (RecordParts F) F.rr
  pub malformed_data : AllByRecursion (DataParts F) F.malformed_message_data

module _ (F : KeptTables) where
  pub address_goes : (a : List ℕ) → Goes F (put_address a) (visited_address a) (address_index F a)
  unfolding put_address grown image
  address_goes a t ws l =
      (refl, index_at_end same_bytes t.ip_address (used as_address ws) F.ip_address a ((bytes_decides a a).1 refl) (ap (λ u. u.ip_address) l.whole))

  pub classtype_goes : (c : ℕ × ℕ) → Goes F (put_classtype c) (visited_classtype c) (classtype_index F c)
  unfolding put_classtype grown image
  classtype_goes c t ws l =
      (refl, index_at_end same_classtype t.classtype (used as_classtype ws) F.classtype c ((classtype_decides c c).1 refl) (ap (λ u. u.classtype) l.whole))

  pub bytes_goes : (b : List ℕ) → Goes F (put_bytes b) (visited_bytes b) (bytes_index F b)
  unfolding put_bytes grown image
  bytes_goes b t ws l =
      (refl, index_at_end same_bytes t.name_rdata (used as_bytes ws) F.name_rdata b ((bytes_decides b b).1 refl) (ap (λ u. u.name_rdata) l.whole))

module _ (F : KeptTables) (closed : Closed F) where
  signature_put : (s : KeptSig) → SignatureParts F s → Goes F (put_block_signature (indexed_signature F s)) (Signature s ∷ []) (signature_index F s)
  unfolding put_block_signature grown image
  signature_put s parts t ws l =
      (refl, image_at_end (indexed_signature F) same_block_signature same_signature (SignatureParts F) (signature_agree F) t.qr_sig (map (indexed_signature F) (used as_signature ws)) F.qr_sig s parts ((signature_decides s s).1 refl) closed.signatures (ap (λ u. u.qr_sig) l.whole))

  question_put : (q : KeptQuestion) → QuestionParts F q → Goes F (put_block_question (indexed_question F q)) (Question q ∷ []) (question_index F q)
  unfolding put_block_question grown image
  question_put q parts t ws l =
      (refl, image_at_end (indexed_question F) same_block_question same_question (QuestionParts F) (question_agree F) t.qrr (map (indexed_question F) (used as_question ws)) F.qrr q parts ((question_decides q q).1 refl) closed.questions (ap (λ u. u.qrr) l.whole))

  record_put : (r : KeptRr) → RecordParts F r → Goes F (put_block_record (indexed_record F r)) (Record r ∷ []) (record_index F r)
  unfolding put_block_record grown image
  record_put r parts t ws l =
      (refl, image_at_end (indexed_record F) same_block_record same_record (RecordParts F) (record_agree F) t.rr (map (indexed_record F) (used as_record ws)) F.rr r parts ((record_decides r r).1 refl) closed.records (ap (λ u. u.rr) l.whole))

  data_put : (d : KeptData) → DataParts F d → Goes F (put_block_data (indexed_data F d)) (MalformedData d ∷ []) (data_index F d)
  unfolding put_block_data grown image
  data_put d parts t ws l =
      (refl, image_at_end (indexed_data F) same_block_data same_data (DataParts F) (data_agree F) t.malformed_message_data (map (indexed_data F) (used as_data ws)) F.malformed_message_data d parts ((data_decides d d).1 refl) closed.malformed_data (ap (λ u. u.malformed_message_data) l.whole))

  question_list_put : (q : KeptQuestion) (qs : List KeptQuestion) → QuestionsParts F (q ∷ qs) → Goes F (put_question_indexes (map (question_index F) (q ∷ qs)) >>= (λ k. give (Some k))) (QuestionList (q ∷ qs) ∷ []) (question_list_index F (q ∷ qs))
  unfolding put_question_indexes grown image
  question_list_put q qs parts t ws l =
      (refl, ap (λ k. Some k) (image_at_end (map (question_index F)) same_indexes same_questions (QuestionsParts F) (question_list_agree F) t.qlist (map (map (question_index F)) (used as_question_list ws)) F.qlist (q ∷ qs) parts ((questions_decides (q ∷ qs) (q ∷ qs)).1 refl) closed.question_lists (ap (λ u. u.qlist) l.whole)))

  record_list_put : (r : KeptRr) (rs : List KeptRr) → RecordsParts F (r ∷ rs) → Goes F (put_record_indexes (map (record_index F) (r ∷ rs)) >>= (λ k. give (Some k))) (RecordList (r ∷ rs) ∷ []) (record_list_index F (r ∷ rs))
  unfolding put_record_indexes grown image
  record_list_put r rs parts t ws l =
      (refl, ap (λ k. Some k) (image_at_end (map (record_index F)) same_indexes same_records (RecordsParts F) (record_list_agree F) t.rrlist (map (map (record_index F)) (used as_record_list ws)) F.rrlist (r ∷ rs) parts ((records_decides (r ∷ rs) (r ∷ rs)).1 refl) closed.record_lists (ap (λ u. u.rrlist) l.whole)))

  -- a value after its parts leads to the tables to which it leads before them
  signature_order : (s : KeptSig) (a : Option (List ℕ)) (c : Option (ℕ × ℕ)) (b : Option (List ℕ)) (t : Tables) → grown F t (where_present visited_address a ++ (where_present visited_classtype c ++ (where_present visited_bytes b ++ Signature s ∷ []))) ≡ grown F t (Signature s ∷ where_present visited_address a ++ where_present visited_classtype c ++ where_present visited_bytes b)
  unfolding grown
  signature_order s None None None t = refl
  signature_order s None None (Some b) t = refl
  signature_order s None (Some c) None t = refl
  signature_order s None (Some c) (Some b) t = refl
  signature_order s (Some a) None None t = refl
  signature_order s (Some a) None (Some b) t = refl
  signature_order s (Some a) (Some c) None t = refl
  signature_order s (Some a) (Some c) (Some b) t = refl

  signature_covers : (s : KeptSig) (a : Option (List ℕ)) (c : Option (ℕ × ℕ)) (b : Option (List ℕ)) → AllByRecursion (Covered F) (Signature s ∷ where_present visited_address a ++ where_present visited_classtype c ++ where_present visited_bytes b) → AllByRecursion (Covered F) (where_present visited_address a ++ (where_present visited_classtype c ++ (where_present visited_bytes b ++ Signature s ∷ [])))
  signature_covers s None None None h = h
  signature_covers s None None (Some b) h = (h.1.0, (h.0, tt))
  signature_covers s None (Some c) None h = (h.1.0, (h.0, tt))
  signature_covers s None (Some c) (Some b) h = (h.1.0, (h.1.1.0, (h.0, tt)))
  signature_covers s (Some a) None None h = (h.1.0, (h.0, tt))
  signature_covers s (Some a) None (Some b) h = (h.1.0, (h.1.1.0, (h.0, tt)))
  signature_covers s (Some a) (Some c) None h = (h.1.0, (h.1.1.0, (h.0, tt)))
  signature_covers s (Some a) (Some c) (Some b) h = (h.1.0, (h.1.1.0, (h.1.1.1.0, (h.0, tt))))

  signature_in_turn : (s : KeptSig) → SignatureParts F s → Goes F (put_signature s) (visited_signature s) (signature_index F s)
  unfolding put_signature visited_signature indexed_signature
  signature_in_turn s parts =
      let a : List Visited = where_present visited_address s.server_address in
      let c : List Visited = where_present visited_classtype s.classtype in
      let b : List Visited = where_present visited_bytes s.opt_rdata in
      let x : Option ℕ = option_map (address_index F) s.server_address in
      let y : Option ℕ = option_map (classtype_index F) s.classtype in
      let z : Option ℕ = option_map (bytes_index F) s.opt_rdata in
      let i : ℕ = signature_index F s in
      let last = in_turn F (if_present put_bytes s.opt_rdata) (λ opt_rdata. put_block_signature (signature_at s x y opt_rdata)) b (Signature s ∷ []) z i
      (optional F put_bytes visited_bytes (bytes_index F) (bytes_goes F) s.opt_rdata) (signature_put s parts) in
      let middle = in_turn F (if_present put_classtype s.classtype) (λ classtype. if_present put_bytes s.opt_rdata >>= (λ opt_rdata. put_block_signature (signature_at s x classtype opt_rdata))) c (b ++ Signature s ∷ []) y i
      (optional F put_classtype visited_classtype (classtype_index F) (classtype_goes F) s.classtype) last in
      let all = in_turn F (if_present put_address s.server_address) (λ server_address. if_present put_classtype s.classtype >>= (λ classtype. if_present put_bytes s.opt_rdata >>= (λ opt_rdata. put_block_signature (signature_at s server_address classtype opt_rdata)))) a (c ++ (b ++ Signature s ∷ [])) x i
      (optional F put_address visited_address (address_index F) (address_goes F) s.server_address) middle in
      reordered F (put_signature s) (a ++ (c ++ (b ++ Signature s ∷ []))) (Signature s ∷ a ++ c ++ b) i
      (signature_order s s.server_address s.classtype s.opt_rdata) (signature_covers s s.server_address s.classtype s.opt_rdata) all

  pub signature_goes : (s : KeptSig) → Goes F (put_signature s) (visited_signature s) (signature_index F s)
  signature_goes s t ws l =
      signature_in_turn s (signature_parts F s (all_left (Covered F) (visited_signature s) ws l.covered)) t ws l

  question_order : (q : KeptQuestion) (t : Tables) → grown F t (NameOrRdata q.name ∷ ClassType (q.rtype, q.rclass) ∷ Question q ∷ []) ≡ grown F t (Question q ∷ NameOrRdata q.name ∷ ClassType (q.rtype, q.rclass) ∷ [])
  unfolding grown
  question_order q t = refl

  question_in_turn : (q : KeptQuestion) → QuestionParts F q → Goes F (put_question q) (visited_question q) (question_index F q)
  unfolding put_question visited_question indexed_question
  question_in_turn q parts =
      let x : ℕ = bytes_index F q.name in
      let y : ℕ = classtype_index F (q.rtype, q.rclass) in
      let i : ℕ = question_index F q in
      let last = in_turn F (put_classtype (q.rtype, q.rclass)) (λ classtype. put_block_question (record { name = x; classtype = classtype })) (ClassType (q.rtype, q.rclass) ∷ []) (Question q ∷ []) y i
      (classtype_goes F (q.rtype, q.rclass)) (question_put q parts) in
      let all = in_turn F (put_bytes q.name) (λ name. put_classtype (q.rtype, q.rclass) >>= (λ classtype. put_block_question (record { name = name; classtype = classtype }))) (NameOrRdata q.name ∷ []) (ClassType (q.rtype, q.rclass) ∷ Question q ∷ []) x i
      (bytes_goes F q.name) last in
      reordered F (put_question q) (NameOrRdata q.name ∷ ClassType (q.rtype, q.rclass) ∷ Question q ∷ []) (Question q ∷ NameOrRdata q.name ∷ ClassType (q.rtype, q.rclass) ∷ []) i
      (question_order q) (λ h. (h.1.0, (h.1.1.0, (h.0, tt)))) all

  pub question_goes : (q : KeptQuestion) → Goes F (put_question q) (visited_question q) (question_index F q)
  question_goes q t ws l =
      question_in_turn q (question_parts F q (all_left (Covered F) (visited_question q) ws l.covered)) t ws l

  record_order : (r : KeptRr) (b : Option (List ℕ)) (t : Tables) → grown F t (NameOrRdata r.name ∷ ClassType (r.rtype, r.rclass) ∷ (where_present visited_bytes b ++ Record r ∷ [])) ≡ grown F t (Record r ∷ NameOrRdata r.name ∷ ClassType (r.rtype, r.rclass) ∷ where_present visited_bytes b)
  unfolding grown
  record_order r None t = refl
  record_order r (Some b) t = refl

  record_covers : (r : KeptRr) (b : Option (List ℕ)) → AllByRecursion (Covered F) (Record r ∷ NameOrRdata r.name ∷ ClassType (r.rtype, r.rclass) ∷ where_present visited_bytes b) → AllByRecursion (Covered F) (NameOrRdata r.name ∷ ClassType (r.rtype, r.rclass) ∷ (where_present visited_bytes b ++ Record r ∷ []))
  record_covers r None h = (h.1.0, (h.1.1.0, (h.0, tt)))
  record_covers r (Some b) h = (h.1.0, (h.1.1.0, (h.1.1.1.0, (h.0, tt))))

  record_in_turn : (r : KeptRr) → RecordParts F r → Goes F (put_record r) (visited_record r) (record_index F r)
  unfolding put_record visited_record indexed_record
  record_in_turn r parts =
      let b : List Visited = where_present visited_bytes r.rdata in
      let x : ℕ = bytes_index F r.name in
      let y : ℕ = classtype_index F (r.rtype, r.rclass) in
      let z : Option ℕ = option_map (bytes_index F) r.rdata in
      let i : ℕ = record_index F r in
      let last = in_turn F (if_present put_bytes r.rdata) (λ rdata. put_block_record (record { name = x; classtype = y; ttl = r.ttl; rdata = rdata })) b (Record r ∷ []) z i
      (optional F put_bytes visited_bytes (bytes_index F) (bytes_goes F) r.rdata) (record_put r parts) in
      let middle = in_turn F (put_classtype (r.rtype, r.rclass)) (λ classtype. if_present put_bytes r.rdata >>= (λ rdata. put_block_record (record { name = x; classtype = classtype; ttl = r.ttl; rdata = rdata }))) (ClassType (r.rtype, r.rclass) ∷ []) (b ++ Record r ∷ []) y i
      (classtype_goes F (r.rtype, r.rclass)) last in
      let all = in_turn F (put_bytes r.name) (λ name. put_classtype (r.rtype, r.rclass) >>= (λ classtype. if_present put_bytes r.rdata >>= (λ rdata. put_block_record (record { name = name; classtype = classtype; ttl = r.ttl; rdata = rdata })))) (NameOrRdata r.name ∷ []) (ClassType (r.rtype, r.rclass) ∷ (b ++ Record r ∷ [])) x i
      (bytes_goes F r.name) middle in
      reordered F (put_record r) (NameOrRdata r.name ∷ ClassType (r.rtype, r.rclass) ∷ (b ++ Record r ∷ [])) (Record r ∷ NameOrRdata r.name ∷ ClassType (r.rtype, r.rclass) ∷ b) i
      (record_order r r.rdata) (record_covers r r.rdata) all

  pub record_goes : (r : KeptRr) → Goes F (put_record r) (visited_record r) (record_index F r)
  record_goes r t ws l =
      record_in_turn r (record_parts F r (all_left (Covered F) (visited_record r) ws l.covered)) t ws l

  -- questions and their parts are no list of questions
  no_question_lists : (qs : List KeptQuestion) → used as_question_list (flat_map visited_question qs) ≡ []
  unfolding visited_question
  no_question_lists [] = refl
  no_question_lists (q ∷ qs) = no_question_lists qs

  -- so such a list leads to the same tables before or after them
  question_list_order : (qs : List KeptQuestion) (vs : List Visited) → used as_question_list vs ≡ [] → (t : Tables) → grown F t (vs ++ QuestionList qs ∷ []) ≡ grown F t (QuestionList qs ∷ vs)
  unfolding grown
  question_list_order qs vs none t =
      let lists : List (List ℕ) → List (List ℕ) = λ us. us in
      let here : fold (put same_indexes) t.qlist (map (map (question_index F)) (used as_question_list vs)) ≡ t.qlist =
      ap (λ us. fold (put same_indexes) t.qlist (map (map (question_index F)) us)) none in
      let there : fold (put same_indexes) (put same_indexes t.qlist (map (question_index F) qs)) (map (map (question_index F)) (used as_question_list vs)) ≡ put same_indexes t.qlist (map (question_index F) qs) =
      ap (λ us. fold (put same_indexes) (put same_indexes t.qlist (map (question_index F) qs)) (map (map (question_index F)) us)) none in
      let placed = ap (λ u. put same_indexes u (map (question_index F) qs)) here ∙ sym there in
      grown_append F t vs (QuestionList qs ∷ []) ∙ (λ i. record (grown F t vs) { qlist = placed i })

  last_covered : (v : Visited) (vs : List Visited) → AllByRecursion (Covered F) (v ∷ vs) → AllByRecursion (Covered F) (vs ++ v ∷ [])
  last_covered v vs h = all_both (Covered F) vs (v ∷ []) h.1 (h.0, tt)

  pub questions_go : (qs : List KeptQuestion) → Goes F (put_questions qs) (visited_questions qs) (question_list_index F qs)
  unfolding put_questions visited_questions
  questions_go [] t ws l = gives F None t ws l
  questions_go (q ∷ qs) t ws l =
      let vs : List Visited = flat_map visited_question (q ∷ qs) in
      let parts = questions_parts F (q ∷ qs) (all_left (Covered F) vs ws l.covered.1) in
      let all = in_turn F (each put_question (q ∷ qs)) (λ indexes. put_question_indexes indexes >>= (λ k. give (Some k))) vs (QuestionList (q ∷ qs) ∷ []) (map (question_index F) (q ∷ qs)) (question_list_index F (q ∷ qs))
      (one_by_one F put_question visited_question (question_index F) question_goes (q ∷ qs)) (question_list_put q qs parts) in
      reordered F (put_questions (q ∷ qs)) (vs ++ QuestionList (q ∷ qs) ∷ []) (QuestionList (q ∷ qs) ∷ vs) (question_list_index F (q ∷ qs))
      (question_list_order (q ∷ qs) vs (no_question_lists (q ∷ qs))) (last_covered (QuestionList (q ∷ qs)) vs) all t ws l

  no_rdata_list : (b : Option (List ℕ)) (vs : List Visited) → used as_record_list (where_present visited_bytes b ++ vs) ≡ used as_record_list vs
  no_rdata_list None vs = refl
  no_rdata_list (Some b) vs = refl

  no_record_lists : (rs : List KeptRr) → used as_record_list (flat_map visited_record rs) ≡ []
  unfolding visited_record
  no_record_lists [] = refl
  no_record_lists (r ∷ rs) = no_rdata_list r.rdata (flat_map visited_record rs) ∙ no_record_lists rs

  record_list_order : (rs : List KeptRr) (vs : List Visited) → used as_record_list vs ≡ [] → (t : Tables) → grown F t (vs ++ RecordList rs ∷ []) ≡ grown F t (RecordList rs ∷ vs)
  unfolding grown
  record_list_order rs vs none t =
      let here : fold (put same_indexes) t.rrlist (map (map (record_index F)) (used as_record_list vs)) ≡ t.rrlist =
      ap (λ us. fold (put same_indexes) t.rrlist (map (map (record_index F)) us)) none in
      let there : fold (put same_indexes) (put same_indexes t.rrlist (map (record_index F) rs)) (map (map (record_index F)) (used as_record_list vs)) ≡ put same_indexes t.rrlist (map (record_index F) rs) =
      ap (λ us. fold (put same_indexes) (put same_indexes t.rrlist (map (record_index F) rs)) (map (map (record_index F)) us)) none in
      let placed = ap (λ u. put same_indexes u (map (record_index F) rs)) here ∙ sym there in
      grown_append F t vs (RecordList rs ∷ []) ∙ (λ i. record (grown F t vs) { rrlist = placed i })

  pub records_go : (rs : List KeptRr) → Goes F (put_records rs) (visited_records rs) (record_list_index F rs)
  unfolding put_records visited_records
  records_go [] t ws l = gives F None t ws l
  records_go (r ∷ rs) t ws l =
      let vs : List Visited = flat_map visited_record (r ∷ rs) in
      let parts = records_parts F (r ∷ rs) (all_left (Covered F) vs ws l.covered.1) in
      let all = in_turn F (each put_record (r ∷ rs)) (λ indexes. put_record_indexes indexes >>= (λ k. give (Some k))) vs (RecordList (r ∷ rs) ∷ []) (map (record_index F) (r ∷ rs)) (record_list_index F (r ∷ rs))
      (one_by_one F put_record visited_record (record_index F) record_goes (r ∷ rs)) (record_list_put r rs parts) in
      reordered F (put_records (r ∷ rs)) (vs ++ RecordList (r ∷ rs) ∷ []) (RecordList (r ∷ rs) ∷ vs) (record_list_index F (r ∷ rs))
      (record_list_order (r ∷ rs) vs (no_record_lists (r ∷ rs))) (last_covered (RecordList (r ∷ rs)) vs) all t ws l

  pub lists_go : (l : KeptLists) → Goes F (put_lists l) (visited_lists l) (indexed_lists F l)
  unfolding put_lists visited_lists indexed_lists
  lists_go l =
      let a : List Visited = visited_questions l.question in
      let b : List Visited = visited_records l.answer in
      let c : List Visited = visited_records l.authority in
      let d : List Visited = visited_records l.additional in
      let w : Option ℕ = question_list_index F l.question in
      let x : Option ℕ = record_list_index F l.answer in
      let y : Option ℕ = record_list_index F l.authority in
      let z : Option ℕ = record_list_index F l.additional in
      let placed : Option ℕ → Option ℕ → Option ℕ → Option ℕ → BlockLists =
      λ question answer authority additional. record { question = question; answer = answer; authority = authority; additional = additional } in
      let fourth = then_gives F (put_records l.additional) (placed w x y) d z (records_go l.additional) in
      let third = in_turn F (put_records l.authority) (λ authority. put_records l.additional >>= (λ additional. give (placed w x authority additional))) c d y (placed w x y z) (records_go l.authority) fourth in
      let second = in_turn F (put_records l.answer) (λ answer. put_records l.authority >>= (λ authority. put_records l.additional >>= (λ additional. give (placed w answer authority additional)))) b (c ++ d) x (placed w x y z) (records_go l.answer) third in
      let all = in_turn F (put_questions l.question) (λ question. put_records l.answer >>= (λ answer. put_records l.authority >>= (λ authority. put_records l.additional >>= (λ additional. give (placed question answer authority additional))))) a (b ++ (c ++ d)) w (placed w x y z) (questions_go l.question) second in
      regrouped F (put_lists l) (a ++ (b ++ (c ++ d))) (((a ++ b) ++ c) ++ d) (placed w x y z) (sym (simp append_assoc)) all

  pub item_goes : (i : KeptItem) → Goes F (put_item i) (visited_item i) (indexed_item F i)
  unfolding put_item visited_item indexed_item
  item_goes i =
      let a : List Visited = where_present visited_address i.client_address in
      let b : List Visited = where_present visited_signature i.signature in
      let c : List Visited = where_present visited_bytes i.query_name in
      let d : List Visited = visited_lists i.query_extended in
      let e : List Visited = visited_lists i.response_extended in
      let v : Option ℕ = option_map (address_index F) i.client_address in
      let w : Option ℕ = option_map (signature_index F) i.signature in
      let x : Option ℕ = option_map (bytes_index F) i.query_name in
      let y : BlockLists = indexed_lists F i.query_extended in
      let z : BlockLists = indexed_lists F i.response_extended in
      let fifth = then_gives F (put_lists i.response_extended) (item_at i v w x y) e z (lists_go i.response_extended) in
      let fourth = in_turn F (put_lists i.query_extended) (λ query_extended. put_lists i.response_extended >>= (λ response_extended. give (item_at i v w x query_extended response_extended))) d e y (item_at i v w x y z) (lists_go i.query_extended) fifth in
      let third = in_turn F (if_present put_bytes i.query_name) (λ query_name. put_lists i.query_extended >>= (λ query_extended. put_lists i.response_extended >>= (λ response_extended. give (item_at i v w query_name query_extended response_extended)))) c (d ++ e) x (item_at i v w x y z) (optional F put_bytes visited_bytes (bytes_index F) (bytes_goes F) i.query_name) fourth in
      let second = in_turn F (if_present put_signature i.signature) (λ signature. if_present put_bytes i.query_name >>= (λ query_name. put_lists i.query_extended >>= (λ query_extended. put_lists i.response_extended >>= (λ response_extended. give (item_at i v signature query_name query_extended response_extended))))) b (c ++ (d ++ e)) w (item_at i v w x y z) (optional F put_signature visited_signature (signature_index F) signature_goes i.signature) third in
      let all = in_turn F (if_present put_address i.client_address) (λ client_address. if_present put_signature i.signature >>= (λ signature. if_present put_bytes i.query_name >>= (λ query_name. put_lists i.query_extended >>= (λ query_extended. put_lists i.response_extended >>= (λ response_extended. give (item_at i client_address signature query_name query_extended response_extended)))))) a (b ++ (c ++ (d ++ e))) v (item_at i v w x y z) (optional F put_address visited_address (address_index F) (address_goes F) i.client_address) second in
      regrouped F (put_item i) (a ++ (b ++ (c ++ (d ++ e)))) ((((a ++ b) ++ c) ++ d) ++ e) (item_at i v w x y z) (sym (simp append_assoc)) all

  data_order : (d : KeptData) (a : Option (List ℕ)) (t : Tables) → grown F t (where_present visited_address a ++ MalformedData d ∷ []) ≡ grown F t (MalformedData d ∷ where_present visited_address a)
  unfolding grown
  data_order d None t = refl
  data_order d (Some a) t = refl

  data_in_turn : (d : KeptData) → DataParts F d → Goes F (put_data d) (visited_data d) (data_index F d)
  unfolding put_data visited_data indexed_data
  data_in_turn d parts =
      let a : List Visited = where_present visited_address d.server_address in
      let x : Option ℕ = option_map (address_index F) d.server_address in
      let all = in_turn F (if_present put_address d.server_address) (λ server_address. put_block_data (data_at d server_address)) a (MalformedData d ∷ []) x (data_index F d)
      (optional F put_address visited_address (address_index F) (address_goes F) d.server_address) (data_put d parts) in
      reordered F (put_data d) (a ++ MalformedData d ∷ []) (MalformedData d ∷ a) (data_index F d)
      (data_order d d.server_address) (last_covered (MalformedData d) a) all

  pub data_goes : (d : KeptData) → Goes F (put_data d) (visited_data d) (data_index F d)
  data_goes d t ws l =
      data_in_turn d (data_parts F d (all_left (Covered F) (visited_data d) ws l.covered)) t ws l

  pub malformed_goes : (m : KeptMalformed) → Goes F (put_malformed m) (visited_malformed m) (indexed_malformed F m)
  unfolding put_malformed visited_malformed indexed_malformed
  malformed_goes m =
      let a : List Visited = where_present visited_address m.client_address in
      let b : List Visited = where_present visited_data m.message_data in
      let x : Option ℕ = option_map (address_index F) m.client_address in
      let y : Option ℕ = option_map (data_index F) m.message_data in
      let last = then_gives F (if_present put_data m.message_data) (malformed_at m x) b y (optional F put_data visited_data (data_index F) data_goes m.message_data) in
      in_turn F (if_present put_address m.client_address) (λ client_address. if_present put_data m.message_data >>= (λ message_data. give (malformed_at m client_address message_data))) a b x (malformed_at m x y) (optional F put_address visited_address (address_index F) (address_goes F) m.client_address) last
