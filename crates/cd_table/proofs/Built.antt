-- The block whose tables grow value by value is the block of the kept block.
use Rattle.std.proofs.Common.{◌≡◌, Bool, List, [], ◌∷◌, ◌++◌, map, fold, Option, Some, None, Decides, refl, ap, sym, ◌∙◌, subst}
use Rattle.std.specs.List.{flat_map, cons_option, AllByRecursion}
use Rattle.std.proofs.lemmas.List.{append-nil}
use Rattle.cd_block.specs.declared.kept.KeptBlock.{KeptBlock}
use Rattle.cd_block.specs.declared.block.BlockItem.{BlockItem}
use Rattle.cd_block.specs.declared.block.BlockMalformed.{BlockMalformed}
use Rattle.cd_block.specs.Traversal.{Visited, Address, ClassType, NameOrRdata, Signature, QuestionList, Question, RecordList, Record, MalformedData, used, visited_item, visited_malformed, visited, as_address, as_classtype, as_bytes, as_signature, as_question_list, as_question, as_record_list, as_record, as_data}
use Rattle.cd_block.specs.Equality.{same_bytes, same_classtype, same_question, same_questions, same_record, same_records, same_signature, same_data}
use Rattle.cd_block.specs.Tables.{KeptTables, table_of, tables_of, question_index, record_index, indexed_question, indexed_record, indexed_signature, indexed_item, indexed_data, indexed_malformed, indexed_in, indexed}
use Rattle.cd_table.specs.declared.tables.Tables.{Tables}
use Rattle.cd_table.specs.Interning.{put}
use Rattle.cd_table.specs.Equality.{same_indexes, same_block_question, same_block_record, same_block_signature, same_block_data}
use Rattle.cd_table.specs.Growing.{each, put_item, put_malformed, no_tables, block_of, built}
use Rattle.cd_table.proofs.Distinct.{fold_put}
use Rattle.cd_table.proofs.Images.{fold_image, all_fold}
use Rattle.cd_table.proofs.Places.{any_stays}
use Rattle.cd_block.proofs.KeptEquality.{bytes_decides, classtype_decides, question_decides, questions_decides, record_decides, records_decides, signature_decides, data_decides}
use Rattle.cd_table.proofs.Parts.{Has, Present, HasAddress, HasClasstype, HasBytes, HasQuestion, HasRecord, SignatureParts, QuestionParts, RecordParts, DataParts, QuestionsParts, RecordsParts, signature_agree, question_agree, record_agree, data_agree, question_list_agree, record_list_agree}
use Rattle.cd_table.proofs.Sound.{Covered, AllSound, AllCovered, block_sound, kind_sound, sound_signature, sound_question_list, sound_question, sound_record_list, sound_record, sound_data}
use Rattle.cd_table.proofs.Stepping.{grown, image, tables_path, grown_append, Leads, leads_on, one_by_one}
use Rattle.cd_table.proofs.Steps.{Closed, item_goes, malformed_goes}

-- each of the values that were put is in the table
fold_has : {T : Type 0} (same : T → T → Bool) → ((a b : T) → Decides (same a b) (a ≡ b)) → (us xs : List T) → AllByRecursion (Has same (fold (put same) xs us)) us
fold_has same decides [] xs = tt
fold_has same decides (u ∷ us) xs = (any_stays same xs us u ((decides u u).1 refl), fold_has same decides us (put same xs u))

-- each value is in the table of the values
table_has_all : {T : Type 0} (same : T → T → Bool) → ((a b : T) → Decides (same a b) (a ≡ b)) → (us : List T) → AllByRecursion (Has same (table_of same us)) us
table_has_all same decides us = subst (λ table. AllByRecursion (Has same table) us) (fold_put same decides us) (fold_has same decides us [])

-- what holds of each value holds of each value of their table
all_table : {T : Type 0} (same : T → T → Bool) → ((a b : T) → Decides (same a b) (a ≡ b)) → (P : T → Type 0) → (us : List T) → AllByRecursion P us → AllByRecursion P (table_of same us)
all_table same decides P us all = subst (AllByRecursion P) (fold_put same decides us) (all_fold same P us [] all tt)

-- the table of the images is the images of the table
image_table : {A B : Type 0} (f : A → B) (eq : B → B → Bool) (same : A → A → Bool) → ((a b : A) → Decides (same a b) (a ≡ b)) → (P : A → Type 0) → ((a b : A) → P a → P b → eq (f a) (f b) ≡ same a b) → (us : List A) → AllByRecursion P us → fold (put eq) [] (map f us) ≡ map f (table_of same us)
image_table f eq same decides P agree us all =
    fold_image f eq same P agree us [] all tt ∙ ap (map f) (fold_put same decides us)

module _ (F : KeptTables) where
  -- values of which each kind is covered
  record Kinds (vs : List Visited) : Type 0 where
    addresses : AllByRecursion (HasAddress F) (used as_address vs)
    classtypes : AllByRecursion (HasClasstype F) (used as_classtype vs)
    bytes : AllByRecursion (HasBytes F) (used as_bytes vs)
    signatures : AllByRecursion (Has same_signature F.qr_sig) (used as_signature vs)
    question_lists : AllByRecursion (Has same_questions F.qlist) (used as_question_list vs)
    questions : AllByRecursion (HasQuestion F) (used as_question vs)
    record_lists : AllByRecursion (Has same_records F.rrlist) (used as_record_list vs)
    records : AllByRecursion (HasRecord F) (used as_record vs)
    malformed_data : AllByRecursion (Has same_data F.malformed_message_data) (used as_data vs)

  one_less : {T : Type 0} (P : T → Type 0) (o : Option T) (xs : List T) → AllByRecursion P (cons_option o xs) → Present P o × AllByRecursion P xs
  one_less P None xs h = (tt, h)
  one_less P (Some x) xs h = (h.0, h.1)

  covered_by : (v : Visited) → Present (HasAddress F) (as_address v) → Present (HasClasstype F) (as_classtype v) → Present (HasBytes F) (as_bytes v) → Present (Has same_signature F.qr_sig) (as_signature v) → Present (Has same_questions F.qlist) (as_question_list v) → Present (HasQuestion F) (as_question v) → Present (Has same_records F.rrlist) (as_record_list v) → Present (HasRecord F) (as_record v) → Present (Has same_data F.malformed_message_data) (as_data v) → Covered F v
  covered_by (Address x) a c b s l q m r d = a
  covered_by (ClassType x) a c b s l q m r d = c
  covered_by (NameOrRdata x) a c b s l q m r d = b
  covered_by (Signature x) a c b s l q m r d = s
  covered_by (QuestionList x) a c b s l q m r d = l
  covered_by (Question x) a c b s l q m r d = q
  covered_by (RecordList x) a c b s l q m r d = m
  covered_by (Record x) a c b s l q m r d = r
  covered_by (MalformedData x) a c b s l q m r d = d

  all_covered : (vs : List Visited) → Kinds vs → AllCovered F vs
  all_covered [] k = tt
  all_covered (v ∷ vs) k =
      let a = one_less (HasAddress F) (as_address v) (used as_address vs) k.addresses in
      let c = one_less (HasClasstype F) (as_classtype v) (used as_classtype vs) k.classtypes in
      let b = one_less (HasBytes F) (as_bytes v) (used as_bytes vs) k.bytes in
      let s = one_less (Has same_signature F.qr_sig) (as_signature v) (used as_signature vs) k.signatures in
      let l = one_less (Has same_questions F.qlist) (as_question_list v) (used as_question_list vs) k.question_lists in
      let q = one_less (HasQuestion F) (as_question v) (used as_question vs) k.questions in
      let m = one_less (Has same_records F.rrlist) (as_record_list v) (used as_record_list vs) k.record_lists in
      let r = one_less (HasRecord F) (as_record v) (used as_record vs) k.records in
      let d = one_less (Has same_data F.malformed_message_data) (as_data v) (used as_data vs) k.malformed_data in (
        covered_by v a.0 c.0 b.0 s.0 l.0 q.0 m.0 r.0 d.0,
        all_covered vs (record { addresses = a.1; classtypes = c.1; bytes = b.1; signatures = s.1; question_lists = l.1; questions = q.1; record_lists = m.1; records = r.1; malformed_data = d.1 }),
      )

-- each value that is gone through is in its table
pub tables_cover : (vs : List Visited) → AllCovered (tables_of vs) vs
tables_cover vs =
    all_covered (tables_of vs) vs (record {
      addresses = table_has_all same_bytes bytes_decides (used as_address vs);
      classtypes = table_has_all same_classtype classtype_decides (used as_classtype vs);
      bytes = table_has_all same_bytes bytes_decides (used as_bytes vs);
      signatures = table_has_all same_signature signature_decides (used as_signature vs);
      question_lists = table_has_all same_questions questions_decides (used as_question_list vs);
      questions = table_has_all same_question question_decides (used as_question vs);
      record_lists = table_has_all same_records records_decides (used as_record_list vs);
      records = table_has_all same_record record_decides (used as_record vs);
      malformed_data = table_has_all same_data data_decides (used as_data vs);
    })

module _ (vs : List Visited) (sound : AllSound (tables_of vs) vs) where
  -- the parts of the values of the tables stand in the tables
  pub tables_closed : Closed (tables_of vs)
  tables_closed =
      let F : KeptTables = tables_of vs in
      record {
        signatures = all_table same_signature signature_decides (SignatureParts F) (used as_signature vs) (kind_sound F as_signature (SignatureParts F) (sound_signature F) vs sound);
        question_lists = all_table same_questions questions_decides (QuestionsParts F) (used as_question_list vs) (kind_sound F as_question_list (QuestionsParts F) (sound_question_list F) vs sound);
        questions = all_table same_question question_decides (QuestionParts F) (used as_question vs) (kind_sound F as_question (QuestionParts F) (sound_question F) vs sound);
        record_lists = all_table same_records records_decides (RecordsParts F) (used as_record_list vs) (kind_sound F as_record_list (RecordsParts F) (sound_record_list F) vs sound);
        records = all_table same_record record_decides (RecordParts F) (used as_record vs) (kind_sound F as_record (RecordParts F) (sound_record F) vs sound);
        malformed_data = all_table same_data data_decides (DataParts F) (used as_data vs) (kind_sound F as_data (DataParts F) (sound_data F) vs sound);
      }

  -- going through all values leads to their tables
  tables_led : grown (tables_of vs) no_tables vs ≡ image (tables_of vs)
  unfolding grown image
  tables_led =
      let F : KeptTables = tables_of vs in
      tables_path (grown F no_tables vs) (image F)
      (fold_put same_bytes bytes_decides (used as_address vs))
      (fold_put same_classtype classtype_decides (used as_classtype vs))
      (fold_put same_bytes bytes_decides (used as_bytes vs))
      (image_table (indexed_signature F) same_block_signature same_signature signature_decides (SignatureParts F) (signature_agree F) (used as_signature vs) (kind_sound F as_signature (SignatureParts F) (sound_signature F) vs sound))
      (image_table (map (question_index F)) same_indexes same_questions questions_decides (QuestionsParts F) (question_list_agree F) (used as_question_list vs) (kind_sound F as_question_list (QuestionsParts F) (sound_question_list F) vs sound))
      (image_table (indexed_question F) same_block_question same_question question_decides (QuestionParts F) (question_agree F) (used as_question vs) (kind_sound F as_question (QuestionParts F) (sound_question F) vs sound))
      (image_table (map (record_index F)) same_indexes same_records records_decides (RecordsParts F) (record_list_agree F) (used as_record_list vs) (kind_sound F as_record_list (RecordsParts F) (sound_record_list F) vs sound))
      (image_table (indexed_record F) same_block_record same_record record_decides (RecordParts F) (record_agree F) (used as_record vs) (kind_sound F as_record (RecordParts F) (sound_record F) vs sound))
      (image_table (indexed_data F) same_block_data same_data data_decides (DataParts F) (data_agree F) (used as_data vs) (kind_sound F as_data (DataParts F) (sound_data F) vs sound))

-- a block with the tables F and these items and malformed messages
same_block : (F : KeptTables) (b : KeptBlock) (items : List BlockItem) (malformed : List BlockMalformed) (t : Tables) → items ≡ map (indexed_item F) b.items → malformed ≡ map (indexed_malformed F) b.malformed → t ≡ image F → block_of b items malformed t ≡ indexed_in F b
unfolding image indexed_in
same_block F b items malformed t p q r =
    ap (λ xs. block_of b xs malformed t) p
    ∙ ap (λ xs. block_of b (map (indexed_item F) b.items) xs t) q
    ∙ ap (λ u. block_of b (map (indexed_item F) b.items) (map (indexed_malformed F) b.malformed) u) r

-- the block that is built is the block of the kept block
pub built_is_indexed : (b : KeptBlock) → built b ≡ indexed b
unfolding built visited
built_is_indexed b =
    let vs : List Visited = visited b in
    let F : KeptTables = tables_of vs in
    let covered = tables_cover vs in
    let sound = block_sound F b covered in
    let closed = tables_closed vs sound in
    let first : List Visited = flat_map visited_item b.items in
    let second : List Visited = flat_map visited_malformed b.malformed in
    let led : Leads F no_tables (first ++ second) = record { whole = tables_led vs sound; covered = covered } in
    let items = one_by_one F put_item visited_item (indexed_item F) (item_goes F closed) b.items no_tables second led in
    let led_on : Leads F (grown F no_tables first) (second ++ []) = subst (Leads F (grown F no_tables first)) (sym (append-nil second)) (leads_on F no_tables first second led) in
    let malformed = one_by_one F put_malformed visited_malformed (indexed_malformed F) (malformed_goes F closed) b.malformed (grown F no_tables first) [] led_on in
    let after : Tables = (each put_item b.items no_tables).tables in
    let messages = ap (λ t. (each put_malformed b.malformed t).value) items.0 ∙ malformed.1 in
    let last = ap (λ t. (each put_malformed b.malformed t).tables) items.0 ∙ malformed.0 ∙ sym (grown_append F no_tables first second) ∙ led.whole in
    same_block F b (each put_item b.items no_tables).value (each put_malformed b.malformed after).value (each put_malformed b.malformed after).tables items.1 messages last
