-- The values of a table are pairwise different, and so are their images.
use Rattle.std.proofs.Common.{◌≡◌, ◌≢◌, Bool, true, false, not, cond, List, [], ◌∷◌, map, Decides, refl, ap, sym, ◌∙◌, true≢false, arith}
use Rattle.std.specs.List.{filter, AllByRecursion}
use Rattle.std.proofs.lemmas.List.Elements.{All-from_recursion}
use Rattle.std.proofs.lemmas.List.Kept.{AllPairs-cons}
use Rattle.cd_block.specs.declared.kept.KeptBlock.{KeptBlock}
use Rattle.cd_block.specs.Traversal.{Visited, used, visited, as_address, as_classtype, as_bytes, as_signature, as_question_list, as_question, as_record_list, as_record, as_data}
use Rattle.cd_block.specs.Equality.{same_bytes, same_classtype, same_question, same_questions, same_record, same_records, same_signature, same_data}
use Rattle.cd_block.specs.Tables.{KeptTables, table_of, tables_of, question_index, record_index, indexed_question, indexed_record, indexed_signature, indexed_data, indexed_in, indexed}
use Rattle.cd_block.proofs.KeptEquality.{bytes_decides, classtype_decides, question_decides, questions_decides, record_decides, records_decides, signature_decides, data_decides}
use Rattle.cd_table.specs.Equality.{same_indexes, same_block_question, same_block_record, same_block_signature, same_block_data}
use Rattle.cd_table.specs.Once.{Differ, HoldsEachOnce}
use Rattle.cd_table.proofs.Parts.{SignatureParts, QuestionParts, RecordParts, DataParts, QuestionsParts, RecordsParts, signature_agree, question_agree, record_agree, data_agree, question_list_agree, record_list_agree}
use Rattle.cd_table.proofs.Sound.{block_sound}
use Rattle.cd_table.proofs.Steps.{Closed}
use Rattle.cd_table.proofs.Built.{tables_cover, tables_closed}

-- each value differs from those after it
abbrev Apart : {T : Type 0} → List T → Type 0
Apart [] = Unit {0}
Apart (x ∷ xs) = AllByRecursion (λ y. x ≢ y) xs × Apart xs

differ_from_apart : {T : Type 0} (xs : List T) → Apart xs → Differ xs
differ_from_apart [] h = λ i j d p q. absurd (omega arith)
differ_from_apart (x ∷ xs) h =
    AllPairs-cons (λ a b. a ≢ b) x xs (All-from_recursion (λ y. x ≢ y) xs h.0) (differ_from_apart xs h.1)

-- what a filter leaves keeps what holds of each value
all_filter : {T : Type 0} (P : T → Type 0) (p : T → Bool) (xs : List T) → AllByRecursion P xs → AllByRecursion P (filter p xs)
all_filter P p [] h = tt
all_filter P p (x ∷ xs) h =
    let rest = all_filter P p xs h.1 in
    elim (p x) as (λ b. AllByRecursion P (cond b (x ∷ filter p xs) (filter p xs))) [ true ↦ (h.0, rest) | false ↦ rest ]

apart_filter : {T : Type 0} (p : T → Bool) (xs : List T) → Apart xs → Apart (filter p xs)
apart_filter p [] h = tt
apart_filter p (x ∷ xs) h =
    let rest = apart_filter p xs h.1 in
    elim (p x) as (λ b. Apart (cond b (x ∷ filter p xs) (filter p xs))) [ true ↦ (all_filter (λ y. x ≢ y) p xs h.0, rest) | false ↦ rest ]

-- what is no repeat of a value differs from it
no_repeats : {T : Type 0} (same : T → T → Bool) → ((a b : T) → Decides (same a b) (a ≡ b)) → (v : T) (xs : List T) → AllByRecursion (λ w. v ≢ w) (filter (λ w. not (same v w)) xs)
no_repeats same decides v [] = tt
no_repeats {T} same decides v (x ∷ xs) =
    let rest = no_repeats same decides v xs in
    let others : List T = filter (λ w. not (same v w)) xs in
    let P : Bool → Type 0 = λ b. same v x ≡ b → AllByRecursion (λ w. v ≢ w) (cond (not b) (x ∷ others) others) in
    let cases : (b : Bool) → P b =
    λ b. elim b as P [ true ↦ λ _. rest | false ↦ λ e. (λ q. true≢false (sym ((decides v x).1 q) ∙ e), rest) ] in
    cases (same v x) refl

apart_table : {T : Type 0} (same : T → T → Bool) → ((a b : T) → Decides (same a b) (a ≡ b)) → (us : List T) → Apart (table_of same us)
apart_table same decides [] = tt
apart_table same decides (u ∷ us) =
    (no_repeats same decides u (table_of same us), apart_filter (λ w. not (same u w)) (table_of same us) (apart_table same decides us))

module _ {A B : Type 0} (f : A → B) (eq : B → B → Bool) (same : A → A → Bool) (decides : (a b : A) → Decides (same a b) (a ≡ b)) (P : A → Type 0) (agree : (a b : A) → P a → P b → eq (f a) (f b) ≡ same a b) where
  -- different values have different images
  images_differ : (x y : A) → P x → P y → x ≢ y → f x ≢ f y
  images_differ x y px py other e =
      other ((decides x y).0 (sym (agree x y px py) ∙ ap (eq (f x)) (sym e) ∙ agree x x px px ∙ (decides x x).1 refl))

  one_image : (x : A) → P x → (xs : List A) → AllByRecursion P xs → AllByRecursion (λ y. x ≢ y) xs → AllByRecursion (λ z. f x ≢ z) (map f xs)
  one_image x px [] all h = tt
  one_image x px (y ∷ xs) all h = (images_differ x y px all.0 h.0, one_image x px xs all.1 h.1)

  apart_images : (xs : List A) → AllByRecursion P xs → Apart xs → Apart (map f xs)
  apart_images [] all h = tt
  apart_images (x ∷ xs) all h = (one_image x all.0 xs all.1 h.0, apart_images xs all.1 h.1)

  -- a table of values with the property has different images
  images_once : (us : List A) → AllByRecursion P (table_of same us) → Differ (map f (table_of same us))
  images_once us all =
      differ_from_apart (map f (table_of same us)) (apart_images (table_of same us) all (apart_table same decides us))

-- a table has no two equal values
once : {T : Type 0} (same : T → T → Bool) → ((a b : T) → Decides (same a b) (a ≡ b)) → (us : List T) → Differ (table_of same us)
once same decides us = differ_from_apart (table_of same us) (apart_table same decides us)

-- each table of a block holds each of its values once
pub each_once : (b : KeptBlock) → HoldsEachOnce (indexed b)
unfolding indexed_in
each_once b =
    let vs : List Visited = visited b in
    let F : KeptTables = tables_of vs in
    let closed : Closed F = tables_closed vs (block_sound F b (tables_cover vs)) in
    record {
      ip_address = once same_bytes bytes_decides (used as_address vs);
      classtype = once same_classtype classtype_decides (used as_classtype vs);
      name_rdata = once same_bytes bytes_decides (used as_bytes vs);
      qr_sig = images_once (indexed_signature F) same_block_signature same_signature signature_decides (SignatureParts F) (signature_agree F) (used as_signature vs) closed.signatures;
      qlist = images_once (map (question_index F)) same_indexes same_questions questions_decides (QuestionsParts F) (question_list_agree F) (used as_question_list vs) closed.question_lists;
      qrr = images_once (indexed_question F) same_block_question same_question question_decides (QuestionParts F) (question_agree F) (used as_question vs) closed.questions;
      rrlist = images_once (map (record_index F)) same_indexes same_records records_decides (RecordsParts F) (record_list_agree F) (used as_record_list vs) closed.record_lists;
      rr = images_once (indexed_record F) same_block_record same_record record_decides (RecordParts F) (record_agree F) (used as_record vs) closed.records;
      malformed_message_data = images_once (indexed_data F) same_block_data same_data data_decides (DataParts F) (data_agree F) (used as_data vs) closed.malformed_data;
    }
