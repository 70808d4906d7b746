-- What the lists of an item cost: 15 bytes each, and at most the weights of what they hold.
use Rattle.std.proofs.Common.{◌≡◌, ℕ, ◌+◌, ◌*◌, ◌<◌, ◌≤◌, Bool, true, false, List, [], ◌∷◌, length, map, Some, arith}
use Rattle.std.specs.Prelude.{if◌then◌else◌}
use Rattle.std.specs.List.{AllByRecursion, filter}
use Rattle.std.proofs.lemmas.List.{length-map}
use Rattle.std.proofs.lemmas.List.Sums.{length-filter, count_by-le-length}
use Rattle.cd_cbor.specs.Items.{unsigned}
use Rattle.cd_file.specs.Maps.{numbers, number, there, entries_count}
use Rattle.cd_file.specs.Blocks.{extended_entries}
use Rattle.cd_file.specs.Tables.{classtype_item}
use Rattle.cd_file.proofs.Sizes.{bytes_short}
use Rattle.cd_file.proofs.MapSizes.{question_short, rr_short, classtype_short}
use Rattle.cd_block.specs.declared.hints.Hints.{Hints}
use Rattle.cd_block.specs.declared.hints.TheConstants as hint
use Rattle.cd_block.specs.declared.kept.KeptLists.{KeptLists}
use Rattle.cd_block.specs.declared.kept.KeptQuestion.{KeptQuestion}
use Rattle.cd_block.specs.declared.kept.KeptRr.{KeptRr}
use Rattle.cd_block.specs.declared.params.Params.{Params}
use Rattle.cd_block.specs.Tables.{KeptTables, question_index, record_index, question_list_index, record_list_index, indexed_question, indexed_record, indexed_lists}
use Rattle.cd_block.specs.Traversal.{where_present, visited_bytes, visited_question, visited_questions, visited_record, visited_records, visited_lists}
use Rattle.cd_message.specs.declared.message.Question.{Question}
use Rattle.cd_message.specs.declared.message.Rr.{Rr}
use Rattle.cd_message.specs.Weights.{question_weight, record_weight}
use Rattle.cd_hints.specs.Hinted.{is_hinted, kept}
use Rattle.cd_hints.specs.Lists.{kept_question, kept_rr, is_listed_record, kept_records, kept_questions}
use Rattle.cd_size.specs.Costs.{size, value_size}
use Rattle.cd_size.specs.Ranges.{QuestionInRange}
use Rattle.cd_size.proofs.Totals.{total, total_four, total_flat_map, total_map, total_filter}
use Rattle.cd_size.proofs.Arrays.{array_of_few, numbers_total}
use Rattle.cd_size.proofs.Fits.{RrIsSmall, all_filter}
use Rattle.cd_size.proofs.Parts.{cost, kept_cost, name_short, rdata_short}

-- nine bytes for each value beside what it costs
each_with_index : {X : Type 0} (P : X → Type 0) (f w : X → ℕ) (xs : List X) → ((x : X) → P x → 9 + f x ≤ w x) →
    AllByRecursion P xs →
    9 * length xs + total f xs ≤ total w xs
each_with_index P f w [] within all = omega arith
each_with_index P f w (x ∷ xs) within all = omega (arith, within x all.0, each_with_index P f w xs within all.1)

-- a list of indexes
indexes_short : {X : Type 0} (index : X → ℕ) (xs : List X) → length xs < 0x1_0000 →
    size (numbers (map index xs)) ≤ 3 + 9 * length xs
indexes_short index xs few =
    let few_indexes : length (map index xs) < 0x1_0000 = rw (length-map xs index) few in
    omega (arith, array_of_few unsigned (map index xs) few_indexes, numbers_total (map index xs), length-map xs index)

-- a question, with its name and its type and class
question_cost : (t : KeptTables) (q : Question) → QuestionInRange q →
    9 + cost t (visited_question (kept_question q)) ≤ question_weight q
unfolding visited_question
question_cost t q range =
    let classtype : size (classtype_item (q.rtype, q.rclass)) ≤ 9 =
    classtype_short (q.rtype, q.rclass) (record { rtype = range.rtype; rclass = range.rclass }) in
    omega (arith, classtype, question_short (indexed_question t (kept_question q)), bytes_short q.name)

-- the RDATA of a record, where it is kept
rdata_cost : (t : KeptTables) (hints : Hints) (r : Rr) → length r.rdata ≤ 65535 →
    cost t (where_present visited_bytes (kept hints.rr hint.RR_RDATA (Some r.rdata))) ≤ 3 + length r.rdata
rdata_cost t hints r few =
    omega (arith, kept_cost t visited_bytes hints.rr hint.RR_RDATA (Some r.rdata), rdata_short r.rdata few)

-- a record, with its owner, its type and class, and its RDATA
record_cost : (t : KeptTables) (hints : Hints) (r : Rr) → RrIsSmall r →
    9 + cost t (visited_record (kept_rr hints r)) ≤ record_weight r
unfolding visited_record
record_cost t hints r small =
    let classtype : size (classtype_item (r.rtype, r.rclass)) ≤ 9 =
    classtype_short (r.rtype, r.rclass) (record { rtype = small.range.rtype; rclass = small.range.rclass }) in
    omega (
      arith,
      classtype,
      rr_short (indexed_record t (kept_rr hints r)),
      name_short r.owner small.owner,
      rdata_cost t hints r small.rdata,
    )

-- the bytes of a list of questions: its index in its item, and what it uses
abbrev pub questions_cost : KeptTables → List KeptQuestion → ℕ
questions_cost t qs = 12 * there (number (question_list_index t qs)) + cost t (visited_questions qs)

-- the bytes of a list of records
abbrev pub records_cost : KeptTables → List KeptRr → ℕ
records_cost t rs = 12 * there (number (record_list_index t rs)) + cost t (visited_records rs)

-- a list of kept questions
kept_questions_cost : (t : KeptTables) (qs : List Question) → length qs < 0x1_0000 → AllByRecursion QuestionInRange qs →
    questions_cost t (map kept_question qs) ≤ 15 + total question_weight qs
unfolding visited_questions
kept_questions_cost t [] few all = omega arith
kept_questions_cost t (q ∷ qs) few all =
    let uses = total_flat_map (value_size t) visited_question (map kept_question (q ∷ qs)) in
    let each = total_map (λ k. cost t (visited_question k)) kept_question (q ∷ qs) in
    let weights =
    each_with_index QuestionInRange (λ x. cost t (visited_question (kept_question x))) question_weight (q ∷ qs)
    (question_cost t) all in
    let few_kept : length (map kept_question (q ∷ qs)) < 0x1_0000 = rw (length-map (q ∷ qs) kept_question) few in
    let indexes = indexes_short (question_index t) (map kept_question (q ∷ qs)) few_kept in
    omega (arith, uses, each, weights, indexes, length-map (q ∷ qs) kept_question)

-- a list of kept records
kept_records_cost : (t : KeptTables) (hints : Hints) (rs : List Rr) → length rs < 0x1_0000 →
    AllByRecursion RrIsSmall rs →
    records_cost t (map (kept_rr hints) rs) ≤ 15 + total record_weight rs
unfolding visited_records
kept_records_cost t hints [] few all = omega arith
kept_records_cost t hints (r ∷ rs) few all =
    let uses = total_flat_map (value_size t) visited_record (map (kept_rr hints) (r ∷ rs)) in
    let each = total_map (λ k. cost t (visited_record k)) (kept_rr hints) (r ∷ rs) in
    let weights =
    each_with_index RrIsSmall (λ x. cost t (visited_record (kept_rr hints x))) record_weight (r ∷ rs)
    (record_cost t hints) all in
    let few_kept : length (map (kept_rr hints) (r ∷ rs)) < 0x1_0000 = rw (length-map (r ∷ rs) (kept_rr hints)) few in
    let indexes = indexes_short (record_index t) (map (kept_rr hints) (r ∷ rs)) few_kept in
    omega (arith, uses, each, weights, indexes, length-map (r ∷ rs) (kept_rr hints))

-- a list of records that is kept or not
records_or_not : (t : KeptTables) (hints : Hints) (b : Bool) (rs : List Rr) → length rs < 0x1_0000 →
    AllByRecursion RrIsSmall rs →
    records_cost t (if b then map (kept_rr hints) rs else []) ≤ 15 + total record_weight rs
unfolding visited_records
records_or_not t hints true rs few all = kept_records_cost t hints rs few all
records_or_not t hints false rs few all = omega arith

-- a filter keeps no more than there are
pub length_filter_few : {X : Type 0} (p : X → Bool) (xs : List X) → length (filter p xs) ≤ length xs
length_filter_few p xs = omega (arith, length-filter p xs, count_by-le-length p xs)

-- the records of a section that are kept
pub section_cost : (t : KeptTables) (p : Params) (bit : ℕ) (rs : List Rr) → length rs ≤ 65535 →
    AllByRecursion RrIsSmall rs →
    records_cost t (kept_records p bit rs) ≤ 15 + total record_weight rs
section_cost t p bit rs few all =
    let few_listed : length (filter (is_listed_record p.rr_types) rs) < 0x1_0000 =
    omega (arith, few, length_filter_few (is_listed_record p.rr_types) rs) in
    let whole =
    records_or_not t p.hints (is_hinted p.hints.qr bit) (filter (is_listed_record p.rr_types) rs) few_listed
    (all_filter RrIsSmall (is_listed_record p.rr_types) rs all) in
    omega (arith, whole, total_filter record_weight (is_listed_record p.rr_types) rs)

-- a list of questions that is kept or not
questions_or_not : (t : KeptTables) (b : Bool) (qs : List Question) → length qs < 0x1_0000 →
    AllByRecursion QuestionInRange qs →
    questions_cost t (if b then map kept_question qs else []) ≤ 15 + total question_weight qs
unfolding visited_questions
questions_or_not t true qs few all = kept_questions_cost t qs few all
questions_or_not t false qs few all = omega arith

-- what of the weight of a first question is left for it: 33, and its name
abbrev pub first_share : List Question → ℕ
first_share [] = 0
first_share (q ∷ qs) = 33 + length q.name

-- no questions
no_questions : (t : KeptTables) (b : Bool) → questions_cost t (if b then [] else []) ≤ 0
unfolding visited_questions
no_questions t true = omega arith
no_questions t false = omega arith

-- the questions after the first
pub questions_share : (t : KeptTables) (hints : Hints) (qs : List Question) → length qs ≤ 65535 →
    AllByRecursion QuestionInRange qs →
    questions_cost t (kept_questions hints qs) + first_share qs ≤ total question_weight qs
questions_share t hints [] few all =
    let none = no_questions t (is_hinted hints.qr hint.QR_QUESTIONS) in omega (arith, none)
questions_share t hints (q ∷ qs) few all =
    let few_others : length qs < 0x1_0000 = omega arith in
    let others = questions_or_not t (is_hinted hints.qr hint.QR_QUESTIONS) qs few_others all.1 in
    omega (arith, others)

-- the bytes of an extended part: the indexes of its lists, and what they use
abbrev pub lists_cost : KeptTables → KeptLists → ℕ
lists_cost t l = 12 * entries_count (extended_entries (indexed_lists t l)) + cost t (visited_lists l)

-- they are those of its four lists
pub lists_in_turn : (t : KeptTables) (l : KeptLists) → lists_cost t l ≡
    questions_cost t l.question + records_cost t l.answer + records_cost t l.authority + records_cost t l.additional
unfolding indexed_lists visited_lists
lists_in_turn t l =
    let uses = total_four (value_size t) (visited_questions l.question) (visited_records l.answer)
    (visited_records l.authority)
    (visited_records l.additional) in
    omega (arith, uses)
