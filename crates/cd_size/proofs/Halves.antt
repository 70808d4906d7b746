-- What a query and a response of an item cost: at most 195 bytes less than their message weighs.
use Rattle.std.proofs.Common.{◌≡◌, ℕ, ◌+◌, ◌≤◌, Bool, true, false, not, List, [], ◌∷◌, length, Option, Some, None, arith}
use Rattle.std.specs.Prelude.{IfSome, if◌then◌else◌, option_and_then, slice_get}
use Rattle.std.specs.List.{All, AllByRecursion, find}
use Rattle.std.specs.Option.{option_map, option_map_or, option_or}
use Rattle.std.proofs.lemmas.List.Elements.{All-head}
use Rattle.cd_name.specs.Names.{IsName}
use Rattle.cd_file.specs.Tables.{classtype_item}
use Rattle.cd_file.proofs.MapSizes.{classtype_short}
use Rattle.cd_block.specs.declared.hints.TheConstants as hint
use Rattle.cd_block.specs.declared.params.Params.{Params}
use Rattle.cd_block.specs.Tables.{KeptTables, indexed_lists}
use Rattle.cd_block.specs.Traversal.{where_present, visited_bytes, visited_classtype, visited_lists, visited_questions, visited_records}
use Rattle.cd_message.specs.declared.message.Question.{Question}
use Rattle.cd_message.specs.declared.message.Rr.{Rr}
use Rattle.cd_message.specs.declared.message.Message as dns
use Rattle.cd_message.specs.Valid.{is_opt}
use Rattle.cd_message.specs.Weights.{question_weight, record_weight, weight_of}
use Rattle.cd_edns.specs.Opts.{opt_of_record, opt_of_message}
use Rattle.cd_ident.specs.declared.event.Body.{Body}
use Rattle.cd_ident.specs.declared.event.Body.TheVariants.{Message, Payload, Nothing}
use Rattle.cd_hints.specs.Items.{first_question}
use Rattle.cd_hints.specs.Lists.{query_lists, response_lists, no_lists, without_opt, kept_questions, kept_records}
use Rattle.cd_hints.specs.Records.{message_in}
use Rattle.cd_size.specs.Costs.{size}
use Rattle.cd_size.specs.Ranges.{QuestionInRange, body_weight}
use Rattle.cd_size.proofs.Totals.{total, total_filter, sum_is_total}
use Rattle.cd_size.proofs.Fits.{MessageIsFit, RrIsSmall, small_records, ranged_questions, all_filter, all_find}
use Rattle.cd_size.proofs.Parts.{cost, name_short, rdata_short}
use Rattle.cd_size.proofs.Lists.{first_share, questions_share, section_cost, length_filter_few, questions_cost, records_cost, lists_cost, lists_in_turn}

-- what the RDATA of an OPT record takes
abbrev pub opt_share : Option Rr → ℕ
opt_share None = 0
opt_share (Some r) = 3 + length r.rdata

-- an OPT record that is found, and the others
found_apart : (b : Bool) (r : Rr) (o : Option Rr) (others : List Rr) (whole : ℕ) →
    opt_share o + total record_weight others ≤ whole → total record_weight others ≤ whole →
    opt_share (if b then Some r else o) + total record_weight (if not b then r ∷ others else others) ≤
    record_weight r + whole
found_apart true r o others whole found kept = omega arith
found_apart false r o others whole found kept = omega arith

-- the OPT record of a section, and the others
opt_apart : (rs : List Rr) → opt_share (find is_opt rs) + total record_weight (without_opt rs) ≤ total record_weight rs
opt_apart [] = omega arith
opt_apart (r ∷ rs) =
    found_apart (is_opt r) r (find is_opt rs) (without_opt rs) (total record_weight rs) (opt_apart rs)
    (total_filter record_weight (λ x. not (is_opt x)) rs)

-- the share of a message's first question
abbrev pub first_of : Option dns.Message → ℕ
first_of m = option_map_or (λ x. first_share x.questions) m 0

-- the share of a message's OPT record
abbrev pub opt_of : Option dns.Message → ℕ
opt_of m = option_map_or (λ x. opt_share (find is_opt x.additional)) m 0

-- the answers of a message that are kept
answers_cost : (t : KeptTables) (p : Params) (bit : ℕ) (m : dns.Message) → MessageIsFit m →
    records_cost t (kept_records p bit m.answers) ≤ 15 + total record_weight m.answers
answers_cost t p bit m fit =
    let valid = fit.valid.answers in
    section_cost t p bit m.answers valid.few_records (small_records m.answers valid.records_are_valid fit.range.answers)

-- the authority records of a message that are kept
authority_cost : (t : KeptTables) (p : Params) (bit : ℕ) (m : dns.Message) → MessageIsFit m →
    records_cost t (kept_records p bit m.authority) ≤ 15 + total record_weight m.authority
authority_cost t p bit m fit =
    let valid = fit.valid.authority in
    section_cost t p bit m.authority valid.few_records
    (small_records m.authority valid.records_are_valid fit.range.authority)

-- the additional records of a message are small
additional_small : (m : dns.Message) → MessageIsFit m → AllByRecursion RrIsSmall m.additional
additional_small m fit = small_records m.additional fit.valid.additional.records_are_valid fit.range.additional

-- the additional records of a response that are kept
additional_cost : (t : KeptTables) (p : Params) (bit : ℕ) (m : dns.Message) → MessageIsFit m →
    records_cost t (kept_records p bit m.additional) ≤ 15 + total record_weight m.additional
additional_cost t p bit m fit =
    section_cost t p bit m.additional fit.valid.additional.few_records (additional_small m fit)

-- those of a query that are kept, none of which is an OPT record
without_opt_cost : (t : KeptTables) (p : Params) (bit : ℕ) (m : dns.Message) → MessageIsFit m →
    records_cost t (kept_records p bit (without_opt m.additional)) ≤ 15 + total record_weight (without_opt m.additional)
without_opt_cost t p bit m fit =
    let all = fit.valid.additional.few_records in
    let few : length (without_opt m.additional) ≤ 65535 =
    omega (arith, all, length_filter_few (λ x. not (is_opt x)) m.additional) in
    section_cost t p bit (without_opt m.additional) few
    (all_filter RrIsSmall (λ x. not (is_opt x)) m.additional (additional_small m fit))

-- the questions of a message after the first
questions_after_first : (t : KeptTables) (p : Params) (m : dns.Message) → MessageIsFit m →
    questions_cost t (kept_questions p.hints m.questions) + first_share m.questions ≤ total question_weight m.questions
questions_after_first t p m fit =
    questions_share t p.hints m.questions fit.valid.few_questions (ranged_questions m.questions fit.range.questions)

-- the weight of a message as sums by recursion
weight_in_turn : (m : dns.Message) →
    weight_of m ≡ 256 + total question_weight m.questions + total record_weight m.answers
    + total record_weight m.authority + total record_weight m.additional
weight_in_turn m =
    omega (
      arith,
      sum_is_total question_weight m.questions,
      sum_is_total record_weight m.answers,
      sum_is_total record_weight m.authority,
      sum_is_total record_weight m.additional,
    )

-- a query's message
query_message_cost : (t : KeptTables) (p : Params) (m : dns.Message) → MessageIsFit m →
    lists_cost t (query_lists p m) + (first_share m.questions + opt_share (find is_opt m.additional)) + 195 ≤
    weight_of m
query_message_cost t p m fit =
    omega (
      arith,
      weight_in_turn m,
      lists_in_turn t (query_lists p m),
      questions_after_first t p m fit,
      answers_cost t p hint.QR_QUERY_ANSWER m fit,
      authority_cost t p hint.QR_QUERY_AUTHORITY m fit,
      without_opt_cost t p hint.QR_QUERY_ADDITIONAL m fit,
      opt_apart m.additional,
    )

-- a response's message
response_message_cost : (t : KeptTables) (p : Params) (m : dns.Message) → MessageIsFit m →
    lists_cost t (response_lists p m) + first_share m.questions + 195 ≤ weight_of m
response_message_cost t p m fit =
    omega (
      arith,
      weight_in_turn m,
      lists_in_turn t (response_lists p m),
      questions_after_first t p m fit,
      answers_cost t p hint.QR_RESPONSE_ANSWER m fit,
      authority_cost t p hint.QR_RESPONSE_AUTHORITY m fit,
      additional_cost t p hint.QR_RESPONSE_ADDITIONAL m fit,
    )

-- no lists cost nothing
no_lists_cost : (t : KeptTables) → lists_cost t no_lists ≤ 0
unfolding indexed_lists visited_lists visited_questions visited_records
no_lists_cost t = omega arith

-- what a query costs
abbrev pub query_cost : KeptTables → Params → Option dns.Message → ℕ
query_cost t p m = lists_cost t (option_map_or (query_lists p) m no_lists) + (first_of m + opt_of m)

-- what a response costs
abbrev pub response_cost : KeptTables → Params → Option dns.Message → ℕ
response_cost t p m = lists_cost t (option_map_or (response_lists p) m no_lists) + first_of m

-- an absent query costs nothing
pub no_query_cost : (t : KeptTables) (p : Params) → query_cost t p None ≤ 0
no_query_cost t p = omega (arith, no_lists_cost t)

-- nor does an absent response
pub no_response_cost : (t : KeptTables) (p : Params) → response_cost t p None ≤ 0
no_response_cost t p = omega (arith, no_lists_cost t)

-- the body of a query
pub query_body_cost : (t : KeptTables) (p : Params) (body : Body) → IfSome (message_in body) MessageIsFit →
    query_cost t p (message_in body) + 195 ≤ body_weight body
query_body_cost t p (Message m) fit = omega (arith, query_message_cost t p m fit)
query_body_cost t p (Payload bytes) fit = omega (arith, no_query_cost t p)
query_body_cost t p Nothing fit = omega (arith, no_query_cost t p)

-- the body of a response
pub response_body_cost : (t : KeptTables) (p : Params) (body : Body) → IfSome (message_in body) MessageIsFit →
    response_cost t p (message_in body) + 195 ≤ body_weight body
response_body_cost t p (Message m) fit = omega (arith, response_message_cost t p m fit)
response_body_cost t p (Payload bytes) fit = omega (arith, no_response_cost t p)
response_body_cost t p Nothing fit = omega (arith, no_response_cost t p)

-- a question of a valid message
pub record QuestionIsFit (q : Question) : Type 0 where
  pub name : length q.name ≤ 255
  pub range : QuestionInRange q

-- what a lead question costs, with its type and class
abbrev pub lead_share : Option Question → ℕ
lead_share None = 0
lead_share (Some q) = 11 + length q.name

-- the first question of a valid message is fit
first_fits : (qs : List Question) → All (λ q. IsName q.name) qs → All QuestionInRange qs →
    IfSome (slice_get qs 0) QuestionIsFit
first_fits [] names range = tt
first_fits (q ∷ qs) names range =
    let name =
    All-head (λ x. IsName x.name) q qs names in record { name = name.1; range = All-head QuestionInRange q qs range }

-- so it is where there is a message
pub first_question_fits : (m : Option dns.Message) → IfSome m MessageIsFit →
    IfSome (option_and_then first_question m) QuestionIsFit
first_question_fits None fit = tt
first_question_fits (Some m) fit = first_fits m.questions fit.valid.names_are_names fit.range.questions

-- of two questions, the first that is there
pub either_fits : (a b : Option Question) → IfSome a QuestionIsFit → IfSome b QuestionIsFit →
    IfSome (option_or a b) QuestionIsFit
either_fits None b here there = there
either_fits (Some q) b here there = here

-- it costs no more than both
pub either_share : (a b : Option Question) → lead_share (option_or a b) ≤ lead_share a + lead_share b
either_share None b = omega arith
either_share (Some q) b = omega arith

-- the first question of some
first_of_list : (qs : List Question) → lead_share (slice_get qs 0) ≤ first_share qs
first_of_list [] = omega arith
first_of_list (q ∷ qs) = omega arith

-- the first question of a message
pub first_of_message : (m : Option dns.Message) → lead_share (option_and_then first_question m) ≤ first_of m
first_of_message None = omega arith
first_of_message (Some m) = first_of_list m.questions

-- a lead question, with its type and class
pub lead_cost : (t : KeptTables) (q : Option Question) → IfSome q QuestionIsFit →
    cost t (where_present visited_classtype (option_map (λ x. (x.rtype, x.rclass)) q))
    + cost t (where_present visited_bytes (option_map (λ x. x.name) q)) ≤ lead_share q
lead_cost t None fit = omega arith
lead_cost t (Some q) fit =
    let classtype : size (classtype_item (q.rtype, q.rclass)) ≤ 9 =
    classtype_short (q.rtype, q.rclass) (record { rtype = fit.range.rtype; rclass = fit.range.rclass }) in
    omega (arith, classtype, name_short q.name fit.name)

-- the options of an OPT record
found_opt_cost : (t : KeptTables) (o : Option Rr) → IfSome o RrIsSmall →
    cost t (where_present visited_bytes (option_map (λ x. x.rdata) (option_map opt_of_record o))) ≤ opt_share o
found_opt_cost t None small = omega arith
found_opt_cost t (Some r) small = omega (arith, rdata_short r.rdata small.rdata)

-- the options of a query's OPT record
pub opt_cost : (t : KeptTables) (m : Option dns.Message) → IfSome m MessageIsFit →
    cost t (where_present visited_bytes (option_map (λ x. x.rdata) (option_and_then opt_of_message m))) ≤ opt_of m
opt_cost t None fit = omega arith
opt_cost t (Some m) fit =
    found_opt_cost t (find is_opt m.additional) (all_find RrIsSmall is_opt m.additional (additional_small m fit))
