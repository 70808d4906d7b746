-- The names in the block of a run are names, as those of valid messages are.
use Rattle.std.proofs.Common.{ℕ, Bool, true, false, List, [], ◌∷◌, map, drop, Option, Some, None}
use Rattle.std.specs.Prelude.{IfSome, filter, option_and_then, slice_get, if◌then◌else◌}
use Rattle.std.specs.Option.{option_map_or, option_or}
use Rattle.std.specs.List.{All, AllByRecursion}
use Rattle.std.proofs.lemmas.List.Elements.{All-head, All-tail}
use Rattle.cd_name.specs.Names.{IsName}
use Rattle.cd_message.specs.declared.message.Question.{Question}
use Rattle.cd_message.specs.declared.message.Rr.{Rr}
use Rattle.cd_message.specs.declared.message.Message as dns
use Rattle.cd_message.specs.Valid.{ValidRecord}
use Rattle.cd_block.specs.Naming.{QuestionsNamed, RecordsNamed, ListsNamed, ItemNamed}
use Rattle.cd_block.specs.declared.hints.Hints.{Hints}
use Rattle.cd_block.specs.declared.hints.TheConstants as hint
use Rattle.cd_block.specs.declared.params.Params.{Params}
use Rattle.cd_block.specs.declared.stamp.Stamp.{Stamp}
use Rattle.cd_hints.specs.Hinted.{is_hinted}
use Rattle.cd_hints.specs.Items.{kept_item, lead_question, first_question}
use Rattle.cd_hints.specs.Lists.{kept_question, kept_rr, is_listed_record, kept_records, kept_questions, without_opt, query_lists, response_lists, no_lists}
use Rattle.cd_hints.specs.Records.{RecordParts, pair, unmatched_query, unmatched_response, malformed, discarded, query_message, response_message, is_item}
use Rattle.cd_record.specs.Blocks.{kept_items}
use Rattle.cd_record.specs.Earliest.{earliest_time}
use Rattle.cd_size.specs.Laws.{BlocksAreNamed}
use Rattle.cd_size.specs.Ranges.{EventInRange, RecordInRange}
use Rattle.cd_size.proofs.Fits.{MessageIsFit, message_is_fit, all_filter}
use Rattle.cd_size.proofs.SignatureRanges.{IsFit, kept_within, mapped}
use Rattle.cd_size.proofs.Runs.{pair_fits, only_event}
use Rattle.cd_size.proofs.TablesReadable.{map_all}

-- the name of a question, and the owner of a resource record
abbrev IsNamed : Question → Type 0
IsNamed q = IsName q.name

abbrev IsOwned : Rr → Type 0
IsOwned r = IsName r.owner

-- the questions after the first
questions_named : (hints : Hints) (qs : List Question) → All IsNamed qs → QuestionsNamed (kept_questions hints qs)
questions_named hints qs names = chosen (is_hinted hints.qr hint.QR_QUESTIONS) qs names
  where
    each : (xs : List Question) → All IsNamed xs → AllByRecursion IsNamed xs
    each [] all = tt
    each (x ∷ xs) all = (All-head IsNamed x xs all, each xs (All-tail IsNamed x xs all))

    after_first : (xs : List Question) → AllByRecursion IsNamed xs → AllByRecursion IsNamed (drop 1 xs)
    after_first [] all = tt
    after_first (x ∷ xs) all = all.1

    chosen : (b : Bool) (xs : List Question) → All IsNamed xs → QuestionsNamed (if b then map kept_question (drop 1 xs) else [])
    chosen true xs all = map_all IsNamed (λ q. IsName q.name) kept_question (λ q h. h) (drop 1 xs) (after_first xs (each xs all))
    chosen false xs all = tt

-- the resource records of a section
owners : (rs : List Rr) → All ValidRecord rs → AllByRecursion IsOwned rs
owners [] valid = tt
owners (r ∷ rs) valid = ((All-head ValidRecord r rs valid).owner_is_name, owners rs (All-tail ValidRecord r rs valid))

records_named : (p : Params) (bit : ℕ) (rs : List Rr) → AllByRecursion IsOwned rs → RecordsNamed (kept_records p bit rs)
records_named p bit rs owned = chosen (is_hinted p.hints.qr bit) (filter (is_listed_record p.rr_types) rs) (all_filter IsOwned (is_listed_record p.rr_types) rs owned)
  where
    chosen : (b : Bool) (xs : List Rr) → AllByRecursion IsOwned xs → RecordsNamed (if b then map (kept_rr p.hints) xs else [])
    chosen true xs all = map_all IsOwned (λ r. IsName r.name) (kept_rr p.hints) (λ r h. h) xs all
    chosen false xs all = tt

-- the lists of a query and of a response
query_named : (p : Params) (m : Option dns.Message) → IfSome m MessageIsFit → ListsNamed (option_map_or (query_lists p) m no_lists)
query_named p None fit = record { questions = tt; answers = tt; authorities = tt; additionals = tt }
query_named p (Some m) fit = record {
  questions = questions_named p.hints m.questions fit.valid.names_are_names;
  answers = records_named p _ m.answers (owners m.answers fit.valid.answers.records_are_valid);
  authorities = records_named p _ m.authority (owners m.authority fit.valid.authority.records_are_valid);
  additionals = records_named p _ (without_opt m.additional) (all_filter IsOwned _ m.additional (owners m.additional fit.valid.additional.records_are_valid));
}

response_named : (p : Params) (m : Option dns.Message) → IfSome m MessageIsFit → ListsNamed (option_map_or (response_lists p) m no_lists)
response_named p None fit = record { questions = tt; answers = tt; authorities = tt; additionals = tt }
response_named p (Some m) fit = record {
  questions = questions_named p.hints m.questions fit.valid.names_are_names;
  answers = records_named p _ m.answers (owners m.answers fit.valid.answers.records_are_valid);
  authorities = records_named p _ m.authority (owners m.authority fit.valid.authority.records_are_valid);
  additionals = records_named p _ m.additional (owners m.additional fit.valid.additional.records_are_valid);
}

-- the lead question
first_of : (qs : List Question) → All IsNamed qs → IfSome (slice_get qs 0) IsNamed
first_of [] names = tt
first_of (q ∷ qs) names = All-head IsNamed q qs names

first_named : (m : Option dns.Message) → IfSome m MessageIsFit → IfSome (option_and_then first_question m) IsNamed
first_named None fit = tt
first_named (Some m) fit = first_of m.questions fit.valid.names_are_names

either_named : (a b : Option Question) → IfSome a IsNamed → IfSome b IsNamed → IfSome (option_or a b) IsNamed
either_named None b here there = there
either_named (Some q) b here there = here

-- an item
item_named : (p : Params) (earliest : Stamp) (r : RecordParts) → IsFit r → ItemNamed (kept_item p earliest r)
item_named p earliest r fit = record {
  lead = kept_within IsName _ _ _
      (mapped IsNamed IsName (λ q. q.name) (lead_question r) (λ q h. h)
      (either_named (option_and_then first_question (query_message r)) (option_and_then first_question (response_message r))
      (first_named (query_message r) fit.query) (first_named (response_message r) fit.response)));
  query = query_named p (query_message r) fit.query;
  response = response_named p (response_message r) fit.response;
}

-- the items of a run
items_named : (p : Params) (earliest : Stamp) (run : List RecordParts) → All RecordInRange run →
    AllByRecursion ItemNamed (map (kept_item p earliest) (filter is_item run))
items_named p earliest [] all = tt
items_named p earliest (pair query response ∷ run) all =
    let events = All-head RecordInRange (pair query response) run all in
    let q = All-head EventInRange query (response ∷ []) events in
    let r = only_event response (All-tail EventInRange query (response ∷ []) events) in (
      item_named p earliest (pair query response) (pair_fits query response q r),
      items_named p earliest run (All-tail RecordInRange (pair query response) run all),
    )
items_named p earliest (unmatched_query e ∷ run) all =
    let range = only_event e (All-head RecordInRange (unmatched_query e) run all) in
    let message = message_is_fit e.kind e.body range.has_body range.body in (
      item_named p earliest (unmatched_query e) (record { main = range; main_fits = message; query_event = range; query = message; response = tt }),
      items_named p earliest run (All-tail RecordInRange (unmatched_query e) run all),
    )
items_named p earliest (unmatched_response e ∷ run) all =
    let range = only_event e (All-head RecordInRange (unmatched_response e) run all) in
    let message = message_is_fit e.kind e.body range.has_body range.body in (
      item_named p earliest (unmatched_response e) (record { main = range; main_fits = message; query_event = tt; query = tt; response = message }),
      items_named p earliest run (All-tail RecordInRange (unmatched_response e) run all),
    )
items_named p earliest (malformed e ∷ run) all = items_named p earliest run (All-tail RecordInRange (malformed e) run all)
items_named p earliest (discarded e ∷ run) all = items_named p earliest run (All-tail RecordInRange (discarded e) run all)

block_named : (p : Params) (run : List RecordParts) (earliest : Option Stamp) → All RecordInRange run →
    AllByRecursion ItemNamed (option_map_or (kept_items p run) earliest [])
block_named p run None all = tt
block_named p run (Some s) all = items_named p s run all

-- the law
pub blocks_named : BlocksAreNamed
blocks_named p run all = block_named p run (earliest_time p.ticks run) all
