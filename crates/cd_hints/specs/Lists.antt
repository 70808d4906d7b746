-- The questions and resource records that are kept, and those that are dropped (RFC 8618 7.3.2.4.2).
use Rattle.std.specs.Prelude.{ℕ, ◌+◌, Bool, not, nat_eq, List, [], map, filter, drop, if◌then◌else◌, Some}
use Rattle.std.specs.List.{list_any, count_by}
use Rattle.std.specs.Option.{option_map_or}
use Rattle.cd_block.specs.declared.hints.Hints.{Hints}
use Rattle.cd_block.specs.declared.hints.TheConstants as hint
use Rattle.cd_block.specs.declared.kept.KeptQuestion.{KeptQuestion}
use Rattle.cd_block.specs.declared.kept.KeptRr.{KeptRr}
use Rattle.cd_block.specs.declared.kept.KeptLists.{KeptLists}
use Rattle.cd_block.specs.declared.params.Params.{Params}
use Rattle.cd_message.specs.declared.message.Question.{Question}
use Rattle.cd_message.specs.declared.message.Rr.{Rr}
use Rattle.cd_message.specs.declared.message.Message.{Message}
use Rattle.cd_message.specs.Valid.{is_opt}
use Rattle.cd_hints.specs.Hinted.{is_hinted, kept}
use Rattle.cd_hints.specs.Records.{RecordParts, query_message, response_message}

-- a question, whole
abbrev pub kept_question : Question → KeptQuestion
kept_question q = record { name = q.name; rtype = q.rtype; rclass = q.rclass }

-- a resource record, with its TTL and its RDATA where their hints are set
abbrev pub kept_rr : Hints → Rr → KeptRr
kept_rr hints r = record {
  name = r.owner;
  rtype = r.rtype;
  rclass = r.rclass;
  ttl = kept hints.rr hint.RR_TTL (Some r.ttl);
  rdata = kept hints.rr hint.RR_RDATA (Some r.rdata);
}

-- the type of a resource record is one of those that are listed
abbrev pub is_listed_record : List ℕ → Rr → Bool
is_listed_record types r = list_any (λ t. nat_eq t r.rtype) types

-- the resource records that are not OPT records
abbrev pub without_opt : List Rr → List Rr
without_opt records = filter (λ r. not (is_opt r)) records

-- the second and later questions, where their hint is set
abbrev pub kept_questions : Hints → List Question → List KeptQuestion
kept_questions hints questions =
    if is_hinted hints.qr hint.QR_QUESTIONS then map kept_question (drop 1 questions) else []

-- the resource records whose types are listed, in their order, where the hint of their list is set
abbrev pub kept_records : Params → ℕ → List Rr → List KeptRr
kept_records p hint records =
    if is_hinted p.hints.qr hint then map (kept_rr p.hints) (filter (is_listed_record p.rr_types) records) else []

-- the lists of a query; its OPT record is in its signature, and not here
abbrev pub query_lists : Params → Message → KeptLists
query_lists p m = record {
  question = kept_questions p.hints m.questions;
  answer = kept_records p hint.QR_QUERY_ANSWER m.answers;
  authority = kept_records p hint.QR_QUERY_AUTHORITY m.authority;
  additional = kept_records p hint.QR_QUERY_ADDITIONAL (without_opt m.additional);
}

-- the lists of a response
abbrev pub response_lists : Params → Message → KeptLists
response_lists p m = record {
  question = kept_questions p.hints m.questions;
  answer = kept_records p hint.QR_RESPONSE_ANSWER m.answers;
  authority = kept_records p hint.QR_RESPONSE_AUTHORITY m.authority;
  additional = kept_records p hint.QR_RESPONSE_ADDITIONAL m.additional;
}

-- no list
abbrev pub no_lists : KeptLists
no_lists = record { question = []; answer = []; authority = []; additional = [] }

-- so many of these resource records have a type that is not listed
abbrev pub unlisted_count : List ℕ → List Rr → ℕ
unlisted_count types records = count_by (λ r. not (is_listed_record types r)) records

-- the resource records of a query that are dropped for their type, whatever the hints are; its OPT record is none of
-- them
abbrev pub query_dropped : List ℕ → Message → ℕ
query_dropped types m =
    unlisted_count types m.answers + unlisted_count types m.authority + unlisted_count types (without_opt m.additional)

-- the resource records of a response that are dropped for their type
abbrev pub response_dropped : List ℕ → Message → ℕ
response_dropped types m =
    unlisted_count types m.answers + unlisted_count types m.authority + unlisted_count types m.additional

-- the resource records in the messages of a record of events that are dropped for their type
abbrev pub dropped : List ℕ → RecordParts → ℕ
dropped types r = option_map_or (query_dropped types) (query_message r) 0
    + option_map_or (response_dropped types) (response_message r) 0
