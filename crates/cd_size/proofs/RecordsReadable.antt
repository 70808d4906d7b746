-- What is kept of a record is read back: its numbers, and each value that it uses.
use Rattle.std.proofs.Common.{◌≡◌, ℕ, zero, suc, ◌/◌, ◌<◌, ◌≤◌, ◌^◌, Bool, true, false, pos, negsuc, List, [], ◌∷◌, ◌++◌, length, map, drop, Option, Some, None, refl, arith}
use Rattle.std.specs.Prelude.{IfSome, ◌-ℤ◌, cond, filter, option_and_then, if◌then◌else◌}
use Rattle.std.specs.List.{All, AllByRecursion, flat_map, find}
use Rattle.std.specs.Option.{option_map, option_map_or}
use Rattle.std.proofs.Math.Nat.{div-le_self}
use Rattle.cd_packet.specs.Time.{end_of_time}
use Rattle.cd_message.specs.declared.message.Question.{Question}
use Rattle.cd_message.specs.declared.message.Rr.{Rr}
use Rattle.cd_message.specs.declared.message.Message as dns
use Rattle.cd_message.specs.Valid.{is_opt}
use Rattle.cd_edns.specs.Opts.{full_rcode_of}
use Rattle.cd_ident.specs.Events.{EventParts}
use Rattle.cd_ident.specs.Headers.{opcode_of}
use Rattle.cd_block.specs.declared.hints.Hints.{Hints}
use Rattle.cd_block.specs.declared.hints.TheConstants as hint
use Rattle.cd_block.specs.declared.params.Params.{Params}
use Rattle.cd_block.specs.declared.stamp.Stamp.{Stamp}
use Rattle.cd_block.specs.declared.kept.KeptQuestion.{KeptQuestion}
use Rattle.cd_block.specs.declared.kept.KeptRr.{KeptRr}
use Rattle.cd_block.specs.declared.kept.KeptLists.{KeptLists}
use Rattle.cd_block.specs.declared.kept.KeptItem.{KeptItem}
use Rattle.cd_block.specs.Equality.{same_bytes, same_classtype, same_question, same_questions, same_record, same_records, same_signature}
use Rattle.cd_block.specs.Traversal.{Visited, where_present, visited_address, visited_classtype, visited_bytes, visited_signature, visited_question, visited_questions, visited_record, visited_records, visited_lists, visited_item}
use Rattle.cd_block.specs.Tables.{KeptTables, question_list_index, record_list_index, indexed_signature, indexed_question, indexed_record, indexed_lists, indexed_item}
use Rattle.cd_hints.specs.Hinted.{is_hinted}
use Rattle.cd_hints.specs.Items.{kept_item, kept_signature, lead_question, first_question, main_message, response_delay, time_offset}
use Rattle.cd_hints.specs.Lists.{kept_question, kept_rr, is_listed_record, kept_records, kept_questions, without_opt, query_lists, response_lists, no_lists}
use Rattle.cd_hints.specs.Records.{RecordParts, pair, unmatched_query, unmatched_response, malformed, discarded, main_event, query_of, response_of, query_message, response_message}
use Rattle.cd_hints.specs.Ticks.{tick_of, second}
use Rattle.cd_file.specs.Ranges.{ClasstypeInRange}
use Rattle.cd_file.specs.Readable.{IsNumber, IsIndex, IsSigned, ReadableSignature, ReadableLists, ReadableItem}
use Rattle.cd_size.specs.Ranges.{QuestionInRange, EventIsTimed}
use Rattle.cd_size.proofs.Fits.{MessageIsFit, RrIsSmall, small_records, ranged_questions, all_filter}
use Rattle.cd_size.proofs.SignatureRanges.{IsFit, kept_within, mapped, found_opt, ext_rcode_short, signature_in_range}
use Rattle.cd_size.proofs.Halves.{QuestionIsFit, first_question_fits, either_fits}
use Rattle.cd_size.proofs.Items.{item_in_range, client_kept, server_kept}
use Rattle.cd_size.proofs.TablesReadable.{IsReadable, AreFew, map_all, index_small, indexes_small, where_indexed}

-- values after others
pub all_append : {X : Type 0} (P : X → Type 0) (xs ys : List X) → AllByRecursion P xs → AllByRecursion P ys →
    AllByRecursion P (xs ++ ys)
all_append P [] ys all more = more
all_append P (x ∷ xs) ys all more = (all.0, all_append P xs ys all.1 more)

-- the values that each of others uses
pub all_flat_map : {X Y : Type 0} (P : X → Type 0) (Q : Y → Type 0) (f : X → List Y) → ((x : X) → P x → AllByRecursion Q (f x)) →
    (xs : List X) → AllByRecursion P xs → AllByRecursion Q (flat_map f xs)
all_flat_map P Q f turn [] all = tt
all_flat_map P Q f turn (x ∷ xs) all = all_append Q (f x) (flat_map f xs) (turn x all.0) (all_flat_map P Q f turn xs all.1)

-- the values of a part that may be absent
all_where : {X : Type 0} (P : X → Type 0) (Q : Visited → Type 0) (visit : X → List Visited) → ((x : X) → P x → AllByRecursion Q (visit x)) →
    (o : Option X) → IfSome o P → AllByRecursion Q (where_present visit o)
all_where P Q visit turn None h = tt
all_where P Q visit turn (Some x) h = turn x h

-- a difference of two times
signed_either : (b : Bool) (x y : ℕ) → x < 2 ^ 63 → y < 2 ^ 63 → IsSigned (cond b (negsuc x) (pos y))
signed_either true x y h k = h
signed_either false x y h k = k

difference_signed : (a b : ℕ) → a < 2 ^ 63 → b < 2 ^ 63 → IsSigned (pos a -ℤ pos b)
difference_signed a zero h k = omega (arith, h)
difference_signed a (suc b) h k = signed_either _ _ _ (omega (arith, h, k)) (omega (arith, h, k))

-- a tick is no more than its time
pub tick_low : (ticks : ℕ) (e : EventParts) → EventIsTimed e → tick_of ticks e.time < 2 ^ 63
tick_low ticks e timed =
    let less : tick_of ticks e.time ≤ e.time = div-le_self e.time (second / ticks) in
    let early : e.time < end_of_time = timed.time in omega (arith, less, early)

-- a time offset
pub offset_small : (p : Params) (earliest : Stamp) (e : EventParts) → EventIsTimed e → time_offset p earliest e < 2 ^ 64
offset_small p earliest e timed = omega (arith, tick_low p.ticks e timed)

-- the times and the sizes of the events of a record
pub record IsTimed (r : RecordParts) : Type 0 where
  pub main : EventIsTimed (main_event r)
  pub query : IfSome (query_of r) EventIsTimed
  pub response : IfSome (response_of r) EventIsTimed

delay_signed : (p : Params) (r : RecordParts) → IsTimed r → IfSome (response_delay p r) IsSigned
delay_signed p (pair query response) timed =
    difference_signed (tick_of p.ticks response.time) (tick_of p.ticks query.time) (tick_low p.ticks response timed.response)
    (tick_low p.ticks query timed.query)
delay_signed p (unmatched_query e) timed = tt
delay_signed p (unmatched_response e) timed = tt
delay_signed p (malformed e) timed = tt
delay_signed p (discarded e) timed = tt

-- an opcode has four bits, and an RCODE twelve
opcode_low : (m : Option dns.Message) → IfSome (option_map (λ x. opcode_of x.bits) m) (λ n. n < 16)
opcode_low None = tt
opcode_low (Some m) = omega arith

rcode_low : (m : dns.Message) → MessageIsFit m → full_rcode_of m < 0x1000
rcode_low m fit = omega (arith, ext_rcode_short (find is_opt m.additional) (found_opt m fit))

-- the type and the class of a record's lead question
question_classtype : (q : Question) → QuestionIsFit q → ClasstypeInRange (q.rtype, q.rclass)
question_classtype q fit = record { rtype = fit.range.rtype; rclass = fit.range.rclass }

lead_classtype : (r : RecordParts) → IsFit r → IfSome (option_map (λ q. (q.rtype, q.rclass)) (lead_question r)) ClasstypeInRange
lead_classtype r fit =
    mapped QuestionIsFit ClasstypeInRange (λ q. (q.rtype, q.rclass)) (lead_question r) question_classtype
    (either_fits (option_and_then first_question (query_message r)) (option_and_then first_question (response_message r))
    (first_question_fits (query_message r) fit.query) (first_question_fits (response_message r) fit.response))

-- a kept question, and a kept resource record
abbrev QuestionIsKept : KeptQuestion → Type 0
QuestionIsKept q = ClasstypeInRange (q.rtype, q.rclass)

record RecordIsKept (r : KeptRr) : Type 0 where
  classtype : ClasstypeInRange (r.rtype, r.rclass)
  ttl : IsIndex r.ttl

-- the lists of an extended part
record ListsAreKept (l : KeptLists) : Type 0 where
  question : AllByRecursion QuestionIsKept l.question
  answer : AllByRecursion RecordIsKept l.answer
  authority : AllByRecursion RecordIsKept l.authority
  additional : AllByRecursion RecordIsKept l.additional

module _ (t : KeptTables) (few : AreFew t) where
  question_used : (q : KeptQuestion) → QuestionIsKept q → AllByRecursion (IsReadable t) (visited_question q)
  unfolding visited_question indexed_question
  question_used q h = (
    record { name = index_small same_bytes t.name_rdata q.name few.name_rdata; classtype = index_small same_classtype t.classtype (q.rtype, q.rclass) few.classtype },
    (tt, (h, tt)),
  )

  questions_used : (qs : List KeptQuestion) → AllByRecursion QuestionIsKept qs → AllByRecursion (IsReadable t) (visited_questions qs)
  unfolding visited_questions
  questions_used [] all = tt
  questions_used (q ∷ qs) all =
      (indexes_small same_question t.qrr few.qrr (q ∷ qs), all_flat_map QuestionIsKept (IsReadable t) visited_question question_used (q ∷ qs) all)

  bytes_all : (o : Option (List ℕ)) → AllByRecursion (IsReadable t) (where_present visited_bytes o)
  bytes_all None = tt
  bytes_all (Some x) = (tt, tt)

  record_used : (r : KeptRr) → RecordIsKept r → AllByRecursion (IsReadable t) (visited_record r)
  unfolding visited_record indexed_record
  record_used r h = (
    record {
      name = index_small same_bytes t.name_rdata r.name few.name_rdata;
      classtype = index_small same_classtype t.classtype (r.rtype, r.rclass) few.classtype;
      ttl = h.ttl;
      rdata = where_indexed same_bytes t.name_rdata few.name_rdata r.rdata;
    },
    (tt, (h.classtype, bytes_all r.rdata)),
  )

  records_used : (rs : List KeptRr) → AllByRecursion RecordIsKept rs → AllByRecursion (IsReadable t) (visited_records rs)
  unfolding visited_records
  records_used [] all = tt
  records_used (r ∷ rs) all =
      (indexes_small same_record t.rr few.rr (r ∷ rs), all_flat_map RecordIsKept (IsReadable t) visited_record record_used (r ∷ rs) all)

  lists_used : (l : KeptLists) → ListsAreKept l → AllByRecursion (IsReadable t) (visited_lists l)
  unfolding visited_lists
  lists_used l h =
      all_append (IsReadable t) _ _
      (all_append (IsReadable t) _ _
      (all_append (IsReadable t) _ _ (questions_used l.question h.question) (records_used l.answer h.answer)) (records_used l.authority h.authority))
      (records_used l.additional h.additional)

  question_list : (qs : List KeptQuestion) → IsIndex (question_list_index t qs)
  question_list [] = tt
  question_list (q ∷ qs) = index_small same_questions t.qlist (q ∷ qs) few.qlist

  record_list : (rs : List KeptRr) → IsIndex (record_list_index t rs)
  record_list [] = tt
  record_list (r ∷ rs) = index_small same_records t.rrlist (r ∷ rs) few.rrlist

  lists_readable : (l : KeptLists) → ReadableLists (indexed_lists t l)
  unfolding indexed_lists
  lists_readable l = record {
    question = question_list l.question;
    answer = record_list l.answer;
    authority = record_list l.authority;
    additional = record_list l.additional;
  }

  -- a kept signature
  signature_readable : (p : Params) (r : RecordParts) → IsFit r → ReadableSignature (indexed_signature t (kept_signature p r))
  unfolding indexed_signature
  signature_readable p r fit = record {
    ranges = signature_in_range t p r fit;
    server_address = where_indexed same_bytes t.ip_address few.ip_address (kept_signature p r).server_address;
    opcode = kept_within (λ n. n < 16) _ _ _ (opcode_low (main_message r));
    query_rcode = kept_within (λ n. n < 0x1000) _ _ _ (mapped MessageIsFit (λ n. n < 0x1000) full_rcode_of (query_message r) rcode_low fit.query);
    classtype = where_indexed same_classtype t.classtype few.classtype (kept_signature p r).classtype;
    opt_rdata = where_indexed same_bytes t.name_rdata few.name_rdata (kept_signature p r).opt_rdata;
    response_rcode = kept_within (λ n. n < 0x1000) _ _ _ (mapped MessageIsFit (λ n. n < 0x1000) full_rcode_of (response_message r) rcode_low fit.response);
  }

  classtype_used : (o : Option (ℕ × ℕ)) → IfSome o ClasstypeInRange → AllByRecursion (IsReadable t) (where_present visited_classtype o)
  classtype_used None h = tt
  classtype_used (Some c) h = (h, tt)

  pub address_used : (o : Option (List ℕ)) → IfSome o (λ content. length content ≤ 16) → AllByRecursion (IsReadable t) (where_present visited_address o)
  address_used None h = tt
  address_used (Some content) h = (h, tt)

  -- it and what it uses
  signature_used : (p : Params) (r : RecordParts) → IsFit r → AllByRecursion (IsReadable t) (visited_signature (kept_signature p r))
  unfolding visited_signature
  signature_used p r fit = (
    signature_readable p r fit,
    all_append (IsReadable t) _ _
        (all_append (IsReadable t) _ _ (address_used (kept_signature p r).server_address (server_kept p r fit))
        (classtype_used (kept_signature p r).classtype (kept_within ClasstypeInRange _ _ _ (lead_classtype r fit))))
        (bytes_all (kept_signature p r).opt_rdata),
  )

-- what is kept of the questions after the first
questions_kept : (hints : Hints) (qs : List Question) → All QuestionInRange qs → AllByRecursion QuestionIsKept (kept_questions hints qs)
questions_kept hints qs range = chosen (is_hinted hints.qr hint.QR_QUESTIONS) qs (ranged_questions qs range)
  where
    after_first : (xs : List Question) → AllByRecursion QuestionInRange xs → AllByRecursion QuestionInRange (drop 1 xs)
    after_first [] all = tt
    after_first (x ∷ xs) all = all.1

    chosen : (b : Bool) (xs : List Question) → AllByRecursion QuestionInRange xs → AllByRecursion QuestionIsKept (if b then map kept_question (drop 1 xs) else [])
    chosen true xs all =
        map_all QuestionInRange QuestionIsKept kept_question (λ q h. record { rtype = h.rtype; rclass = h.rclass }) (drop 1 xs) (after_first xs all)
    chosen false xs all = tt

-- a resource record
record_kept : (hints : Hints) (r : Rr) → RrIsSmall r → RecordIsKept (kept_rr hints r)
record_kept hints r small = record {
  classtype = record { rtype = small.range.rtype; rclass = small.range.rclass };
  ttl = kept_within IsNumber _ _ (Some r.ttl) (let low : r.ttl < 0x1_0000_0000 = small.range.ttl in omega (arith, low));
}

records_kept : (p : Params) (bit : ℕ) (rs : List Rr) → AllByRecursion RrIsSmall rs → AllByRecursion RecordIsKept (kept_records p bit rs)
records_kept p bit rs small = chosen (is_hinted p.hints.qr bit) (filter (is_listed_record p.rr_types) rs) (all_filter RrIsSmall (is_listed_record p.rr_types) rs small)
  where
    chosen : (b : Bool) (xs : List Rr) → AllByRecursion RrIsSmall xs → AllByRecursion RecordIsKept (if b then map (kept_rr p.hints) xs else [])
    chosen true xs all = map_all RrIsSmall RecordIsKept (kept_rr p.hints) (record_kept p.hints) xs all
    chosen false xs all = tt

-- the lists of a query and of a response
query_kept : (p : Params) (m : Option dns.Message) → IfSome m MessageIsFit → ListsAreKept (option_map_or (query_lists p) m no_lists)
query_kept p None fit = record { question = tt; answer = tt; authority = tt; additional = tt }
query_kept p (Some m) fit = record {
  question = questions_kept p.hints m.questions fit.range.questions;
  answer = records_kept p _ m.answers (small_records m.answers fit.valid.answers.records_are_valid fit.range.answers);
  authority = records_kept p _ m.authority (small_records m.authority fit.valid.authority.records_are_valid fit.range.authority);
  additional = records_kept p _ (without_opt m.additional)
      (all_filter RrIsSmall _ m.additional (small_records m.additional fit.valid.additional.records_are_valid fit.range.additional));
}

response_kept : (p : Params) (m : Option dns.Message) → IfSome m MessageIsFit → ListsAreKept (option_map_or (response_lists p) m no_lists)
response_kept p None fit = record { question = tt; answer = tt; authority = tt; additional = tt }
response_kept p (Some m) fit = record {
  question = questions_kept p.hints m.questions fit.range.questions;
  answer = records_kept p _ m.answers (small_records m.answers fit.valid.answers.records_are_valid fit.range.answers);
  authority = records_kept p _ m.authority (small_records m.authority fit.valid.authority.records_are_valid fit.range.authority);
  additional = records_kept p _ m.additional (small_records m.additional fit.valid.additional.records_are_valid fit.range.additional);
}

-- an item, and what it uses
pub record ItemIsRead (t : KeptTables) (i : KeptItem) : Type 0 where
  pub readable : ReadableItem (indexed_item t i)
  pub used : AllByRecursion (IsReadable t) (visited_item i)

module _ (t : KeptTables) (few : AreFew t) (p : Params) (earliest : Stamp) where
  signature_all : (r : RecordParts) → IsFit r → AllByRecursion (IsReadable t) (where_present visited_signature (kept_item p earliest r).signature)
  signature_all r fit =
      all_where (λ s. s ≡ kept_signature p r) (IsReadable t) visited_signature
      (λ s same. rw same (signature_used t few p r fit)) (kept_item p earliest r).signature
      (kept_within (λ s. s ≡ kept_signature p r) _ _ (Some (kept_signature p r)) refl)

  item_readable : (r : RecordParts) → IsFit r → IsTimed r → ReadableItem (indexed_item t (kept_item p earliest r))
  unfolding indexed_item
  item_readable r fit timed = record {
    ranges = item_in_range t p earliest r fit;
    time_offset = kept_within IsNumber _ _ (Some (time_offset p earliest (main_event r))) (offset_small p earliest (main_event r) timed.main);
    client_address = where_indexed same_bytes t.ip_address few.ip_address (kept_item p earliest r).client_address;
    signature = where_indexed same_signature t.qr_sig few.qr_sig (kept_item p earliest r).signature;
    response_delay = kept_within IsSigned _ _ (response_delay p r) (delay_signed p r timed);
    query_name = where_indexed same_bytes t.name_rdata few.name_rdata (kept_item p earliest r).query_name;
    query_size = kept_within IsNumber _ _ _ (mapped EventIsTimed IsNumber (λ e. e.size) (query_of r) (λ e h. h.size) timed.query);
    response_size = kept_within IsNumber _ _ _ (mapped EventIsTimed IsNumber (λ e. e.size) (response_of r) (λ e h. h.size) timed.response);
    query_extended = lists_readable t few (kept_item p earliest r).query_extended;
    response_extended = lists_readable t few (kept_item p earliest r).response_extended;
  }

  pub item_read : (r : RecordParts) → IsFit r → IsTimed r → ItemIsRead t (kept_item p earliest r)
  unfolding visited_item
  item_read r fit timed = record {
    readable = item_readable r fit timed;
    used =
        all_append (IsReadable t) _ _
        (all_append (IsReadable t) _ _
        (all_append (IsReadable t) _ _
        (all_append (IsReadable t) _ _ (address_used t few (kept_item p earliest r).client_address (client_kept p earliest r fit)) (signature_all r fit))
        (bytes_all t few (kept_item p earliest r).query_name))
        (lists_used t few (kept_item p earliest r).query_extended (query_kept p (query_message r) fit.query)))
        (lists_used t few (kept_item p earliest r).response_extended (response_kept p (response_message r) fit.response));
  }
