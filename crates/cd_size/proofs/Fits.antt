-- What the messages of events are: valid, with numbers in range. So their records and their first OPT record are small.
use Rattle.std.proofs.Common.{◌≤◌, Bool, true, false, List, [], ◌∷◌, length, Option, Some}
use Rattle.std.specs.Prelude.{IfSome, if◌then◌else◌}
use Rattle.std.specs.List.{All, AllByRecursion, filter, find}
use Rattle.std.proofs.lemmas.List.Elements.{All-head, All-tail}
use Rattle.cd_message.specs.declared.message.Question.{Question}
use Rattle.cd_message.specs.declared.message.Rr.{Rr}
use Rattle.cd_message.specs.declared.message.Message as dns
use Rattle.cd_message.specs.Valid.{Valid, ValidRecord}
use Rattle.cd_ident.specs.declared.event.Body.{Body}
use Rattle.cd_ident.specs.declared.event.Body.TheVariants.{Message, Payload, Nothing}
use Rattle.cd_ident.specs.declared.event.Kind.{Kind}
use Rattle.cd_ident.specs.declared.event.Kind.TheVariants.{Query, Response, Malformed, Discarded}
use Rattle.cd_ident.specs.Bodies.{HasBody}
use Rattle.cd_hints.specs.Records.{message_in}
use Rattle.cd_size.specs.Ranges.{QuestionInRange, RrInRange, MessageInRange, BodyInRange}

-- a valid message with numbers in range
pub record MessageIsFit (m : dns.Message) : Type 0 where
  pub valid : Valid m
  pub range : MessageInRange m

-- the message of a body is fit, where it is one
pub message_is_fit : (kind : Kind) (body : Body) → HasBody kind body → BodyInRange body →
    IfSome (message_in body) MessageIsFit
message_is_fit Query (Message m) has range = record { valid = has.0; range = range }
message_is_fit Response (Message m) has range = record { valid = has.0; range = range }
message_is_fit Malformed (Message m) has range = absurd has
message_is_fit Discarded (Message m) has range = absurd has
message_is_fit kind (Payload p) has range = tt
message_is_fit kind Nothing has range = tt

-- a record of a valid message
pub record RrIsSmall (r : Rr) : Type 0 where
  pub owner : length r.owner ≤ 255
  pub rdata : length r.rdata ≤ 65535
  pub range : RrInRange r

-- the records of a section are small
pub small_records : (rs : List Rr) → All ValidRecord rs → All RrInRange rs → AllByRecursion RrIsSmall rs
small_records [] valid range = tt
small_records (r ∷ rs) valid range =
    let first = All-head ValidRecord r rs valid in
    let small : RrIsSmall r =
    record { owner = first.owner_is_name.1; rdata = first.rdata_fits; range = All-head RrInRange r rs range } in
    (small, small_records rs (All-tail ValidRecord r rs valid) (All-tail RrInRange r rs range))

-- the questions of a message are in range
pub ranged_questions : (qs : List Question) → All QuestionInRange qs → AllByRecursion QuestionInRange qs
ranged_questions [] range = tt
ranged_questions (q ∷ qs) range =
    (All-head QuestionInRange q qs range, ranged_questions qs (All-tail QuestionInRange q qs range))

-- what holds of each value holds of those in front of others or not
kept_or_not : {X : Type 0} (P : X → Type 0) (b : Bool) (x : X) (xs : List X) → P x → AllByRecursion P xs →
    AllByRecursion P (if b then x ∷ xs else xs)
kept_or_not P true x xs here all = (here, all)
kept_or_not P false x xs here all = all

-- what holds of each value holds of those that a filter keeps
pub all_filter : {X : Type 0} (P : X → Type 0) (p : X → Bool) (xs : List X) → AllByRecursion P xs →
    AllByRecursion P (filter p xs)
all_filter P p [] all = tt
all_filter P p (x ∷ xs) all = kept_or_not P (p x) x (filter p xs) all.0 (all_filter P p xs all.1)

-- a value that is found, or another
found_or_not : {X : Type 0} (P : X → Type 0) (b : Bool) (x : X) (o : Option X) → P x → IfSome o P →
    IfSome (if b then Some x else o) P
found_or_not P true x o here all = here
found_or_not P false x o here all = all

-- what holds of each value holds of one that is found
pub all_find : {X : Type 0} (P : X → Type 0) (p : X → Bool) (xs : List X) → AllByRecursion P xs → IfSome (find p xs) P
all_find P p [] all = tt
all_find P p (x ∷ xs) all = found_or_not P (p x) x (find p xs) all.0 (all_find P p xs all.1)
