-- A message that is read lies within its payload.
use Rattle.std.proofs.Common.{ℕ, ◌≤◌, List, length, arith}
use Rattle.cd_name.proofs.Names.{names_are_names}
use Rattle.cd_message.specs.declared.message.Question.{Question}
use Rattle.cd_message.specs.declared.message.Rr.{Rr}
use Rattle.cd_message.specs.declared.message.Message.{Message}
use Rattle.cd_message.specs.MessageLaws.{MessagesLieWithin}
use Rattle.cd_message.specs.Rules.{ReadsEach, none, one_more, ReadsQuestion, ReadsRecord, ReadsSection, ReadsMessage}
use Rattle.cd_message.proofs.MessagesByRules.{spelled_by_rules}

-- an offset and one that is not before it, nor past the payload's end
abbrev LiesWithin : List ℕ → ℕ → ℕ → Type 0
LiesWithin p at next = (at ≤ next) × (next ≤ length p)

-- items lie within the payload if each does
each_lies_within : {A : Type 0} {Reads : ℕ → A → ℕ → Type 0} (p : List ℕ) → ((at : ℕ) (item : A) (next : ℕ) → Reads at item next → LiesWithin p at next) →
    {count at : ℕ} {items : List A} {end : ℕ} → at ≤ length p → ReadsEach Reads count at items end → LiesWithin p at end
each_lies_within p lies here (none at) = (omega arith, here)
each_lies_within p lies here (one_more count at next end item items reads others) =
    let first = lies at item next reads in
    let rest = each_lies_within p lies first.1 others in
    (omega (arith, first.0, rest.0), rest.1)

-- a question lies within the payload
question_lies_within : (p : List ℕ) (at : ℕ) (q : Question) (next : ℕ) → ReadsQuestion p at q next → LiesWithin p at next
question_lies_within p at q next reads =
    let named = names_are_names p at q.name reads.name_end reads.is_named in (omega (arith, reads.ends, named.1), reads.is_there)

-- a record lies within the payload
record_lies_within : (p : List ℕ) (at : ℕ) (r : Rr) (next : ℕ) → ReadsRecord p at r next → LiesWithin p at next
record_lies_within p at r next reads =
    let owned = names_are_names p at r.owner reads.owner_end reads.is_owned in (omega (arith, reads.ends, owned.1), reads.is_there)

-- a section lies within the payload
section_lies_within : (p : List ℕ) (opts count at : ℕ) (records : List Rr) (end : ℕ) → at ≤ length p → ReadsSection p opts count at records end → LiesWithin p at end
section_lies_within p opts count at records end here reads = each_lies_within p (record_lies_within p) here reads.are_read

-- a message that the rules read lies within the payload, and takes its header at least
pub lies_within : (p : List ℕ) (m : Message) (used : ℕ) → ReadsMessage p m used → (12 ≤ used) × (used ≤ length p)
lies_within p m used reads =
    let questions = each_lies_within p (question_lies_within p) reads.header reads.has_questions in
    let answers = section_lies_within p 0 _ reads.questions_end m.answers reads.answers_end questions.1 reads.has_answers in
    let authority = section_lies_within p 0 _ reads.answers_end m.authority reads.authority_end answers.1 reads.has_authority in
    let additional = section_lies_within p 1 _ reads.authority_end m.additional used authority.1 reads.has_additional in
    (omega (arith, questions.0, answers.0, authority.0, additional.0), additional.1)

-- the law on the place of messages that are read
pub messages_lie_within : MessagesLieWithin
messages_lie_within p m used h = lies_within p m used ((spelled_by_rules p m used).0 h)
