-- A message that the rules read is the one that is read.
use Rattle.std.proofs.Common.{◌≡◌, ℕ, ◌≤◌, List, length, true, false, Ok, Err, ◌⊎◌, inl, inr, refl, ap, sym, arith}
use Rattle.std.proofs.lemmas.Bool.{cases_lt, le-ltb, lt-ltb}
use Rattle.cd_message.specs.declared.message.MsgWhy.{MsgWhy}
use Rattle.cd_message.specs.declared.message.MsgWhy.TheVariants.{Short}
use Rattle.cd_message.specs.declared.message.Question.{Question}
use Rattle.cd_message.specs.declared.message.Message.{Message}
use Rattle.cd_message.specs.Readings.{repeat}
use Rattle.cd_bytes.specs.Numbers.{be16}
use Rattle.cd_message.specs.Messages.{question_at, records_at, message_of}
use Rattle.cd_message.specs.Rules.{ReadsEach, BreaksAmong, ReadsQuestion, BreaksQuestion, ReadsSection, BreaksSection, ReadsMessage, BreaksMessage, in_header, in_questions, in_answers, in_authority, in_additional, SpelledByRules, BrokenByRules}
use Rattle.cd_message.proofs.Decides.{Decides, reads_exactly, breaks_exactly}
use Rattle.cd_message.proofs.EachByRules.{items_by_rules}
use Rattle.cd_message.proofs.QuestionsByRules.{question_by_rules}
use Rattle.cd_message.proofs.SectionsByRules.{section_by_rules}

-- the rules decide what is read of questions
questions_by_rules : (p : List ℕ) (count at : ℕ) → Decides (repeat (question_at p) count at) (λ x. ReadsEach (ReadsQuestion p) count at x.0 x.1)
    (λ why. BreaksAmong (ReadsQuestion p) (λ before here. BreaksQuestion p here why) count at)
questions_by_rules p count at = items_by_rules (question_at p) (ReadsQuestion p) (λ here why. BreaksQuestion p here why) (question_by_rules p) count at

-- a section that may hold no OPT record
without_opt : (p : List ℕ) (count at : ℕ) → Decides (records_at p count false at) (λ x. ReadsSection p 0 count at x.0 x.1) (λ why. BreaksSection p 0 count at why)
without_opt p count at = section_by_rules p 0 (omega arith) count at

-- a section that may hold one
with_opt : (p : List ℕ) (count at : ℕ) → Decides (records_at p count true at) (λ x. ReadsSection p 1 count at x.0 x.1) (λ why. BreaksSection p 1 count at why)
with_opt p count at = section_by_rules p 1 (omega arith) count at

-- a message with the same header
same_message : (x : Message × ℕ) (id bits : ℕ) → id ≡ x.0.id → bits ≡ x.0.bits →
    (record { id = id; bits = bits; questions = x.0.questions; answers = x.0.answers; authority = x.0.authority; additional = x.0.additional }, x.1) ≡ x
same_message x id bits h k = rw (h, k) refl

-- a message that the rules read is read
message_is_read : (p : List ℕ) (x : Message × ℕ) → ReadsMessage p x.0 x.1 → message_of p ≡ Ok x
unfolding message_of
message_is_read p x h =
    let questions = (questions_by_rules p (be16 4 p) 12).read (x.0.questions, h.questions_end) h.has_questions in
    let answers = (without_opt p (be16 6 p) h.questions_end).read (x.0.answers, h.answers_end) h.has_answers in
    let authority = (without_opt p (be16 8 p) h.answers_end).read (x.0.authority, h.authority_end) h.has_authority in
    let additional = (with_opt p (be16 10 p) h.authority_end).read (x.0.additional, x.1) h.has_additional in
    rw (le-ltb (length p) 12 h.header, questions, answers, authority, additional) (ap Ok (same_message x (be16 0 p) (be16 2 p) (sym h.is_id) (sym h.are_bits)))

-- a rule that the rules say a payload breaks is broken
message_is_broken : (p : List ℕ) (why : MsgWhy) → BreaksMessage p why → message_of p ≡ Err why
unfolding message_of
message_is_broken p why (in_header cut told) = rw (lt-ltb (length p) 12 cut) (ap Err (sym told))
message_is_broken p why (in_questions header breaks) =
    let questions = (questions_by_rules p (be16 4 p) 12).broken why breaks in
    rw (le-ltb (length p) 12 header, questions) refl
message_is_broken p why (in_answers qs at header asked breaks) =
    let questions = (questions_by_rules p (be16 4 p) 12).read (qs, at) asked in
    let answers = (without_opt p (be16 6 p) at).broken why breaks in
    rw (le-ltb (length p) 12 header, questions, answers) refl
message_is_broken p why (in_authority qs answers next at header asked answered breaks) =
    let questions = (questions_by_rules p (be16 4 p) 12).read (qs, next) asked in
    let answers = (without_opt p (be16 6 p) next).read (answers, at) answered in
    let authority = (without_opt p (be16 8 p) at).broken why breaks in
    rw (le-ltb (length p) 12 header, questions, answers, authority) refl
message_is_broken p why (in_additional qs answers authority first second at header asked answered named breaks) =
    let questions = (questions_by_rules p (be16 4 p) 12).read (qs, first) asked in
    let answers = (without_opt p (be16 6 p) first).read (answers, second) answered in
    let authority = (without_opt p (be16 8 p) second).read (authority, at) named in
    let additional = (with_opt p (be16 10 p) at).broken why breaks in
    rw (le-ltb (length p) 12 header, questions, answers, authority, additional) refl

-- one of the two holds
abbrev MessageAnswer : List ℕ → Type 0
MessageAnswer p = ((x : Message × ℕ) × ReadsMessage p x.0 x.1) ⊎ ((why : MsgWhy) × BreaksMessage p why)

-- the rules have an answer after the questions
after_questions_answer : (p : List ℕ) (qs : List Question) (first : ℕ) → 12 ≤ length p → ReadsEach (ReadsQuestion p) (be16 4 p) 12 qs first → MessageAnswer p
after_questions_answer p qs first header asked =
    elim (without_opt p (be16 6 p) first).answer [
      | inr a ↦ inr (a.0, in_answers qs first header asked a.1)
      | inl answers ↦
          elim (without_opt p (be16 8 p) answers.0.1).answer [
            | inr a ↦ inr (a.0, in_authority qs answers.0.0 first answers.0.1 header asked answers.1 a.1)
            | inl authority ↦
                elim (with_opt p (be16 10 p) authority.0.1).answer [
                  | inr a ↦ inr (a.0, in_additional qs answers.0.0 authority.0.0 first answers.0.1 authority.0.1 header asked answers.1 authority.1 a.1)
                  | inl additional ↦
                      inl (
                        (record { id = be16 0 p; bits = be16 2 p; questions = qs; answers = answers.0.0; authority = authority.0.0; additional = additional.0.0 }, additional.0.1),
                        record {
                          questions_end = first;
                          answers_end = answers.0.1;
                          authority_end = authority.0.1;
                          header = header;
                          is_id = refl;
                          are_bits = refl;
                          has_questions = asked;
                          has_answers = answers.1;
                          has_authority = authority.1;
                          has_additional = additional.1;
                        },
                      )
                ]
          ]
    ]

-- the rules have an answer on a payload
message_answer : (p : List ℕ) → MessageAnswer p
message_answer p =
    elim (cases_lt (length p) 12) [
      | inl cut ↦ inr (Short, in_header cut refl)
      | inr header ↦
          elim (questions_by_rules p (be16 4 p) 12).answer [
            | inr a ↦ inr (a.0, in_questions header a.1)
            | inl a ↦ after_questions_answer p a.0.0 a.0.1 header a.1
          ]
    ]

-- the rules decide what is read of a payload
message_by_rules : (p : List ℕ) → Decides (message_of p) (λ x. ReadsMessage p x.0 x.1) (λ why. BreaksMessage p why)
message_by_rules p = record { read = message_is_read p; broken = message_is_broken p; answer = message_answer p }

-- a message is read exactly if the rules read it
pub spelled_by_rules : SpelledByRules
spelled_by_rules p m used = reads_exactly (message_by_rules p) (m, used)

-- a rule is broken first exactly if the rules say so
pub broken_by_rules : BrokenByRules
broken_by_rules p why = breaks_exactly (message_by_rules p) why
