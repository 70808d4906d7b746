-- A question that the rules read is the one that is read.
use Rattle.std.proofs.Common.{◌≡◌, ℕ, ◌+◌, List, length, Ok, Err, ◌⊎◌, inl, inr, refl, ap, sym, arith}
use Rattle.std.proofs.lemmas.Bool.{cases_lt, le-ltb, lt-ltb}
use Rattle.cd_message.specs.declared.message.MsgWhy.{MsgWhy}
use Rattle.cd_message.specs.declared.message.MsgWhy.TheVariants.{Short}
use Rattle.cd_message.specs.declared.message.Question.{Question}
use Rattle.cd_bytes.specs.Numbers.{be16}
use Rattle.cd_message.specs.Messages.{why_of, question_at}
use Rattle.cd_message.specs.Rules.{ReadsQuestion, BreaksQuestion, question_name, question_fields}
use Rattle.cd_message.proofs.Decides.{Decides}
use Rattle.cd_message.proofs.NamesByRules.{name_or_rule, name_is_read, name_is_broken}

-- a question with the same parts, and the same offset after it
same_question : (x : Question × ℕ) (rtype rclass next : ℕ) → rtype ≡ x.0.rtype → rclass ≡ x.0.rclass → next ≡ x.1 →
    (record { name = x.0.name; rtype = rtype; rclass = rclass }, next) ≡ x
same_question x rtype rclass next h k m = rw (h, k, m) refl

-- a question that the rules read is read
question_is_read : (p : List ℕ) (at : ℕ) (x : Question × ℕ) → ReadsQuestion p at x.0 x.1 → question_at p at ≡ Ok x
unfolding question_at
question_is_read p at x h =
    let name = name_is_read p at x.0.name h.name_end h.is_named in
    rw (name, le-ltb (length p) (h.name_end + 4) (omega (arith, h.is_there, h.ends)))
    (ap Ok (same_question x (be16 h.name_end p) (be16 (h.name_end + 2) p) (h.name_end + 4) (sym h.is_type) (sym h.is_class) (sym h.ends)))

-- a rule that the rules say a question breaks is broken
question_is_broken : (p : List ℕ) (at : ℕ) (why : MsgWhy) → BreaksQuestion p at why → question_at p at ≡ Err why
unfolding question_at
question_is_broken p at why (question_name broken h told) = rw (name_is_broken p at broken h) (ap Err (sym told))
question_is_broken p at why (question_fields name next h cut told) = rw (name_is_read p at name next h, lt-ltb (length p) (next + 4) cut) (ap Err (sym told))

-- the rules have an answer on a question
question_answer : (p : List ℕ) (at : ℕ) → ((x : Question × ℕ) × ReadsQuestion p at x.0 x.1) ⊎ ((why : MsgWhy) × BreaksQuestion p at why)
question_answer p at =
    elim (name_or_rule p at) [
      | inr name ↦ inr (why_of name.0, question_name name.0 name.1 refl)
      | inl name ↦
          elim (cases_lt (length p) (name.0.1 + 4)) [
            | inl cut ↦ inr (Short, question_fields name.0.0 name.0.1 name.1 cut refl)
            | inr there ↦
                inl (
                  (record { name = name.0.0; rtype = be16 name.0.1 p; rclass = be16 (name.0.1 + 2) p }, name.0.1 + 4),
                  record { name_end = name.0.1; is_named = name.1; is_type = refl; is_class = refl; ends = refl; is_there = there },
                )
          ]
    ]

-- the rules decide what is read of a question
pub question_by_rules : (p : List ℕ) (at : ℕ) → Decides (question_at p at) (λ x. ReadsQuestion p at x.0 x.1) (λ why. BreaksQuestion p at why)
question_by_rules p at = record { read = question_is_read p at; broken = question_is_broken p at; answer = question_answer p at }
