-- The numbers of a message that is read of bytes are in the ranges of their types.
use Rattle.std.proofs.Common.{ℕ, ◌+◌, ◌<◌, List, arith}
use Rattle.std.specs.List.{All}
use Rattle.std.proofs.lemmas.List.Elements.{All-nil, All-cons}
use Rattle.cd_bytes.specs.Numbers.{be16, be32}
use Rattle.cd_message.specs.declared.message.Question.{Question}
use Rattle.cd_message.specs.declared.message.Rr.{Rr}
use Rattle.cd_message.specs.declared.message.Message.{Message}
use Rattle.cd_message.specs.MessageLaws.{AreBytes}
use Rattle.cd_message.specs.Messages.{Spells}
use Rattle.cd_message.specs.Rules.{ReadsEach, none, one_more, ReadsQuestion, ReadsRecord, ReadsMessage}
use Rattle.cd_message.proofs.MessagesByRules.{spelled_by_rules}
use Rattle.cd_size.specs.Ranges.{QuestionInRange, RrInRange, MessageInRange}

-- a number of two bytes
pub word_short : (at : ℕ) (p : List ℕ) → AreBytes p → be16 at p < 0x1_0000
unfolding be16
word_short at p bytes = omega (arith, bytes at, bytes (at + 1))

-- a number of four bytes
long_short : (at : ℕ) (p : List ℕ) → AreBytes p → be32 at p < 0x1_0000_0000
unfolding be32
long_short at p bytes = omega (arith, bytes at, bytes (at + 1), bytes (at + 2), bytes (at + 3))

-- a question
question_ranged : (p : List ℕ) → AreBytes p → (at : ℕ) (q : Question) (next : ℕ) → ReadsQuestion p at q next →
    QuestionInRange q
question_ranged p bytes at q next reads = record {
  rtype = omega (arith, reads.is_type, word_short reads.name_end p bytes);
  rclass = omega (arith, reads.is_class, word_short (reads.name_end + 2) p bytes);
}

-- a resource record
record_ranged : (p : List ℕ) → AreBytes p → (at : ℕ) (r : Rr) (next : ℕ) → ReadsRecord p at r next → RrInRange r
record_ranged p bytes at r next reads = record {
  rtype = omega (arith, reads.is_type, word_short reads.owner_end p bytes);
  rclass = omega (arith, reads.is_class, word_short (reads.owner_end + 2) p bytes);
  ttl = omega (arith, reads.is_ttl, long_short (reads.owner_end + 4) p bytes);
}

-- what holds of each item that is read
each_ranged : {A : Type 0} {Reads : ℕ → A → ℕ → Type 0} (P : A → Type 0) →
    ((at : ℕ) (item : A) (next : ℕ) → Reads at item next → P item) →
    {count at : ℕ} {items : List A} {end : ℕ} → ReadsEach Reads count at items end → All P items
each_ranged P holds (none at) = All-nil P
each_ranged P holds (one_more count at next end item items reads others) =
    All-cons P item items (holds at item next reads) (each_ranged P holds others)

-- a message by the rules
ranged_by_rules : (p : List ℕ) (m : Message) (used : ℕ) → AreBytes p → ReadsMessage p m used → MessageInRange m
ranged_by_rules p m used bytes reads = record {
  id = omega (arith, reads.is_id, word_short 0 p bytes);
  questions = each_ranged QuestionInRange (question_ranged p bytes) reads.has_questions;
  answers = each_ranged RrInRange (record_ranged p bytes) reads.has_answers.are_read;
  authority = each_ranged RrInRange (record_ranged p bytes) reads.has_authority.are_read;
  additional = each_ranged RrInRange (record_ranged p bytes) reads.has_additional.are_read;
}

-- a message that is read
pub message_ranged : (p : List ℕ) (m : Message) (used : ℕ) → AreBytes p → Spells p m used → MessageInRange m
message_ranged p m used bytes h = ranged_by_rules p m used bytes ((spelled_by_rules p m used).0 h)
