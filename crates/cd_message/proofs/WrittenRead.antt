-- A message that is written is read as itself.
use Rattle.std.proofs.Common.{◌≡◌, ℕ, ◌+◌, ◌<◌, ◌≤◌, List, [], ◌∷◌, ◌++◌, length, ap, sym, ◌∙◌, subst, arith}
use Rattle.std.specs.List.{All, Contains}
use Rattle.std.specs.Int.{w16, w32, to_be_bytes}
use Rattle.std.proofs.lemmas.List.{append-nil, length-take}
use Rattle.std.proofs.lemmas.List.Elements.{All-nil, All-weaker, All-contains, All-contains_itself}
use Rattle.cd_name.specs.Names.{IsName}
use Rattle.cd_message.specs.declared.message.Question.{Question}
use Rattle.cd_message.specs.declared.message.Rr.{Rr}
use Rattle.cd_message.specs.declared.message.Message.{Message}
use Rattle.cd_message.specs.declared.message.TheConstants.{OPT}
use Rattle.cd_bytes.specs.Numbers.{be16, be32}
use Rattle.cd_message.specs.Messages.{bytes_at}
use Rattle.cd_message.specs.Rules.{ReadsEach, ReadsQuestion, ReadsRdata, ReadsRecord, ReadsSection, ReadsMessage}
use Rattle.cd_message.specs.Valid.{Valid, ValidRecord, ValidSection}
use Rattle.cd_message.specs.Written.{question_piece, record_piece, header_of, message_piece, written_message}
use Rattle.cd_message.specs.WrittenLaws.{QuestionNumbersFit, RecordNumbersFit, NumbersFit, WrittenMessagesAreRead}
use Rattle.cd_message.proofs.MessagesByRules.{spelled_by_rules}
use Rattle.cd_message.proofs.Fields.{BytesAt, word_there, first_word_there, word_of_number, four_there, four_of_number}
use Rattle.cd_message.proofs.PieceReadings.{IsRead, IsReadAs, ReadsInTurn, ReadsItems, read_otherwise, bytes_are_read, name_is_read, in_turn_are_read, each_in_turn_is_read, with_length_is_read}
use Rattle.cd_message.proofs.WrittenRdata.{rdata_is_read}

-- the type and class of a question
abbrev question_fields : Question → List ℕ
question_fields q = to_be_bytes w16 q.rtype ++ to_be_bytes w16 q.rclass

-- a question is read as itself
question_is_read : (q : Question) → QuestionNumbersFit q → IsName q.name → IsReadAs ReadsQuestion q (question_piece q)
unfolding question_piece be16
question_is_read q fit is =
    read_otherwise (λ p at next within parts.
    let fields : List ℕ = question_fields q in
    record {
      name_end = parts.0;
      is_named = parts.1;
      is_type = sym (first_word_there fields p parts.0 parts.2.0 (omega arith) ∙ word_of_number q.rtype fit.0);
      is_class = sym (word_there fields p parts.0 2 parts.2.0 (omega arith) ∙ word_of_number q.rclass fit.1);
      ends = parts.2.1;
      is_there = within;
    }) (in_turn_are_read (name_is_read q.name is) (bytes_are_read (question_fields q)))

-- the type, class and TTL of a record
abbrev record_fields : Rr → List ℕ
record_fields r = to_be_bytes w16 r.rtype ++ to_be_bytes w16 r.rclass ++ to_be_bytes w32 r.ttl

-- a record is read as itself
record_is_read : (r : Rr) → RecordNumbersFit r → ValidRecord r → IsReadAs ReadsRecord r (record_piece r)
unfolding record_piece be16 be32
record_is_read r fit valid =
    read_otherwise (λ p at next within parts.
    let fields : List ℕ = record_fields r in
    let owner_end : ℕ = parts.0 in
    let there : bytes_at p owner_end (length fields) ≡ fields = parts.2.1.0 in
    let after : parts.2.0 ≡ owner_end + 8 = parts.2.1.1 in
    let size : be16 parts.2.0 p ≡ be16 (owner_end + 8) p = ap (λ k. be16 k p) after in
    let ends : next ≡ parts.2.0 + 2 + be16 parts.2.0 p = parts.2.2.0 in
    let place : parts.2.0 + 2 ≡ owner_end + 10 = omega arith in
    record {
      owner_end = owner_end;
      is_owned = parts.1;
      is_type = sym (first_word_there fields p owner_end there (omega arith) ∙ word_of_number r.rtype fit.0);
      is_class = sym (word_there fields p owner_end 2 there (omega arith) ∙ word_of_number r.rclass fit.1);
      is_ttl = sym (four_there fields p owner_end 4 there (omega arith) ∙ four_of_number r.ttl fit.2);
      ends = omega arith;
      is_there = within;
      has_rdata = subst (λ k. ReadsRdata p r.rtype k next r.rdata) place parts.2.2.1;
    })
    (in_turn_are_read (name_is_read r.owner valid.owner_is_name)
    (in_turn_are_read (bytes_are_read (record_fields r)) (with_length_is_read (rdata_is_read r.rtype r.rdata valid.rdata_keeps_shape))))

-- questions are read as themselves
questions_are_read : (qs : List Question) → All QuestionNumbersFit qs → All (λ q. IsName q.name) qs → All (λ q. IsReadAs ReadsQuestion q (question_piece q)) qs
questions_are_read qs fit are =
    All-weaker (Contains qs) (λ q. IsReadAs ReadsQuestion q (question_piece q))
    (λ q has. question_is_read q (All-contains QuestionNumbersFit qs q fit has) (All-contains (λ (q : Question). IsName q.name) qs q are has)) qs (All-contains_itself qs)

-- records are read as themselves
records_are_read : (rs : List Rr) → All RecordNumbersFit rs → All ValidRecord rs → All (λ r. IsReadAs ReadsRecord r (record_piece r)) rs
records_are_read rs fit valid =
    All-weaker (Contains rs) (λ r. IsReadAs ReadsRecord r (record_piece r))
    (λ r has. record_is_read r (All-contains RecordNumbersFit rs r fit has) (All-contains ValidRecord rs r valid has)) rs (All-contains_itself rs)

-- how the parts of a message stand one after the other
abbrev PartsAt : Message → List ℕ → ℕ → ℕ → Type 0
PartsAt m =
    ReadsInTurn (BytesAt (header_of m)) (ReadsInTurn (ReadsItems ReadsQuestion m.questions)
    (ReadsInTurn (ReadsItems ReadsRecord m.answers) (ReadsInTurn (ReadsItems ReadsRecord m.authority) (ReadsItems ReadsRecord m.additional))))

-- the parts of a message are read one after the other
parts_are_read : (m : Message) → NumbersFit m → Valid m → IsRead (PartsAt m) (message_piece m)
unfolding message_piece
parts_are_read m fit valid =
    in_turn_are_read (bytes_are_read (header_of m))
    (in_turn_are_read (each_in_turn_is_read ReadsQuestion question_piece m.questions (questions_are_read m.questions fit.questions valid.names_are_names))
    (in_turn_are_read (each_in_turn_is_read ReadsRecord record_piece m.answers (records_are_read m.answers fit.answers valid.answers.records_are_valid))
    (in_turn_are_read (each_in_turn_is_read ReadsRecord record_piece m.authority (records_are_read m.authority fit.authority valid.authority.records_are_valid))
    (each_in_turn_is_read ReadsRecord record_piece m.additional (records_are_read m.additional fit.additional valid.additional.records_are_valid)))))

-- records of a valid section that stand one after the other are the section, if their number is told
section_is_read : (p : List ℕ) (opts count at : ℕ) (rs : List Rr) (end : ℕ) → ValidSection opts rs → count ≡ length rs → ReadsItems ReadsRecord rs p at end → ReadsSection p opts count at rs end
section_is_read p opts count at rs end valid told are = record {
  are_read = subst (λ k. ReadsEach (ReadsRecord p) k at rs end) (sym told) are;
  opt_rule = record {
    few = valid.few_opts;
    of_root = All-weaker ValidRecord (λ r. r.rtype ≡ OPT → r.owner ≡ 0 ∷ []) (λ r is. is.opt_owner_is_root) rs valid.records_are_valid;
  };
}

-- where the parts of a message stand, it is spelled
parts_are_message : (m : Message) → NumbersFit m → Valid m → (p : List ℕ) (used : ℕ) → PartsAt m p 0 used → ReadsMessage p m used
unfolding be16
parts_are_message m fit valid p used parts =
    let header : List ℕ = header_of m in
    let there : bytes_at p 0 12 ≡ header = parts.1.0 in
    let start : parts.0 ≡ 12 = parts.1.1 in
    let told : (i n : ℕ) → i + 1 < 12 → be16 i header ≡ n → be16 (0 + i) p ≡ n = λ (i n : ℕ) (within : i + 1 < 12) (e : be16 i header ≡ n). word_there header p 0 i there within ∙ e in
    record {
      questions_end = parts.2.0;
      answers_end = parts.2.2.0;
      authority_end = parts.2.2.2.0;
      header = omega (arith, ap length there, length-take 12 p);
      is_id = sym (told 0 m.id (omega arith) (word_of_number m.id fit.id));
      are_bits = sym (told 2 m.bits (omega arith) (word_of_number m.bits fit.bits));
      has_questions =
          (let count : be16 4 p ≡ length m.questions = told 4 (length m.questions) (omega arith) (word_of_number (length m.questions) (omega (arith, valid.few_questions))) in
          subst (λ k. ReadsEach (ReadsQuestion p) k 12 m.questions parts.2.0) (sym count)
          (subst (λ k. ReadsEach (ReadsQuestion p) (length m.questions) k m.questions parts.2.0) start parts.2.1));
      has_answers = section_is_read p 0 (be16 6 p) parts.2.0 m.answers parts.2.2.0 valid.answers
          (told 6 (length m.answers) (omega arith) (word_of_number (length m.answers) (omega (arith, valid.answers.few_records)))) parts.2.2.1;
      has_authority = section_is_read p 0 (be16 8 p) parts.2.2.0 m.authority parts.2.2.2.0 valid.authority
          (told 8 (length m.authority) (omega arith) (word_of_number (length m.authority) (omega (arith, valid.authority.few_records)))) parts.2.2.2.1;
      has_additional = section_is_read p 1 (be16 10 p) parts.2.2.2.0 m.additional used valid.additional
          (told 10 (length m.additional) (omega arith) (word_of_number (length m.additional) (omega (arith, valid.additional.few_records)))) parts.2.2.2.2;
    }

-- the bytes of a valid message are what the rules read as it, to the last of them
written_is_read : (m : Message) → NumbersFit m → Valid m → length (written_message m) ≤ 65535 → ReadsMessage (written_message m) m (length (written_message m))
written_is_read m fit valid size =
    let bytes : List ℕ = written_message m in
    let parts = ((parts_are_read m fit valid).after [] [] (All-nil _) size).reads [] in
    let end : 0 + length bytes ≡ length bytes = omega arith in
    subst (λ p. ReadsMessage p m (length bytes)) (append-nil bytes)
    (subst (λ used. ReadsMessage (bytes ++ []) m used) end (parts_are_message m fit valid (bytes ++ []) (0 + length bytes) parts))

-- a valid message that is written in at most 65,535 bytes is read as itself, to the last of them
pub written_messages_are_read : WrittenMessagesAreRead
written_messages_are_read m fit valid size = (spelled_by_rules (written_message m) m (length (written_message m))).1 (written_is_read m fit valid size)
