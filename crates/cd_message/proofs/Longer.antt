-- What is read stays where more bytes stand after the payload.
use Rattle.std.proofs.Common.{◌≡◌, ℕ, ◌+◌, ◌-◌, ◌≤◌, List, ◌++◌, length, take, drop, ap, ◌∙◌, sym, arith, length-append}
use Rattle.std.proofs.lemmas.List.{take-append-le, drop-append-le, length-drop}
use Rattle.cd_name.proofs.Longer.{names_stay}
use Rattle.cd_message.specs.declared.message.Question.{Question}
use Rattle.cd_message.specs.declared.message.Rr.{Rr}
use Rattle.cd_message.specs.declared.message.Message.{Message}
use Rattle.cd_bytes.proofs.Offsets.{be16-append, be32-append}
use Rattle.cd_message.specs.Messages.{bytes_at}
use Rattle.cd_message.specs.MessageLaws.{MessagesStay}
use Rattle.cd_message.specs.Rules.{ReadsEach, none, one_more, ReadsQuestion, RdataNameAt, ReadsRdata, empty, any_bytes, shaped, ReadsRecord, ReadsSection, ReadsMessage}
use Rattle.cd_message.proofs.MessagesByRules.{spelled_by_rules}

-- bytes that are there stay
bytes_stay : (p more : List ℕ) (at count : ℕ) → at + count ≤ length p → bytes_at (p ++ more) at count ≡ bytes_at p at count
bytes_stay p more at count h =
    ap (λ bytes. take count bytes) (drop-append-le at p more (omega arith)) ∙ take-append-le count (drop at p) more (omega (arith, length-drop at p))

-- items stay if each does
each_stays : {A : Type 0} {Reads Others : ℕ → A → ℕ → Type 0} → ((at : ℕ) (item : A) (next : ℕ) → Reads at item next → Others at item next) →
    {count at : ℕ} {items : List A} {end : ℕ} → ReadsEach Reads count at items end → ReadsEach Others count at items end
each_stays stays (none at) = none at
each_stays stays (one_more count at next end item items reads others) = one_more count at next end item items (stays at item next reads) (each_stays stays others)

-- a question stays
question_stays : (p more : List ℕ) (at : ℕ) (q : Question) (next : ℕ) → ReadsQuestion p at q next → ReadsQuestion (p ++ more) at q next
question_stays p more at q next reads =
    record {
      name_end = reads.name_end;
      is_named = names_stay p more at q.name reads.name_end reads.is_named;
      is_type = reads.is_type ∙ sym (be16-append reads.name_end p more (omega (arith, reads.ends, reads.is_there)));
      is_class = reads.is_class ∙ sym (be16-append (reads.name_end + 2) p more (omega (arith, reads.ends, reads.is_there)));
      ends = reads.ends;
      is_there = omega (arith, reads.is_there, length-append p more);
    }

-- a name of RDATA stays
rdata_name_stays : (p more : List ℕ) (end at : ℕ) (name : List ℕ) (next : ℕ) → RdataNameAt p end at name next → RdataNameAt (p ++ more) end at name next
rdata_name_stays p more end at name next reads = (names_stay p more at name next reads.0, reads.1)

-- RDATA stays
rdata_stays : {p : List ℕ} (more : List ℕ) {rtype at end : ℕ} {rdata : List ℕ} → at ≤ end → end ≤ length p → ReadsRdata p rtype at end rdata → ReadsRdata (p ++ more) rtype at end rdata
rdata_stays more order there (empty same is) = empty same is
rdata_stays {p} more {rtype} {at} {end} order there (any_bytes apart no_shape is) = any_bytes apart no_shape (is ∙ sym (bytes_stay p more at (end - at) (omega arith)))
rdata_stays {p} more {rtype} {at} {end} {rdata} order there (shaped s names next apart has_shape room reads fills is) =
    let front : bytes_at (p ++ more) at s.before ≡ bytes_at p at s.before = bytes_stay p more at s.before (omega arith) in
    let back : bytes_at (p ++ more) next s.after ≡ bytes_at p next s.after = bytes_stay p more next s.after (omega arith) in
    shaped s names next apart has_shape room (each_stays (rdata_name_stays p more end) reads) fills (rw (front, back) is)

-- a record stays
record_stays : (p more : List ℕ) (at : ℕ) (r : Rr) (next : ℕ) → ReadsRecord p at r next → ReadsRecord (p ++ more) at r next
record_stays p more at r next reads =
    let e : ℕ = reads.owner_end in
    let there : e + 10 ≤ length p = omega (arith, reads.ends, reads.is_there) in
    record {
      owner_end = e;
      is_owned = names_stay p more at r.owner e reads.is_owned;
      is_type = reads.is_type ∙ sym (be16-append e p more (omega arith));
      is_class = reads.is_class ∙ sym (be16-append (e + 2) p more (omega arith));
      is_ttl = reads.is_ttl ∙ sym (be32-append (e + 4) p more (omega arith));
      ends = rw (be16-append (e + 8) p more (omega arith)) reads.ends;
      is_there = omega (arith, reads.is_there, length-append p more);
      has_rdata = rdata_stays more (omega (arith, reads.ends)) reads.is_there reads.has_rdata;
    }

-- a section stays, if the number of its records does
section_stays : (p more : List ℕ) (opts count again at : ℕ) (records : List Rr) (end : ℕ) → again ≡ count → ReadsSection p opts count at records end →
    ReadsSection (p ++ more) opts again at records end
section_stays p more opts count again at records end same reads =
    record { are_read = rw same (each_stays (record_stays p more) reads.are_read); opt_rule = reads.opt_rule }

-- a message that the rules read they read with more bytes after
stays : (p more : List ℕ) (m : Message) (used : ℕ) → ReadsMessage p m used → ReadsMessage (p ++ more) m used
stays p more m used reads =
    record {
      questions_end = reads.questions_end;
      answers_end = reads.answers_end;
      authority_end = reads.authority_end;
      header = omega (arith, reads.header, length-append p more);
      is_id = reads.is_id ∙ sym (be16-append 0 p more (omega (arith, reads.header)));
      are_bits = reads.are_bits ∙ sym (be16-append 2 p more (omega (arith, reads.header)));
      has_questions = rw (be16-append 4 p more (omega (arith, reads.header))) (each_stays (question_stays p more) reads.has_questions);
      has_answers = section_stays p more 0 _ _ reads.questions_end m.answers reads.answers_end (be16-append 6 p more (omega (arith, reads.header))) reads.has_answers;
      has_authority = section_stays p more 0 _ _ reads.answers_end m.authority reads.authority_end (be16-append 8 p more (omega (arith, reads.header))) reads.has_authority;
      has_additional = section_stays p more 1 _ _ reads.authority_end m.additional used (be16-append 10 p more (omega (arith, reads.header))) reads.has_additional;
    }

-- the law on messages with more bytes after them
pub messages_stay : MessagesStay
messages_stay p more m used h = (spelled_by_rules (p ++ more) m used).1 (stays p more m used ((spelled_by_rules p m used).0 h))
