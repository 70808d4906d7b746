-- A plain query comes back.
use Rattle.std.proofs.Common.{◌≡◌, ℕ, ◌+◌, ◌*◌, ◌/◌, ◌%◌, ◌^◌, ◌<◌, Bool, true, false, nat_eq, List, [], ◌∷◌, ◌++◌, length, Option, Some, None, refl, sym, ap, ◌∙◌, subst, arith}
use Rattle.std.specs.Prelude.{slice_get, if◌then◌else◌, unwrap_or, is_some, nat_le, option_and_then}
use Rattle.std.specs.List.{All, find}
use Rattle.std.specs.Option.{option_map, option_map_or, option_or}
use Rattle.std.proofs.lemmas.Bool.{eqb-true}
use Rattle.cd_block.specs.declared.hints.Hints.{Hints}
use Rattle.cd_block.specs.declared.kept.KeptItem.{KeptItem}
use Rattle.cd_block.specs.declared.kept.KeptLists.{KeptLists}
use Rattle.cd_block.specs.declared.kept.KeptSig.{KeptSig}
use Rattle.cd_block.specs.declared.params.Params.{Params}
use Rattle.cd_block.specs.declared.stamp.Stamp.{Stamp}
use Rattle.cd_edns.specs.Opts.{opt_of_message, opt_of_record, full_rcode_of, ext_rcode_of, record_of_opt, with_opt}
use Rattle.cd_edns.specs.declared.opt_record.Opt.{Opt}
use Rattle.cd_hints.specs.Flags.{signature_flags, query_dns_flags, response_dns_flags, has_opt, is_dnssec_ok}
use Rattle.cd_hints.specs.Items.{first_question, lead_question, main_message, query_opt, kept_item, kept_signature}
use Rattle.cd_hints.specs.Lists.{query_lists, no_lists, without_opt}
use Rattle.cd_hints.specs.Records.{RecordParts, pair, unmatched_query, unmatched_response, malformed, discarded, query_message, response_message}
use Rattle.cd_hints.specs.Settings.{default_hints}
use Rattle.cd_ident.specs.Headers.{opcode_of}
use Rattle.cd_message.specs.Valid.{ValidRecord, is_opt}
use Rattle.cd_message.specs.WrittenLaws.{RecordNumbersFit}
use Rattle.cd_message.specs.declared.message.Message.{Message}
use Rattle.cd_message.specs.declared.message.Question.{Question}
use Rattle.cd_message.specs.declared.message.Rr.{Rr}
use Rattle.cd_message.specs.declared.message.TheConstants.{OPT}
use Rattle.cd_rebuild.specs.Flags.{is_set}
use Rattle.cd_rebuild.specs.Messages as rebuilt
use Rattle.cd_halves.specs.PlainHalves.{IsPlainQuery, QueriesComeBack}
use Rattle.cd_halves.proofs.Backs.{all_questions, plain_back, other_back, none_found, found_opt, at_last}
use Rattle.cd_halves.proofs.Told.{opt_told, query_none_told}
use Rattle.cd_halves.proofs.Words.{digit, digit_small, query_dns, response_dns, do_told, query_word, ttl_again}

-- messages with equal fields are equal
pub message_by_fields : (a b : Message) → a.id ≡ b.id → a.bits ≡ b.bits → a.questions ≡ b.questions → a.answers ≡ b.answers → a.authority ≡ b.authority →
    a.additional ≡ b.additional → a ≡ b
message_by_fields a b id bits questions answers authority additional =
    λ i. record { id = id i; bits = bits i; questions = questions i; answers = answers i; authority = authority i; additional = additional i }

-- the main message of a record with a query is the query
main_query : (r : RecordParts) (m : Message) → query_message r ≡ Some m → main_message r ≡ Some m
main_query (pair query response) m is = is
main_query (unmatched_query e) m is = is
main_query (unmatched_response e) m is = absurd cc
main_query (malformed e) m is = absurd cc
main_query (discarded e) m is = absurd cc

-- the flags of a response are a number of 256
pub flags_apart : (r : Option Message) → (k : ℕ) × (option_map_or response_dns_flags r 0 ≡ 256 * k)
flags_apart None = (0, refl)
flags_apart (Some m) = (m.bits / 16 % 128, response_dns m)

-- the type and the class of a question, as a signature has them
abbrev classtype_in : Option Question → ℕ × ℕ
classtype_in o = unwrap_or (option_map (λ (q : Question). (q.rtype, q.rclass)) o) (1, 1)

-- a question of these parts
abbrev pub question_of_parts : Option Question → Question
question_of_parts o = record {
  name = unwrap_or (option_map (λ (q : Question). q.name) o) (0 ∷ []);
  rtype = (classtype_in o).0;
  rclass = (classtype_in o).1;
}

module _ (p : Params) (earliest : Stamp) (r : RecordParts) (m : Message) (is : query_message r ≡ Some m) where
  -- the parameters with every supported hint
  abbrev all_kept : Params
  all_kept = record p { hints = default_hints }

  abbrev item : KeptItem
  item = kept_item all_kept earliest r

  abbrev sig : KeptSig
  sig = kept_signature all_kept r

  main : main_message r ≡ Some m
  main = main_query r m is

  -- the DNS flags of the signature
  flags_are : rebuilt.dns_flags sig ≡ query_dns_flags m + option_map_or response_dns_flags (response_message r) 0
  flags_are = ap (λ q. option_map_or query_dns_flags q 0 + option_map_or response_dns_flags (response_message r) 0) is

  rcode_is : unwrap_or sig.query_rcode 0 ≡ full_rcode_of m
  rcode_is = ap (λ q. unwrap_or (option_map full_rcode_of q) 0) is

  opcode_is : unwrap_or sig.opcode 0 ≡ opcode_of m.bits
  opcode_is = ap (λ (q : Option Message). unwrap_or (option_map (λ (x : Message). opcode_of x.bits) q) 0) main

  bits_back : m.bits < 2 ^ 16 → m.bits / 0x8000 % 2 ≡ 0 → rebuilt.query_bits sig ≡ m.bits
  bits_back small qr =
      let apart = flags_apart (response_message r) in
      let own : query_dns_flags m ≡ m.bits / 16 % 128 + digit (is_dnssec_ok m) * 128 = query_dns m in
      let flags : rebuilt.dns_flags sig ≡ m.bits / 16 % 128 + digit (is_dnssec_ok m) * 128 + 256 * apart.0 = flags_are ∙ ap (λ x. x + option_map_or response_dns_flags (response_message r) 0) own ∙ ap (λ x. m.bits / 16 % 128 + digit (is_dnssec_ok m) * 128 + x) apart.1 in
      let low : unwrap_or sig.query_rcode 0 % 16 ≡ m.bits % 16 = ap (λ x. x % 16) rcode_is ∙ omega arith in
      ap (λ x. x % 16 * 0x0800 + rebuilt.query_flags (rebuilt.dns_flags sig) + unwrap_or sig.query_rcode 0 % 16) opcode_is
      ∙ query_word m.bits (rebuilt.dns_flags sig) (unwrap_or sig.query_rcode 0) apart.0 (digit (is_dnssec_ok m)) small qr (digit_small (is_dnssec_ok m)) flags low

  do_is : is_set (rebuilt.dns_flags sig) 128 ≡ is_dnssec_ok m
  do_is =
      let apart = flags_apart (response_message r) in
      let flags : rebuilt.dns_flags sig ≡ m.bits / 16 % 128 + digit (is_dnssec_ok m) * 128 + 256 * apart.0 = flags_are ∙ ap (λ x. x + option_map_or response_dns_flags (response_message r) 0) (query_dns m) ∙ ap (λ x. m.bits / 16 % 128 + digit (is_dnssec_ok m) * 128 + x) apart.1 in
      do_told (m.bits / 16 % 128) apart.0 (rebuilt.dns_flags sig) (is_dnssec_ok m) (omega arith) flags

  -- what the signature flags tell
  has_opt_is : rebuilt.has_opt sig ≡ has_opt m
  has_opt_is = ap (λ q. is_set (signature_flags q (response_message r)) 4) is ∙ opt_told m (response_message r)

  has_none_is : is_set (unwrap_or sig.sig_flags 0) 16 ≡ nat_eq (length m.questions) 0
  has_none_is = ap (λ q. is_set (signature_flags q (response_message r)) 16) is ∙ query_none_told m (response_message r)

  -- the lists of the query
  lists_are : item.query_extended ≡ query_lists all_kept m
  lists_are = ap (λ q. option_map_or (query_lists all_kept) q no_lists) is

  first_is : (q : Question) → slice_get m.questions 0 ≡ Some q → rebuilt.lead_question item sig ≡ q
  first_is q first =
      let lead : lead_question r ≡ Some q =
      ap (λ x. option_or (option_and_then first_question x) (option_and_then first_question (response_message r))) is ∙ ap (λ x. option_or x (option_and_then first_question (response_message r))) first in
      ap question_of_parts lead

  questions_come : rebuilt.questions 16 item sig item.query_extended.question ≡ m.questions
  questions_come = all_questions (is_set (unwrap_or sig.sig_flags 0) 16) (rebuilt.lead_question item sig) item.query_extended.question m.questions has_none_is
      (ap (λ (l : KeptLists). l.question) lists_are) first_is

  answers_come : (plain : IsPlainQuery p.rr_types m) → rebuilt.records_of false item.query_extended.answer ≡ m.answers
  answers_come plain = ap (λ (l : KeptLists). rebuilt.records_of false l.answer) lists_are ∙ plain_back p.rr_types m.answers plain.answers plain.numbers.answers

  authority_come : (plain : IsPlainQuery p.rr_types m) → rebuilt.records_of false item.query_extended.authority ≡ m.authority
  authority_come plain = ap (λ (l : KeptLists). rebuilt.records_of false l.authority) lists_are ∙ plain_back p.rr_types m.authority plain.authority plain.numbers.authority

  others_come : (plain : IsPlainQuery p.rr_types m) (b : Bool) → rebuilt.records_of b item.query_extended.additional ≡ without_opt m.additional
  others_come plain b = ap (λ (l : KeptLists). rebuilt.records_of b l.additional) lists_are ∙ other_back p.rr_types b m.additional plain.additional plain.numbers.additional

  -- the query but for its OPT record
  plain_come : (plain : IsPlainQuery p.rr_types m) → rebuilt.plain_query item sig ≡ record m { additional = without_opt m.additional }
  plain_come plain = message_by_fields (rebuilt.plain_query item sig) (record m { additional = without_opt m.additional })
      (ap (λ (q : Option Message). unwrap_or (option_map (λ (x : Message). x.id) q) 0) main)
      (bits_back plain.numbers.bits plain.qr)
      questions_come (answers_come plain) (authority_come plain) (others_come plain (rebuilt.has_opt sig))

  -- the OPT record that is found
  found_is : (o : Rr) → find is_opt m.additional ≡ Some o → query_opt r ≡ Some (opt_of_record o)
  found_is o found = ap (option_and_then opt_of_message) is ∙ ap (option_map opt_of_record) found

  opt_comes : (plain : IsPlainQuery p.rr_types m) (o : Rr) → find is_opt m.additional ≡ Some o → record_of_opt (rebuilt.query_opt sig) ≡ o
  opt_comes plain o found =
      let opt = found_is o found in
      let last = plain.opt o found in
      let type : o.rtype ≡ OPT = eqb-true o.rtype OPT (found_opt m.additional o found) in
      let valid : ValidRecord o = at_last ValidRecord (without_opt m.additional) o (subst (λ (rs : List Rr). All ValidRecord rs) last.0 plain.valid.additional.records_are_valid) in
      let fits : RecordNumbersFit o = at_last RecordNumbersFit (without_opt m.additional) o (subst (λ (rs : List Rr). All RecordNumbersFit rs) last.0 plain.numbers.additional) in
      let full : unwrap_or sig.query_rcode 0 ≡ m.bits % 16 + 16 * (o.ttl / 16777216) = rcode_is ∙ ap (λ x. m.bits % 16 + 16 * option_map_or ext_rcode_of x 0) found in
      let told : is_set (rebuilt.dns_flags sig) 128 ≡ nat_le 32768 (o.ttl % 65536) = do_is ∙ ap (λ x. option_map_or (λ (y : Opt). y.dnssec_ok) (option_map opt_of_record x) false) found in
      let version : unwrap_or sig.edns_version 0 ≡ o.ttl / 65536 % 256 = ap (λ x. unwrap_or (option_map (λ (y : Opt). y.version) x) 0) opt in
      let size : unwrap_or sig.udp_size 512 ≡ o.rclass = ap (λ x. unwrap_or (option_map (λ (y : Opt). y.udp_size) x) 512) opt in
      let options : unwrap_or sig.opt_rdata [] ≡ o.rdata = ap (λ x. unwrap_or (option_map (λ (y : Opt). y.rdata) x) []) opt in
      let ttl : (record_of_opt (rebuilt.query_opt sig)).ttl ≡ o.ttl =
      ap (λ v. (unwrap_or sig.query_rcode 0 / 16 % 256) * 16777216 + v * 65536 + (if is_set (rebuilt.dns_flags sig) 128 then 32768 else 0)) version
      ∙ ttl_again o.ttl (unwrap_or sig.query_rcode 0) (m.bits % 16) (is_set (rebuilt.dns_flags sig) 128) fits.2 last.1 (omega arith) full told in
      let owner : 0 ∷ [] ≡ o.owner = sym (valid.opt_owner_is_root type) in
      λ i. record { owner = owner i; rtype = sym type i; rclass = size i; ttl = ttl i; rdata = options i }

  -- with its OPT record, by whether one is found
  whole_comes : (plain : IsPlainQuery p.rr_types m) (o : Option Rr) → find is_opt m.additional ≡ o → rebuilt.query_of item sig ≡ m
  whole_comes plain None none =
      let told : rebuilt.has_opt sig ≡ false = has_opt_is ∙ ap (λ x. is_some (option_map opt_of_record x)) none in
      ap (λ b. if b then with_opt (rebuilt.plain_query item sig) (rebuilt.query_opt sig) else rebuilt.plain_query item sig) told
      ∙ plain_come plain ∙ ap (λ (rs : List Rr). record m { additional = rs }) (none_found m.additional none)
  whole_comes plain (Some o) found =
      let told : rebuilt.has_opt sig ≡ true = has_opt_is ∙ ap (λ x. is_some (option_map opt_of_record x)) found in
      ap (λ b. if b then with_opt (rebuilt.plain_query item sig) (rebuilt.query_opt sig) else rebuilt.plain_query item sig) told
      ∙ ap (λ (x : Message). with_opt x (rebuilt.query_opt sig)) (plain_come plain)
      ∙ ap (λ (x : Rr). record m { additional = without_opt m.additional ++ x ∷ [] }) (opt_comes plain o found)
      ∙ ap (λ (rs : List Rr). record m { additional = rs }) (sym (plain.opt o found).0)

-- a plain query comes back
pub queries_come_back : QueriesComeBack
queries_come_back p earliest r m keeps is plain =
    let Q : Hints → Type 0 = λ h. rebuilt.query_of (kept_item (record p { hints = h }) earliest r) (kept_signature (record p { hints = h }) r) ≡ m in
    subst Q (sym keeps) (whole_comes p earliest r m is plain (find is_opt m.additional) refl)
