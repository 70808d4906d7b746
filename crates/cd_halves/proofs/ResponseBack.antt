-- A plain response comes back.
use Rattle.std.proofs.Common.{◌≡◌, ◌+◌, ◌*◌, ◌/◌, ◌%◌, ◌<◌, false, nat_eq, length, Option, Some, None, sym, ap, ◌∙◌, subst, arith}
use Rattle.std.specs.Prelude.{slice_get, unwrap_or}
use Rattle.std.specs.Option.{option_map, option_map_or}
use Rattle.cd_block.specs.declared.hints.Hints.{Hints}
use Rattle.cd_block.specs.declared.kept.KeptItem.{KeptItem}
use Rattle.cd_block.specs.declared.kept.KeptLists.{KeptLists}
use Rattle.cd_block.specs.declared.kept.KeptSig.{KeptSig}
use Rattle.cd_block.specs.declared.params.Params.{Params}
use Rattle.cd_block.specs.declared.stamp.Stamp.{Stamp}
use Rattle.cd_edns.specs.Opts.{full_rcode_of}
use Rattle.cd_hints.specs.Flags.{signature_flags, query_dns_flags, response_dns_flags, is_dnssec_ok}
use Rattle.cd_hints.specs.Items.{kept_item, kept_signature}
use Rattle.cd_hints.specs.Lists.{response_lists, no_lists}
use Rattle.cd_hints.specs.Records.{RecordParts, query_message, response_message}
use Rattle.cd_hints.specs.Settings.{default_hints}
use Rattle.cd_ident.specs.Headers.{opcode_of}
use Rattle.cd_message.specs.declared.message.Message.{Message}
use Rattle.cd_message.specs.declared.message.Question.{Question}
use Rattle.cd_rebuild.specs.Flags.{is_set}
use Rattle.cd_rebuild.specs.Messages as rebuilt
use Rattle.cd_halves.specs.PlainHalves.{IsPlainResponse, ResponsesComeBack}
use Rattle.cd_halves.proofs.Backs.{all_questions, plain_back}
use Rattle.cd_halves.proofs.QueryBack.{message_by_fields, question_of_parts}
use Rattle.cd_halves.proofs.Told.{response_none_told}
use Rattle.cd_halves.proofs.Words.{digit_small, query_dns, response_dns, response_word}

-- the flags of a query are below 256
query_below : (q : Option Message) → option_map_or query_dns_flags q 0 < 256
query_below None = omega arith
query_below (Some m) = omega (arith, query_dns m, digit_small (is_dnssec_ok m))

module _ (p : Params) (earliest : Stamp) (r : RecordParts) (m : Message) (is : response_message r ≡ Some m) (plain : IsPlainResponse p.rr_types r m) where
  -- the parameters with every supported hint
  abbrev all_kept : Params
  all_kept = record p { hints = default_hints }

  abbrev item : KeptItem
  item = kept_item all_kept earliest r

  abbrev sig : KeptSig
  sig = kept_signature all_kept r

  -- the DNS flags of the signature
  flags_are : rebuilt.dns_flags sig ≡ option_map_or query_dns_flags (query_message r) 0 + 256 * (m.bits / 16 % 128)
  flags_are = ap (λ x. option_map_or query_dns_flags (query_message r) 0 + option_map_or response_dns_flags x 0) is
      ∙ ap (λ x. option_map_or query_dns_flags (query_message r) 0 + x) (response_dns m)

  rcode_is : unwrap_or sig.response_rcode 0 ≡ full_rcode_of m
  rcode_is = ap (λ q. unwrap_or (option_map full_rcode_of q) 0) is

  opcode_is : unwrap_or sig.opcode 0 ≡ opcode_of m.bits
  opcode_is = ap (λ x. unwrap_or x 0) plain.opcode

  bits_back : rebuilt.response_bits sig ≡ m.bits
  bits_back =
      let low : unwrap_or sig.response_rcode 0 % 16 ≡ m.bits % 16 = ap (λ x. x % 16) rcode_is ∙ omega arith in
      ap (λ x. 0x8000 + x % 16 * 0x0800 + rebuilt.response_flags (rebuilt.dns_flags sig) + unwrap_or sig.response_rcode 0 % 16) opcode_is
      ∙ response_word m.bits (rebuilt.dns_flags sig) (unwrap_or sig.response_rcode 0) (option_map_or query_dns_flags (query_message r) 0) plain.numbers.bits plain.qr
      (query_below (query_message r)) flags_are low

  has_none_is : is_set (unwrap_or sig.sig_flags 0) 32 ≡ nat_eq (length m.questions) 0
  has_none_is = ap (λ x. is_set (signature_flags (query_message r) x) 32) is ∙ response_none_told (query_message r) m

  -- the lists of the response
  lists_are : item.response_extended ≡ response_lists all_kept m
  lists_are = ap (λ q. option_map_or (response_lists all_kept) q no_lists) is

  first_is : (q : Question) → slice_get m.questions 0 ≡ Some q → rebuilt.lead_question item sig ≡ q
  first_is q first = ap question_of_parts (plain.question q first)

  questions_come : rebuilt.questions 32 item sig item.response_extended.question ≡ m.questions
  questions_come = all_questions (is_set (unwrap_or sig.sig_flags 0) 32) (rebuilt.lead_question item sig) item.response_extended.question m.questions has_none_is
      (ap (λ (l : KeptLists). l.question) lists_are) first_is

  -- the response
  whole_comes : rebuilt.response_of item sig ≡ m
  whole_comes = message_by_fields (rebuilt.response_of item sig) m
      (ap (λ x. unwrap_or x 0) plain.id)
      bits_back questions_come
      (ap (λ (l : KeptLists). rebuilt.records_of false l.answer) lists_are ∙ plain_back p.rr_types m.answers plain.answers plain.numbers.answers)
      (ap (λ (l : KeptLists). rebuilt.records_of false l.authority) lists_are ∙ plain_back p.rr_types m.authority plain.authority plain.numbers.authority)
      (ap (λ (l : KeptLists). rebuilt.records_of false l.additional) lists_are ∙ plain_back p.rr_types m.additional plain.additional plain.numbers.additional)

-- a plain response comes back
pub responses_come_back : ResponsesComeBack
responses_come_back p earliest r m keeps is plain =
    let Q : Hints → Type 0 = λ h. rebuilt.response_of (kept_item (record p { hints = h }) earliest r) (kept_signature (record p { hints = h }) r) ≡ m in
    subst Q (sym keeps) (whole_comes p earliest r m is plain)
