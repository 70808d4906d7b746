-- The numbers of a kept signature are in the ranges of their types.
use Rattle.std.proofs.Common.{ℕ, ◌<◌, ◌≤◌, Bool, true, false, length, Option, Some, None, arith}
use Rattle.std.specs.Prelude.{IfSome, if◌then◌else◌, option_and_then}
use Rattle.std.specs.Option.{option_map, option_map_or}
use Rattle.std.specs.List.{find}
use Rattle.std.proofs.lemmas.Nat.Bits.{bit_at-lt}
use Rattle.cd_block.specs.Tables.{KeptTables, indexed_signature}
use Rattle.cd_block.specs.declared.params.Params.{Params}
use Rattle.cd_message.specs.declared.message.Rr.{Rr}
use Rattle.cd_message.specs.declared.message.Message.{Message}
use Rattle.cd_message.specs.Valid.{is_opt}
use Rattle.cd_edns.specs.Opts.{opt_of_record, opt_of_message, full_rcode_of, ext_rcode_of}
use Rattle.cd_ident.specs.Events.{EventParts}
use Rattle.cd_ident.specs.Headers.{opcode_of}
use Rattle.cd_ident.specs.Identifiers.{transport_of}
use Rattle.cd_hints.specs.Hinted.{is_hinted, kept}
use Rattle.cd_hints.specs.Flags.{flag_where, transport_flags, signature_flags, dns_flags, query_signature_flags, response_signature_flags, query_dns_flags, response_dns_flags, has_opt, has_no_question, is_dnssec_ok}
use Rattle.cd_hints.specs.Items.{kept_signature, main_message, is_query_trailing}
use Rattle.cd_hints.specs.Records.{RecordParts, main_event, query_of, query_message, response_message}
use Rattle.cd_file.specs.Ranges.{IsByte, IsWord, SignatureInRange}
use Rattle.cd_size.specs.Ranges.{EventInRange}
use Rattle.cd_size.proofs.Fits.{MessageIsFit, RrIsSmall, small_records, all_find}

-- a value that is there or not
there_or_not : {X : Type 0} (P : X → Type 0) (b : Bool) (v : Option X) → IfSome v P → IfSome (if b then v else None) P
there_or_not P true v holds = holds
there_or_not P false v holds = tt

-- what holds of a value holds of what is kept of it
pub kept_within : {X : Type 0} (P : X → Type 0) (hints hint : ℕ) (v : Option X) → IfSome v P →
    IfSome (kept hints hint v) P
kept_within P hints hint v holds = there_or_not P (is_hinted hints hint) v holds

-- what holds of a value that is made of another
pub mapped : {X Y : Type 0} (P : X → Type 0) (Q : Y → Type 0) (f : X → Y) (v : Option X) → ((x : X) → P x → Q (f x)) →
    IfSome v P → IfSome (option_map f v) Q
mapped P Q f None follows holds = tt
mapped P Q f (Some x) follows holds = follows x holds

-- a flag that is set or not
flag_small : (b : Bool) (n : ℕ) → flag_where b n ≤ n
flag_small true n = omega arith
flag_small false n = omega arith

-- transport flags
pub transport_flags_short : (e : EventParts) (trailing : Bool) → transport_of e.ids ≤ 15 →
    transport_flags e trailing < 0x100
transport_flags_short e trailing few = omega (arith, few, flag_small e.client.v6 1, flag_small trailing 32)

-- signature flags of a query
query_part : (m : Option Message) → option_map_or query_signature_flags m 0 ≤ 21
query_part None = omega arith
query_part (Some m) = omega (arith, flag_small (has_opt m) 4, flag_small (has_no_question m) 16)

-- signature flags of a response
response_part : (m : Option Message) → option_map_or response_signature_flags m 0 ≤ 42
response_part None = omega arith
response_part (Some m) = omega (arith, flag_small (has_opt m) 8, flag_small (has_no_question m) 32)

-- signature flags
signature_flags_short : (query response : Option Message) → signature_flags query response < 0x100
signature_flags_short query response = omega (arith, query_part query, response_part response)

-- DNS flags of a query
query_bits : (m : Option Message) → option_map_or query_dns_flags m 0 ≤ 255
query_bits None = omega arith
query_bits (Some m) =
    omega (
      arith,
      flag_small (is_dnssec_ok m) 128,
      bit_at-lt m.bits 4,
      bit_at-lt m.bits 5,
      bit_at-lt m.bits 6,
      bit_at-lt m.bits 7,
      bit_at-lt m.bits 8,
      bit_at-lt m.bits 9,
      bit_at-lt m.bits 10,
    )

-- DNS flags of a response
response_bits : (m : Option Message) → option_map_or response_dns_flags m 0 ≤ 32512
response_bits None = omega arith
response_bits (Some m) =
    omega (
      arith,
      bit_at-lt m.bits 4,
      bit_at-lt m.bits 5,
      bit_at-lt m.bits 6,
      bit_at-lt m.bits 7,
      bit_at-lt m.bits 8,
      bit_at-lt m.bits 9,
      bit_at-lt m.bits 10,
    )

-- DNS flags
dns_flags_short : (query response : Option Message) → dns_flags query response < 0x1_0000
dns_flags_short query response = omega (arith, query_bits query, response_bits response)

-- an opcode
opcode_short : (bits : ℕ) → opcode_of bits < 0x100
opcode_short bits = omega arith

-- the OPT record of a message is small
pub found_opt : (m : Message) → MessageIsFit m → IfSome (find is_opt m.additional) RrIsSmall
found_opt m fit =
    all_find RrIsSmall is_opt m.additional
    (small_records m.additional fit.valid.additional.records_are_valid fit.range.additional)

-- the top byte of its TTL is a byte
pub ext_rcode_short : (o : Option Rr) → IfSome o RrIsSmall → option_map_or ext_rcode_of o 0 < 0x100
ext_rcode_short None small = omega arith
ext_rcode_short (Some r) small = let ttl : r.ttl < 0x1_0000_0000 = small.range.ttl in omega (arith, ttl)

-- an RCODE of twelve bits
rcode_short : (m : Message) → MessageIsFit m → full_rcode_of m < 0x1_0000
rcode_short m fit = omega (arith, ext_rcode_short (find is_opt m.additional) (found_opt m fit))

-- the version of EDNS
version_short : (o : Option Rr) → IfSome (option_map (λ o. o.version) (option_map opt_of_record o)) (λ n. n < 0x100)
version_short None = tt
version_short (Some r) = omega arith

-- the size of a payload that the sender takes
udp_size_short : (o : Option Rr) → IfSome o RrIsSmall →
    IfSome (option_map (λ o. o.udp_size) (option_map opt_of_record o)) (λ n. n < 0x1_0000)
udp_size_short None small = tt
udp_size_short (Some r) small = small.range.rclass

-- the version of a query's OPT record
query_version : (m : Option Message) →
    IfSome (option_map (λ o. o.version) (option_and_then opt_of_message m)) (λ n. n < 0x100)
query_version None = tt
query_version (Some m) = version_short (find is_opt m.additional)

-- the size that a query's OPT record says
query_size : (m : Option Message) → IfSome m MessageIsFit →
    IfSome (option_map (λ o. o.udp_size) (option_and_then opt_of_message m)) (λ n. n < 0x1_0000)
query_size None fit = tt
query_size (Some m) fit = udp_size_short (find is_opt m.additional) (found_opt m fit)

-- what the record of a signature is made of: its main event is in range, and its messages are fit
pub record IsFit (r : RecordParts) : Type 0 where
  pub main : EventInRange (main_event r)
  pub main_fits : IfSome (main_message r) MessageIsFit
  pub query_event : IfSome (query_of r) EventInRange
  pub query : IfSome (query_message r) MessageIsFit
  pub response : IfSome (response_message r) MessageIsFit

-- a number of two bytes that is kept or not
pub kept_word : (hints hint : ℕ) (v : Option ℕ) → IsWord v → IsWord (kept hints hint v)
kept_word hints hint v holds = kept_within (λ n. n < 0x1_0000) hints hint v holds

-- a byte that is kept or not
pub kept_byte : (hints hint : ℕ) (v : Option ℕ) → IsByte v → IsByte (kept hints hint v)
kept_byte hints hint v holds = kept_within (λ n. n < 0x100) hints hint v holds

-- a number of two bytes of a message
pub word_of : (f : Message → ℕ) (m : Option Message) → ((x : Message) → MessageIsFit x → f x < 0x1_0000) →
    IfSome m MessageIsFit → IsWord (option_map f m)
word_of f m short fit = mapped MessageIsFit (λ n. n < 0x1_0000) f m short fit

-- an opcode of a message
opcode_of_message : (m : Option Message) → IsByte (option_map (λ x. opcode_of x.bits) m)
opcode_of_message None = tt
opcode_of_message (Some m) = opcode_short m.bits

-- the number of questions
few_questions : (m : Message) → MessageIsFit m → length m.questions < 0x1_0000
few_questions m fit = let few = fit.valid.few_questions in omega (arith, few)

-- the number of answers
few_answers : (m : Message) → MessageIsFit m → length m.answers < 0x1_0000
few_answers m fit = let few = fit.valid.answers.few_records in omega (arith, few)

-- the number of authority records
few_authority : (m : Message) → MessageIsFit m → length m.authority < 0x1_0000
few_authority m fit = let few = fit.valid.authority.few_records in omega (arith, few)

-- the number of additional records
few_additional : (m : Message) → MessageIsFit m → length m.additional < 0x1_0000
few_additional m fit = let few = fit.valid.additional.few_records in omega (arith, few)

-- a kept signature
pub signature_in_range : (t : KeptTables) (p : Params) (r : RecordParts) → IsFit r →
    SignatureInRange (indexed_signature t (kept_signature p r))
unfolding indexed_signature
signature_in_range t p r fit =
    let transport = transport_flags_short (main_event r) (is_query_trailing r) fit.main.transport in
    record {
      server_port = kept_word _ _ (Some (main_event r).server_port) fit.main.server_port;
      transport_flags = kept_byte _ _ (Some (transport_flags (main_event r) (is_query_trailing r))) transport;
      sig_flags = kept_byte _ _ (Some _) (signature_flags_short (query_message r) (response_message r));
      opcode = kept_byte _ _ _ (opcode_of_message (main_message r));
      dns_flags = kept_word _ _ (Some _) (dns_flags_short (query_message r) (response_message r));
      query_rcode = kept_word _ _ _ (word_of full_rcode_of (query_message r) rcode_short fit.query);
      qd = kept_word _ _ _ (word_of (λ m. length m.questions) (main_message r) few_questions fit.main_fits);
      an = kept_word _ _ _ (word_of (λ m. length m.answers) (query_message r) few_answers fit.query);
      ns = kept_word _ _ _ (word_of (λ m. length m.authority) (query_message r) few_authority fit.query);
      ar = kept_word _ _ _ (word_of (λ m. length m.additional) (query_message r) few_additional fit.query);
      edns_version = kept_byte _ _ _ (query_version (query_message r));
      udp_size = kept_word _ _ _ (query_size (query_message r) fit.query);
      response_rcode = kept_word _ _ _ (word_of full_rcode_of (response_message r) rcode_short fit.response);
    }
