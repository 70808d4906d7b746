-- The messages of an item (RFC 1035 4.1, RFC 4035 3.1.6, RFC 6891 6.1), from what is kept of it (RFC 8618 7.3.2.3.2,
-- 7.3.2.4). What is absent is 0 or empty, but for a question and an OPT record.
use Rattle.std.specs.Prelude.{ℕ, ◌+◌, ◌*◌, ◌/◌, ◌%◌, ◌^◌, Bool, false, not, ◌&&◌, nat_eq, List, [], ◌∷◌, ◌++◌, map, filter, if◌then◌else◌}
use Rattle.std.specs.Prelude.{Option, unwrap_or}
use Rattle.std.specs.Int.{bit_at}
use Rattle.cd_block.specs.declared.flags.TheConstants as flag
use Rattle.cd_block.specs.declared.kept.KeptQuestion.{KeptQuestion}
use Rattle.cd_block.specs.declared.kept.KeptRr.{KeptRr}
use Rattle.cd_block.specs.declared.kept.KeptSig.{KeptSig}
use Rattle.cd_block.specs.declared.kept.KeptItem.{KeptItem}
use Rattle.cd_edns.specs.declared.opt_record.Opt.{Opt}
use Rattle.cd_edns.specs.Opts.{with_opt}
use Rattle.cd_message.specs.declared.message.Question.{Question}
use Rattle.cd_message.specs.declared.message.Rr.{Rr}
use Rattle.cd_message.specs.declared.message.Message.{Message}
use Rattle.cd_message.specs.declared.message.TheConstants.{OPT}
use Rattle.cd_rebuild.specs.Flags.{is_set, has_flag}

-- the DNS flags of a signature
abbrev pub dns_flags : KeptSig → ℕ
dns_flags s = unwrap_or s.dns_flags 0

-- CD, AD, Z, RA, RD, TC and AA of a query, each where it stands in the second word of the header (RFC 1035 4.1.1, RFC
-- 4035 3.1.6)
abbrev pub query_flags : ℕ → ℕ
query_flags flags =
    bit_at flags 0 * 0x0010 + bit_at flags 1 * 0x0020 + bit_at flags 2 * 0x0040 + bit_at flags 3 * 0x0080
    + bit_at flags 4 * 0x0100 + bit_at flags 5 * 0x0200 + bit_at flags 6 * 0x0400

-- the same of a response
abbrev pub response_flags : ℕ → ℕ
response_flags flags =
    bit_at flags 8 * 0x0010 + bit_at flags 9 * 0x0020 + bit_at flags 10 * 0x0040 + bit_at flags 11 * 0x0080
    + bit_at flags 12 * 0x0100 + bit_at flags 13 * 0x0200 + bit_at flags 14 * 0x0400

-- the opcode where it stands in the second word of the header (RFC 1035 4.1.1)
abbrev pub opcode_bits : KeptSig → ℕ
opcode_bits s = unwrap_or s.opcode 0 % 16 * 0x0800

-- the second word of the header of a query: opcode, flags and the low four bits of the RCODE (RFC 1035 4.1.1)
abbrev pub query_bits : KeptSig → ℕ
query_bits s = opcode_bits s + query_flags (dns_flags s) + unwrap_or s.query_rcode 0 % 16

-- the same of a response, with QR
abbrev pub response_bits : KeptSig → ℕ
response_bits s = 0x8000 + opcode_bits s + response_flags (dns_flags s) + unwrap_or s.response_rcode 0 % 16

-- a question (RFC 1035 4.1.2)
abbrev pub question_of : KeptQuestion → Question
question_of q = record { name = q.name; rtype = q.rtype; rclass = q.rclass }

-- the type and the class of the lead question; where they are absent, type A and class IN
abbrev pub classtype : KeptSig → ℕ × ℕ
classtype s = unwrap_or s.classtype (1, 1)

-- the lead question of an item; its name is the root where it is absent
abbrev pub lead_question : KeptItem → KeptSig → Question
lead_question i s = record {
  name = unwrap_or i.query_name (0 ∷ []);
  rtype = (classtype s).0;
  rclass = (classtype s).1;
}

-- the questions of a half: the lead question, unless the half's flag says that it has none, and the further ones
abbrev pub questions : ℕ → KeptItem → KeptSig → List KeptQuestion → List Question
questions has_none i s further =
    (if has_flag s has_none then [] else lead_question i s ∷ []) ++ map question_of further

-- a resource record, with the low 32 bits of its TTL (RFC 1035 4.1.3)
abbrev pub record_of : KeptRr → Rr
record_of r = record {
  owner = r.name;
  rtype = r.rtype;
  rclass = r.rclass;
  ttl = unwrap_or r.ttl 0 % 2 ^ 32;
  rdata = unwrap_or r.rdata [];
}

-- the query has an OPT record (RFC 6891 6.1.1)
abbrev pub has_opt : KeptSig → Bool
has_opt s = has_flag s flag.SIG_QUERY_HAS_OPT

-- a resource record stands in the message: where the OPT record is told apart, it is none of that type
abbrev pub is_rendered : Bool → KeptRr → Bool
is_rendered opt_apart r = not (opt_apart && nat_eq r.rtype OPT)

-- the resource records of a list that stand in the message
abbrev pub records_of : Bool → List KeptRr → List Rr
records_of opt_apart records = map record_of (filter (is_rendered opt_apart) records)

-- a query without its OPT record
abbrev pub plain_query : KeptItem → KeptSig → Message
plain_query i s = record {
  id = unwrap_or i.transaction_id 0;
  bits = query_bits s;
  questions = questions flag.SIG_QUERY_HAS_NO_QUESTION i s i.query_extended.question;
  answers = records_of false i.query_extended.answer;
  authority = records_of false i.query_extended.authority;
  additional = records_of (has_opt s) i.query_extended.additional;
}

-- what the OPT record of a query means: the RCODE has its bits 4 to 11 there (RFC 6891 6.1.2, 6.1.3)
abbrev pub query_opt : KeptSig → Opt
query_opt s = record {
  udp_size = unwrap_or s.udp_size 512;
  ext_rcode = unwrap_or s.query_rcode 0 / 16 % 256;
  version = unwrap_or s.edns_version 0;
  dnssec_ok = is_set (dns_flags s) flag.DNS_QUERY_DO;
  rdata = unwrap_or s.opt_rdata [];
}

-- The query of an item; its OPT record comes last.
abbrev pub query_of : KeptItem → KeptSig → Message
query_of i s = if has_opt s then with_opt (plain_query i s) (query_opt s) else plain_query i s

-- The response of an item.
abbrev pub response_of : KeptItem → KeptSig → Message
response_of i s = record {
  id = unwrap_or i.transaction_id 0;
  bits = response_bits s;
  questions = questions flag.SIG_RESPONSE_HAS_NO_QUESTION i s i.response_extended.question;
  answers = records_of false i.response_extended.answer;
  authority = records_of false i.response_extended.authority;
  additional = records_of false i.response_extended.additional;
}
