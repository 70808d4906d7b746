-- OPT records and what their fields mean (RFC 6891 6.1.2, 6.1.3).
use Rattle.std.specs.Prelude.{◌≡◌, ◌≢◌, ℕ, ◌+◌, ◌*◌, ◌/◌, ◌%◌, ◌<◌, nat_le, Bool, [], ◌∷◌, ◌++◌, if◌then◌else◌, Option, Some}
use Rattle.std.specs.List.{All, find}
use Rattle.std.specs.Option.{option_map, option_map_or}
use Rattle.cd_message.specs.declared.message.Message.{Message}
use Rattle.cd_message.specs.declared.message.Rr.{Rr}
use Rattle.cd_message.specs.declared.message.TheConstants.{OPT}
use Rattle.cd_message.specs.Valid.{is_opt}
use Rattle.cd_edns.specs.declared.opt_record.Opt.{Opt}
use Rattle.cd_edns.specs.declared.opt_record.OptRef.{OptRef}

-- no additional record of the message is an OPT record
abbrev pub HasNoOpt : Message → Type 0
HasNoOpt message = All (λ r. r.rtype ≢ OPT) message.additional

-- the top byte of an OPT record's TTL
abbrev pub ext_rcode_of : Rr → ℕ
ext_rcode_of r = r.ttl / 16777216

-- what an OPT record means: of the TTL the next byte is the version, and the top bit of the low half is DO
abbrev pub opt_of_record : Rr → Opt
opt_of_record r = record { udp_size = r.rclass; ext_rcode = ext_rcode_of r; version = r.ttl / 65536 % 256; dnssec_ok = nat_le 32768 (r.ttl % 65536); rdata = r.rdata }

-- what an OPT record means, without where its options lie in memory
abbrev pub opt_seen : OptRef → Opt
opt_seen o = record { udp_size = o.udp_size; ext_rcode = o.ext_rcode; version = o.version; dnssec_ok = o.dnssec_ok; rdata = o.rdata.now }

-- what the message's OPT record means, if it has one
abbrev pub opt_of_message : Message → Option Opt
opt_of_message message = option_map opt_of_record (find is_opt message.additional)

-- the low four bits of the header's second word, and sixteen times the top byte of the OPT record's TTL
abbrev pub full_rcode_of : Message → ℕ
full_rcode_of message = message.bits % 16 + 16 * option_map_or ext_rcode_of (find is_opt message.additional) 0

-- a TTL of these fields; the bits after DO are 0
abbrev pub ttl_of_opt : ℕ → ℕ → Bool → ℕ
ttl_of_opt ext_rcode version dnssec_ok = ext_rcode * 16777216 + version * 65536 + (if dnssec_ok then 32768 else 0)

-- the OPT record with these fields, whose owner is the root
abbrev pub record_of_opt : Opt → Rr
record_of_opt opt = record { owner = 0 ∷ []; rtype = OPT; rclass = opt.udp_size; ttl = ttl_of_opt opt.ext_rcode opt.version opt.dnssec_ok; rdata = opt.rdata }

-- the message with an OPT record after its additional records
abbrev pub with_opt : Message → Opt → Message
with_opt message opt = record message { additional = message.additional ++ record_of_opt opt ∷ [] }

-- an OPT record that is put into a message with none is the one that it then has
abbrev pub OptsAreGivenBack : Type 0
OptsAreGivenBack = (message : Message) (opt : Opt) → HasNoOpt message → opt.ext_rcode < 256 → opt.version < 256 →
    opt_of_message (with_opt message opt) ≡ Some opt
