-- Whether two kept values are equal, field by field and byte by byte.
use Rattle.std.specs.Prelude.{ℕ, Bool, ◌&&◌, nat_eq, List}
use Rattle.std.specs.Option.{option_eq}
use Rattle.std.specs.Cmp.Lexicographic.{pointwise}
use Rattle.cd_block.specs.declared.kept.KeptQuestion.{KeptQuestion}
use Rattle.cd_block.specs.declared.kept.KeptRr.{KeptRr}
use Rattle.cd_block.specs.declared.kept.KeptSig.{KeptSig}
use Rattle.cd_block.specs.declared.kept.KeptData.{KeptData}

-- bytes as they are: letters that differ in case alone differ
abbrev pub same_bytes : List ℕ → List ℕ → Bool
same_bytes a b = pointwise nat_eq a b

-- a type and a class
abbrev pub same_classtype : ℕ × ℕ → ℕ × ℕ → Bool
same_classtype a b = nat_eq a.0 b.0 && nat_eq a.1 b.1

-- a question
abbrev pub same_question : KeptQuestion → KeptQuestion → Bool
same_question a b = same_bytes a.name b.name && (nat_eq a.rtype b.rtype && nat_eq a.rclass b.rclass)

-- a list of questions
abbrev pub same_questions : List KeptQuestion → List KeptQuestion → Bool
same_questions a b = pointwise same_question a b

-- a resource record
abbrev pub same_record : KeptRr → KeptRr → Bool
same_record a b =
    same_bytes a.name b.name
    && (nat_eq a.rtype b.rtype
    && (nat_eq a.rclass b.rclass
    && (option_eq nat_eq a.ttl b.ttl
    && option_eq same_bytes a.rdata b.rdata)))

-- a list of resource records
abbrev pub same_records : List KeptRr → List KeptRr → Bool
same_records a b = pointwise same_record a b

-- a signature
abbrev pub same_signature : KeptSig → KeptSig → Bool
same_signature a b =
    option_eq same_bytes a.server_address b.server_address
    && (option_eq nat_eq a.server_port b.server_port
    && (option_eq nat_eq a.transport_flags b.transport_flags
    && (option_eq nat_eq a.sig_flags b.sig_flags
    && (option_eq nat_eq a.opcode b.opcode
    && (option_eq nat_eq a.dns_flags b.dns_flags
    && (option_eq nat_eq a.query_rcode b.query_rcode
    && (option_eq same_classtype a.classtype b.classtype
    && (option_eq nat_eq a.qd b.qd
    && (option_eq nat_eq a.an b.an
    && (option_eq nat_eq a.ns b.ns
    && (option_eq nat_eq a.ar b.ar
    && (option_eq nat_eq a.edns_version b.edns_version
    && (option_eq nat_eq a.udp_size b.udp_size
    && (option_eq same_bytes a.opt_rdata b.opt_rdata
    && option_eq nat_eq a.response_rcode b.response_rcode))))))))))))))

-- the data of a malformed message
abbrev pub same_data : KeptData → KeptData → Bool
same_data a b =
    option_eq same_bytes a.server_address b.server_address
    && (option_eq nat_eq a.server_port b.server_port
    && (option_eq nat_eq a.transport_flags b.transport_flags
    && option_eq same_bytes a.payload b.payload))
