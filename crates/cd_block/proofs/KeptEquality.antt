-- Each test of two kept values decides whether they are equal.
use Rattle.std.proofs.Common.{◌≡◌, ℕ, Bool, true, ◌&&◌, List, Option, Some, None, nat_eq, Decides, refl, ap, sym, ◌∙◌}
use Rattle.std.specs.Option.{option_eq}
use Rattle.std.proofs.lemmas.Slice.Eq.{bytes_eq-Decides, slice_eq-Decides}
use Rattle.std.proofs.lemmas.Bool.{and_parts}
use Rattle.std.proofs.lemmas.Bool.Decides.{Decides-eqb}
use Rattle.cd_block.specs.declared.kept.KeptQuestion.{KeptQuestion}
use Rattle.cd_block.specs.declared.kept.KeptRr.{KeptRr}
use Rattle.cd_block.specs.declared.kept.KeptSig.{KeptSig}
use Rattle.cd_block.specs.declared.kept.KeptData.{KeptData}
use Rattle.cd_block.specs.Equality.{same_bytes, same_classtype, same_question, same_questions, same_record, same_records, same_signature, same_data}

-- a test of values that may be absent
option_decides : {T : Type 0} (same : T → T → Bool) → ((a b : T) → Decides (same a b) (a ≡ b)) → (a b : Option T) → Decides (option_eq same a b) (a ≡ b)
option_decides same decides None None = (λ _. refl, λ _. refl)
option_decides same decides None (Some y) = (λ h. absurd cc, λ e. absurd cc)
option_decides same decides (Some x) None = (λ h. absurd cc, λ e. absurd cc)
option_decides same decides (Some x) (Some y) =
    (λ h. ap (λ v. Some v) ((decides x y).0 h), λ e. let inner : x ≡ y = cc in (decides x y).1 inner)

-- a test that is true of equal values only, and of each value and itself, decides
decided : {T : Type 0} (same : T → T → Bool) → ((a b : T) → same a b ≡ true → a ≡ b) → ((a : T) → same a a ≡ true) → (a b : T) → Decides (same a b) (a ≡ b)
decided same equal itself a b = (equal a b, λ e. ap (same a) (sym e) ∙ itself a)

-- bytes
pub bytes_decides : (a b : List ℕ) → Decides (same_bytes a b) (a ≡ b)
bytes_decides = bytes_eq-Decides

-- bytes that may be absent
optional_bytes_decides : (a b : Option (List ℕ)) → Decides (option_eq same_bytes a b) (a ≡ b)
optional_bytes_decides = option_decides same_bytes bytes_decides

-- numbers
number_decides : (a b : ℕ) → Decides (nat_eq a b) (a ≡ b)
number_decides = Decides-eqb

-- numbers that may be absent
optional_number_decides : (a b : Option ℕ) → Decides (option_eq nat_eq a b) (a ≡ b)
optional_number_decides = option_decides nat_eq number_decides

and_true : (p q : Bool) → p ≡ true → q ≡ true → (p && q) ≡ true
and_true p q h k = ap (λ b. b && q) h ∙ k

classtype_equal : (a b : ℕ × ℕ) → same_classtype a b ≡ true → a ≡ b
classtype_equal a b h0 =
    let t1 : Bool = nat_eq a.1 b.1 in
    let h1 = and_parts (nat_eq a.0 b.0) t1 h0 in
    let e0 : a.0 ≡ b.0 = (number_decides a.0 b.0).0 h1.0 in
    let e1 : a.1 ≡ b.1 = (number_decides a.1 b.1).0 h1.1 in
    λ i. (e0 i, e1 i)

classtype_itself : (a : ℕ × ℕ) → same_classtype a a ≡ true
classtype_itself a =
    let t1 : Bool = nat_eq a.1 a.1 in
    let h1 : t1 ≡ true = (number_decides a.1 a.1).1 refl in
    and_true (nat_eq a.0 a.0) t1 ((number_decides a.0 a.0).1 refl) h1

-- a type and a class
pub classtype_decides : (a b : ℕ × ℕ) → Decides (same_classtype a b) (a ≡ b)
classtype_decides = decided same_classtype classtype_equal classtype_itself

-- a type and a class that may be absent
optional_classtype_decides : (a b : Option (ℕ × ℕ)) → Decides (option_eq same_classtype a b) (a ≡ b)
optional_classtype_decides = option_decides same_classtype classtype_decides

question_equal : (a b : KeptQuestion) → same_question a b ≡ true → a ≡ b
question_equal a b h0 =
    let t2 : Bool = nat_eq a.rclass b.rclass in
    let t1 : Bool = nat_eq a.rtype b.rtype && t2 in
    let h1 = and_parts (same_bytes a.name b.name) t1 h0 in
    let h2 = and_parts (nat_eq a.rtype b.rtype) t2 h1.1 in
    let e0 : a.name ≡ b.name = (bytes_decides a.name b.name).0 h1.0 in
    let e1 : a.rtype ≡ b.rtype = (number_decides a.rtype b.rtype).0 h2.0 in
    let e2 : a.rclass ≡ b.rclass = (number_decides a.rclass b.rclass).0 h2.1 in
    λ i. record { name = e0 i; rtype = e1 i; rclass = e2 i }

question_itself : (a : KeptQuestion) → same_question a a ≡ true
question_itself a =
    let t2 : Bool = nat_eq a.rclass a.rclass in
    let t1 : Bool = nat_eq a.rtype a.rtype && t2 in
    let h2 : t2 ≡ true = (number_decides a.rclass a.rclass).1 refl in
    let h1 : t1 ≡ true = and_true (nat_eq a.rtype a.rtype) t2 ((number_decides a.rtype a.rtype).1 refl) h2 in
    and_true (same_bytes a.name a.name) t1 ((bytes_decides a.name a.name).1 refl) h1

-- a question
pub question_decides : (a b : KeptQuestion) → Decides (same_question a b) (a ≡ b)
question_decides = decided same_question question_equal question_itself

-- a list of questions
pub questions_decides : (a b : List KeptQuestion) → Decides (same_questions a b) (a ≡ b)
questions_decides a b = slice_eq-Decides question_decides a b (same_questions a b) refl

record_equal : (a b : KeptRr) → same_record a b ≡ true → a ≡ b
record_equal a b h0 =
    let t4 : Bool = option_eq same_bytes a.rdata b.rdata in
    let t3 : Bool = option_eq nat_eq a.ttl b.ttl && t4 in
    let t2 : Bool = nat_eq a.rclass b.rclass && t3 in
    let t1 : Bool = nat_eq a.rtype b.rtype && t2 in
    let h1 = and_parts (same_bytes a.name b.name) t1 h0 in
    let h2 = and_parts (nat_eq a.rtype b.rtype) t2 h1.1 in
    let h3 = and_parts (nat_eq a.rclass b.rclass) t3 h2.1 in
    let h4 = and_parts (option_eq nat_eq a.ttl b.ttl) t4 h3.1 in
    let e0 : a.name ≡ b.name = (bytes_decides a.name b.name).0 h1.0 in
    let e1 : a.rtype ≡ b.rtype = (number_decides a.rtype b.rtype).0 h2.0 in
    let e2 : a.rclass ≡ b.rclass = (number_decides a.rclass b.rclass).0 h3.0 in
    let e3 : a.ttl ≡ b.ttl = (optional_number_decides a.ttl b.ttl).0 h4.0 in
    let e4 : a.rdata ≡ b.rdata = (optional_bytes_decides a.rdata b.rdata).0 h4.1 in
    λ i. record { name = e0 i; rtype = e1 i; rclass = e2 i; ttl = e3 i; rdata = e4 i }

record_itself : (a : KeptRr) → same_record a a ≡ true
record_itself a =
    let t4 : Bool = option_eq same_bytes a.rdata a.rdata in
    let t3 : Bool = option_eq nat_eq a.ttl a.ttl && t4 in
    let t2 : Bool = nat_eq a.rclass a.rclass && t3 in
    let t1 : Bool = nat_eq a.rtype a.rtype && t2 in
    let h4 : t4 ≡ true = (optional_bytes_decides a.rdata a.rdata).1 refl in
    let h3 : t3 ≡ true = and_true (option_eq nat_eq a.ttl a.ttl) t4 ((optional_number_decides a.ttl a.ttl).1 refl) h4 in
    let h2 : t2 ≡ true = and_true (nat_eq a.rclass a.rclass) t3 ((number_decides a.rclass a.rclass).1 refl) h3 in
    let h1 : t1 ≡ true = and_true (nat_eq a.rtype a.rtype) t2 ((number_decides a.rtype a.rtype).1 refl) h2 in
    and_true (same_bytes a.name a.name) t1 ((bytes_decides a.name a.name).1 refl) h1

-- a resource record
pub record_decides : (a b : KeptRr) → Decides (same_record a b) (a ≡ b)
record_decides = decided same_record record_equal record_itself

-- a list of resource records
pub records_decides : (a b : List KeptRr) → Decides (same_records a b) (a ≡ b)
records_decides a b = slice_eq-Decides record_decides a b (same_records a b) refl

signature_equal : (a b : KeptSig) → same_signature a b ≡ true → a ≡ b
signature_equal a b h0 =
    let t15 : Bool = option_eq nat_eq a.response_rcode b.response_rcode in
    let t14 : Bool = option_eq same_bytes a.opt_rdata b.opt_rdata && t15 in
    let t13 : Bool = option_eq nat_eq a.udp_size b.udp_size && t14 in
    let t12 : Bool = option_eq nat_eq a.edns_version b.edns_version && t13 in
    let t11 : Bool = option_eq nat_eq a.ar b.ar && t12 in
    let t10 : Bool = option_eq nat_eq a.ns b.ns && t11 in
    let t9 : Bool = option_eq nat_eq a.an b.an && t10 in
    let t8 : Bool = option_eq nat_eq a.qd b.qd && t9 in
    let t7 : Bool = option_eq same_classtype a.classtype b.classtype && t8 in
    let t6 : Bool = option_eq nat_eq a.query_rcode b.query_rcode && t7 in
    let t5 : Bool = option_eq nat_eq a.dns_flags b.dns_flags && t6 in
    let t4 : Bool = option_eq nat_eq a.opcode b.opcode && t5 in
    let t3 : Bool = option_eq nat_eq a.sig_flags b.sig_flags && t4 in
    let t2 : Bool = option_eq nat_eq a.transport_flags b.transport_flags && t3 in
    let t1 : Bool = option_eq nat_eq a.server_port b.server_port && t2 in
    let h1 = and_parts (option_eq same_bytes a.server_address b.server_address) t1 h0 in
    let h2 = and_parts (option_eq nat_eq a.server_port b.server_port) t2 h1.1 in
    let h3 = and_parts (option_eq nat_eq a.transport_flags b.transport_flags) t3 h2.1 in
    let h4 = and_parts (option_eq nat_eq a.sig_flags b.sig_flags) t4 h3.1 in
    let h5 = and_parts (option_eq nat_eq a.opcode b.opcode) t5 h4.1 in
    let h6 = and_parts (option_eq nat_eq a.dns_flags b.dns_flags) t6 h5.1 in
    let h7 = and_parts (option_eq nat_eq a.query_rcode b.query_rcode) t7 h6.1 in
    let h8 = and_parts (option_eq same_classtype a.classtype b.classtype) t8 h7.1 in
    let h9 = and_parts (option_eq nat_eq a.qd b.qd) t9 h8.1 in
    let h10 = and_parts (option_eq nat_eq a.an b.an) t10 h9.1 in
    let h11 = and_parts (option_eq nat_eq a.ns b.ns) t11 h10.1 in
    let h12 = and_parts (option_eq nat_eq a.ar b.ar) t12 h11.1 in
    let h13 = and_parts (option_eq nat_eq a.edns_version b.edns_version) t13 h12.1 in
    let h14 = and_parts (option_eq nat_eq a.udp_size b.udp_size) t14 h13.1 in
    let h15 = and_parts (option_eq same_bytes a.opt_rdata b.opt_rdata) t15 h14.1 in
    let e0 : a.server_address ≡ b.server_address = (optional_bytes_decides a.server_address b.server_address).0 h1.0 in
    let e1 : a.server_port ≡ b.server_port = (optional_number_decides a.server_port b.server_port).0 h2.0 in
    let e2 : a.transport_flags ≡ b.transport_flags = (optional_number_decides a.transport_flags b.transport_flags).0 h3.0 in
    let e3 : a.sig_flags ≡ b.sig_flags = (optional_number_decides a.sig_flags b.sig_flags).0 h4.0 in
    let e4 : a.opcode ≡ b.opcode = (optional_number_decides a.opcode b.opcode).0 h5.0 in
    let e5 : a.dns_flags ≡ b.dns_flags = (optional_number_decides a.dns_flags b.dns_flags).0 h6.0 in
    let e6 : a.query_rcode ≡ b.query_rcode = (optional_number_decides a.query_rcode b.query_rcode).0 h7.0 in
    let e7 : a.classtype ≡ b.classtype = (optional_classtype_decides a.classtype b.classtype).0 h8.0 in
    let e8 : a.qd ≡ b.qd = (optional_number_decides a.qd b.qd).0 h9.0 in
    let e9 : a.an ≡ b.an = (optional_number_decides a.an b.an).0 h10.0 in
    let e10 : a.ns ≡ b.ns = (optional_number_decides a.ns b.ns).0 h11.0 in
    let e11 : a.ar ≡ b.ar = (optional_number_decides a.ar b.ar).0 h12.0 in
    let e12 : a.edns_version ≡ b.edns_version = (optional_number_decides a.edns_version b.edns_version).0 h13.0 in
    let e13 : a.udp_size ≡ b.udp_size = (optional_number_decides a.udp_size b.udp_size).0 h14.0 in
    let e14 : a.opt_rdata ≡ b.opt_rdata = (optional_bytes_decides a.opt_rdata b.opt_rdata).0 h15.0 in
    let e15 : a.response_rcode ≡ b.response_rcode = (optional_number_decides a.response_rcode b.response_rcode).0 h15.1 in
    λ i. record { server_address = e0 i; server_port = e1 i; transport_flags = e2 i; sig_flags = e3 i; opcode = e4 i; dns_flags = e5 i; query_rcode = e6 i; classtype = e7 i; qd = e8 i; an = e9 i; ns = e10 i; ar = e11 i; edns_version = e12 i; udp_size = e13 i; opt_rdata = e14 i; response_rcode = e15 i }

signature_itself : (a : KeptSig) → same_signature a a ≡ true
signature_itself a =
    let t15 : Bool = option_eq nat_eq a.response_rcode a.response_rcode in
    let t14 : Bool = option_eq same_bytes a.opt_rdata a.opt_rdata && t15 in
    let t13 : Bool = option_eq nat_eq a.udp_size a.udp_size && t14 in
    let t12 : Bool = option_eq nat_eq a.edns_version a.edns_version && t13 in
    let t11 : Bool = option_eq nat_eq a.ar a.ar && t12 in
    let t10 : Bool = option_eq nat_eq a.ns a.ns && t11 in
    let t9 : Bool = option_eq nat_eq a.an a.an && t10 in
    let t8 : Bool = option_eq nat_eq a.qd a.qd && t9 in
    let t7 : Bool = option_eq same_classtype a.classtype a.classtype && t8 in
    let t6 : Bool = option_eq nat_eq a.query_rcode a.query_rcode && t7 in
    let t5 : Bool = option_eq nat_eq a.dns_flags a.dns_flags && t6 in
    let t4 : Bool = option_eq nat_eq a.opcode a.opcode && t5 in
    let t3 : Bool = option_eq nat_eq a.sig_flags a.sig_flags && t4 in
    let t2 : Bool = option_eq nat_eq a.transport_flags a.transport_flags && t3 in
    let t1 : Bool = option_eq nat_eq a.server_port a.server_port && t2 in
    let h15 : t15 ≡ true = (optional_number_decides a.response_rcode a.response_rcode).1 refl in
    let h14 : t14 ≡ true = and_true (option_eq same_bytes a.opt_rdata a.opt_rdata) t15 ((optional_bytes_decides a.opt_rdata a.opt_rdata).1 refl) h15 in
    let h13 : t13 ≡ true = and_true (option_eq nat_eq a.udp_size a.udp_size) t14 ((optional_number_decides a.udp_size a.udp_size).1 refl) h14 in
    let h12 : t12 ≡ true = and_true (option_eq nat_eq a.edns_version a.edns_version) t13 ((optional_number_decides a.edns_version a.edns_version).1 refl) h13 in
    let h11 : t11 ≡ true = and_true (option_eq nat_eq a.ar a.ar) t12 ((optional_number_decides a.ar a.ar).1 refl) h12 in
    let h10 : t10 ≡ true = and_true (option_eq nat_eq a.ns a.ns) t11 ((optional_number_decides a.ns a.ns).1 refl) h11 in
    let h9 : t9 ≡ true = and_true (option_eq nat_eq a.an a.an) t10 ((optional_number_decides a.an a.an).1 refl) h10 in
    let h8 : t8 ≡ true = and_true (option_eq nat_eq a.qd a.qd) t9 ((optional_number_decides a.qd a.qd).1 refl) h9 in
    let h7 : t7 ≡ true = and_true (option_eq same_classtype a.classtype a.classtype) t8 ((optional_classtype_decides a.classtype a.classtype).1 refl) h8 in
    let h6 : t6 ≡ true = and_true (option_eq nat_eq a.query_rcode a.query_rcode) t7 ((optional_number_decides a.query_rcode a.query_rcode).1 refl) h7 in
    let h5 : t5 ≡ true = and_true (option_eq nat_eq a.dns_flags a.dns_flags) t6 ((optional_number_decides a.dns_flags a.dns_flags).1 refl) h6 in
    let h4 : t4 ≡ true = and_true (option_eq nat_eq a.opcode a.opcode) t5 ((optional_number_decides a.opcode a.opcode).1 refl) h5 in
    let h3 : t3 ≡ true = and_true (option_eq nat_eq a.sig_flags a.sig_flags) t4 ((optional_number_decides a.sig_flags a.sig_flags).1 refl) h4 in
    let h2 : t2 ≡ true = and_true (option_eq nat_eq a.transport_flags a.transport_flags) t3 ((optional_number_decides a.transport_flags a.transport_flags).1 refl) h3 in
    let h1 : t1 ≡ true = and_true (option_eq nat_eq a.server_port a.server_port) t2 ((optional_number_decides a.server_port a.server_port).1 refl) h2 in
    and_true (option_eq same_bytes a.server_address a.server_address) t1 ((optional_bytes_decides a.server_address a.server_address).1 refl) h1

-- a signature
pub signature_decides : (a b : KeptSig) → Decides (same_signature a b) (a ≡ b)
signature_decides = decided same_signature signature_equal signature_itself

data_equal : (a b : KeptData) → same_data a b ≡ true → a ≡ b
data_equal a b h0 =
    let t3 : Bool = option_eq same_bytes a.payload b.payload in
    let t2 : Bool = option_eq nat_eq a.transport_flags b.transport_flags && t3 in
    let t1 : Bool = option_eq nat_eq a.server_port b.server_port && t2 in
    let h1 = and_parts (option_eq same_bytes a.server_address b.server_address) t1 h0 in
    let h2 = and_parts (option_eq nat_eq a.server_port b.server_port) t2 h1.1 in
    let h3 = and_parts (option_eq nat_eq a.transport_flags b.transport_flags) t3 h2.1 in
    let e0 : a.server_address ≡ b.server_address = (optional_bytes_decides a.server_address b.server_address).0 h1.0 in
    let e1 : a.server_port ≡ b.server_port = (optional_number_decides a.server_port b.server_port).0 h2.0 in
    let e2 : a.transport_flags ≡ b.transport_flags = (optional_number_decides a.transport_flags b.transport_flags).0 h3.0 in
    let e3 : a.payload ≡ b.payload = (optional_bytes_decides a.payload b.payload).0 h3.1 in
    λ i. record { server_address = e0 i; server_port = e1 i; transport_flags = e2 i; payload = e3 i }

data_itself : (a : KeptData) → same_data a a ≡ true
data_itself a =
    let t3 : Bool = option_eq same_bytes a.payload a.payload in
    let t2 : Bool = option_eq nat_eq a.transport_flags a.transport_flags && t3 in
    let t1 : Bool = option_eq nat_eq a.server_port a.server_port && t2 in
    let h3 : t3 ≡ true = (optional_bytes_decides a.payload a.payload).1 refl in
    let h2 : t2 ≡ true = and_true (option_eq nat_eq a.transport_flags a.transport_flags) t3 ((optional_number_decides a.transport_flags a.transport_flags).1 refl) h3 in
    let h1 : t1 ≡ true = and_true (option_eq nat_eq a.server_port a.server_port) t2 ((optional_number_decides a.server_port a.server_port).1 refl) h2 in
    and_true (option_eq same_bytes a.server_address a.server_address) t1 ((optional_bytes_decides a.server_address a.server_address).1 refl) h1

-- the data of a malformed message
pub data_decides : (a b : KeptData) → Decides (same_data a b) (a ≡ b)
data_decides = decided same_data data_equal data_itself
