-- Values whose parts stand in the tables, and their images.
use Rattle.std.proofs.Common.{◌≡◌, ℕ, Bool, true, false, ◌&&◌, List, [], ◌∷◌, map, Option, Some, None, nat_eq, Decides, refl, ap, ◌∙◌}
use Rattle.std.specs.List.{list_any, position_or_len, AllByRecursion}
use Rattle.std.specs.Option.{option_eq, option_map}
use Rattle.std.specs.Cmp.Lexicographic.{pointwise}
use Rattle.cd_block.specs.declared.kept.KeptQuestion.{KeptQuestion}
use Rattle.cd_block.specs.declared.kept.KeptRr.{KeptRr}
use Rattle.cd_block.specs.declared.kept.KeptSig.{KeptSig}
use Rattle.cd_block.specs.declared.kept.KeptData.{KeptData}
use Rattle.cd_block.specs.Equality.{same_bytes, same_classtype, same_question, same_questions, same_record, same_records, same_signature, same_data}
use Rattle.cd_block.specs.Tables.{KeptTables, index_in, address_index, classtype_index, bytes_index, question_index, record_index, indexed_question, indexed_record, indexed_signature, indexed_data}
use Rattle.cd_table.specs.Equality.{same_indexes, same_block_question, same_block_record, same_block_signature, same_block_data}
use Rattle.cd_table.proofs.Places.{index_is_place, same_places}
use Rattle.cd_block.proofs.KeptEquality.{bytes_decides, classtype_decides, question_decides, record_decides}

-- a value that a table has
abbrev pub Has : {T : Type 0} → (T → T → Bool) → List T → T → Type 0
Has same table x = list_any (same x) table ≡ true

-- a fact of a value that may be absent
abbrev pub Present : {T : Type 0} → (T → Type 0) → Option T → Type 0
Present P None = Unit {0}
Present P (Some x) = P x

module _ (F : KeptTables) where
  abbrev pub HasAddress : List ℕ → Type 0
  HasAddress a = Has same_bytes F.ip_address a

  abbrev pub HasClasstype : ℕ × ℕ → Type 0
  HasClasstype c = Has same_classtype F.classtype c

  abbrev pub HasBytes : List ℕ → Type 0
  HasBytes b = Has same_bytes F.name_rdata b

  abbrev pub HasQuestion : KeptQuestion → Type 0
  HasQuestion q = Has same_question F.qrr q

  abbrev pub HasRecord : KeptRr → Type 0
  HasRecord r = Has same_record F.rr r

  -- the parts of a signature stand in the tables
  pub record SignatureParts (s : KeptSig) : Type 0 where
    pub server_address : Present HasAddress s.server_address
    pub classtype : Present HasClasstype s.classtype
    pub opt_rdata : Present HasBytes s.opt_rdata

  -- the parts of a question
  pub record QuestionParts (q : KeptQuestion) : Type 0 where
    pub name : HasBytes q.name
    pub classtype : HasClasstype (q.rtype, q.rclass)

  -- the parts of a resource record
  pub record RecordParts (r : KeptRr) : Type 0 where
    pub name : HasBytes r.name
    pub classtype : HasClasstype (r.rtype, r.rclass)
    pub rdata : Present HasBytes r.rdata

  -- the part of the data of a malformed message
  pub record DataParts (d : KeptData) : Type 0 where
    pub server_address : Present HasAddress d.server_address

  -- the questions of a list
  abbrev pub QuestionsParts : List KeptQuestion → Type 0
  QuestionsParts qs = AllByRecursion HasQuestion qs

  -- the records of a list
  abbrev pub RecordsParts : List KeptRr → Type 0
  RecordsParts rs = AllByRecursion HasRecord rs

-- indexes in a table are equal where the values are
index_agree : {T : Type 0} (same : T → T → Bool) → ((a b : T) → Decides (same a b) (a ≡ b)) → (table : List T) (a b : T) → Has same table a → Has same table b → nat_eq (index_in same table a) (index_in same table b) ≡ same a b
index_agree same decides table a b h k =
    ap (λ n. nat_eq n (index_in same table b)) (index_is_place same table a)
    ∙ ap (λ n. nat_eq (position_or_len (same a) table) n) (index_is_place same table b)
    ∙ same_places same decides table a b h k

-- and so for values that may be absent
option_agree : {T : Type 0} (index : T → ℕ) (same : T → T → Bool) (P : T → Type 0) → ((a b : T) → P a → P b → nat_eq (index a) (index b) ≡ same a b) → (a b : Option T) → Present P a → Present P b → option_eq nat_eq (option_map index a) (option_map index b) ≡ option_eq same a b
option_agree index same P agree None None h k = refl
option_agree index same P agree None (Some y) h k = refl
option_agree index same P agree (Some x) None h k = refl
option_agree index same P agree (Some x) (Some y) h k = agree x y h k

-- and for lists of values
list_agree : {T : Type 0} (index : T → ℕ) (same : T → T → Bool) (P : T → Type 0) → ((a b : T) → P a → P b → nat_eq (index a) (index b) ≡ same a b) → (a b : List T) → AllByRecursion P a → AllByRecursion P b → pointwise nat_eq (map index a) (map index b) ≡ pointwise same a b
list_agree index same P agree [] [] h k = refl
list_agree index same P agree [] (y ∷ ys) h k = refl
list_agree index same P agree (x ∷ xs) [] h k = refl
list_agree index same P agree (x ∷ xs) (y ∷ ys) h k =
    ap (λ b. b && pointwise nat_eq (map index xs) (map index ys)) (agree x y h.0 k.0)
    ∙ ap (λ b. same x y && b) (list_agree index same P agree xs ys h.1 k.1)

and_same : (p q r s : Bool) → p ≡ q → r ≡ s → (p && r) ≡ (q && s)
and_same p q r s h k = ap (λ b. b && r) h ∙ ap (λ b. q && b) k

and_regroup : (n p q r : Bool) → (n && ((p && q) && r)) ≡ (n && (p && (q && r)))
and_regroup n true q r = refl
and_regroup n false q r = refl

module _ (F : KeptTables) where
  address_agree : (a b : List ℕ) → HasAddress F a → HasAddress F b → nat_eq (address_index F a) (address_index F b) ≡ same_bytes a b
  address_agree = index_agree same_bytes bytes_decides F.ip_address

  classtype_agree : (a b : ℕ × ℕ) → HasClasstype F a → HasClasstype F b → nat_eq (classtype_index F a) (classtype_index F b) ≡ same_classtype a b
  classtype_agree = index_agree same_classtype classtype_decides F.classtype

  bytes_agree : (a b : List ℕ) → HasBytes F a → HasBytes F b → nat_eq (bytes_index F a) (bytes_index F b) ≡ same_bytes a b
  bytes_agree = index_agree same_bytes bytes_decides F.name_rdata

  question_index_agree : (a b : KeptQuestion) → HasQuestion F a → HasQuestion F b → nat_eq (question_index F a) (question_index F b) ≡ same_question a b
  question_index_agree = index_agree same_question question_decides F.qrr

  record_index_agree : (a b : KeptRr) → HasRecord F a → HasRecord F b → nat_eq (record_index F a) (record_index F b) ≡ same_record a b
  record_index_agree = index_agree same_record record_decides F.rr

  -- signatures with indexes are equal where the signatures are
  pub signature_agree : (a b : KeptSig) → SignatureParts F a → SignatureParts F b → same_block_signature (indexed_signature F a) (indexed_signature F b) ≡ same_signature a b
  unfolding indexed_signature
  signature_agree a b h k =
      let address = option_agree (address_index F) same_bytes (HasAddress F) address_agree a.server_address b.server_address h.server_address k.server_address in
      let lead = option_agree (classtype_index F) same_classtype (HasClasstype F) classtype_agree a.classtype b.classtype h.classtype k.classtype in
      let options = option_agree (bytes_index F) same_bytes (HasBytes F) bytes_agree a.opt_rdata b.opt_rdata h.opt_rdata k.opt_rdata in
      let t15 : Bool = option_eq nat_eq a.response_rcode b.response_rcode in
      let t14 : Bool = option_eq same_bytes a.opt_rdata b.opt_rdata && t15 in
      let t13 : Bool = option_eq nat_eq a.udp_size b.udp_size && t14 in
      let t12 : Bool = option_eq nat_eq a.edns_version b.edns_version && t13 in
      let t11 : Bool = option_eq nat_eq a.ar b.ar && t12 in
      let t10 : Bool = option_eq nat_eq a.ns b.ns && t11 in
      let t9 : Bool = option_eq nat_eq a.an b.an && t10 in
      let t8 : Bool = option_eq nat_eq a.qd b.qd && t9 in
      let t7 : Bool = option_eq same_classtype a.classtype b.classtype && t8 in
      let t6 : Bool = option_eq nat_eq a.query_rcode b.query_rcode && t7 in
      let t5 : Bool = option_eq nat_eq a.dns_flags b.dns_flags && t6 in
      let t4 : Bool = option_eq nat_eq a.opcode b.opcode && t5 in
      let t3 : Bool = option_eq nat_eq a.sig_flags b.sig_flags && t4 in
      let t2 : Bool = option_eq nat_eq a.transport_flags b.transport_flags && t3 in
      let t1 : Bool = option_eq nat_eq a.server_port b.server_port && t2 in
      let u15 : Bool = option_eq nat_eq a.response_rcode b.response_rcode in
      let u14 : Bool = option_eq nat_eq (option_map (bytes_index F) a.opt_rdata) (option_map (bytes_index F) b.opt_rdata) && u15 in
      let u13 : Bool = option_eq nat_eq a.udp_size b.udp_size && u14 in
      let u12 : Bool = option_eq nat_eq a.edns_version b.edns_version && u13 in
      let u11 : Bool = option_eq nat_eq a.ar b.ar && u12 in
      let u10 : Bool = option_eq nat_eq a.ns b.ns && u11 in
      let u9 : Bool = option_eq nat_eq a.an b.an && u10 in
      let u8 : Bool = option_eq nat_eq a.qd b.qd && u9 in
      let u7 : Bool = option_eq nat_eq (option_map (classtype_index F) a.classtype) (option_map (classtype_index F) b.classtype) && u8 in
      let u6 : Bool = option_eq nat_eq a.query_rcode b.query_rcode && u7 in
      let u5 : Bool = option_eq nat_eq a.dns_flags b.dns_flags && u6 in
      let u4 : Bool = option_eq nat_eq a.opcode b.opcode && u5 in
      let u3 : Bool = option_eq nat_eq a.sig_flags b.sig_flags && u4 in
      let u2 : Bool = option_eq nat_eq a.transport_flags b.transport_flags && u3 in
      let u1 : Bool = option_eq nat_eq a.server_port b.server_port && u2 in
      let e15 : u15 ≡ t15 = refl in
      let e14 : u14 ≡ t14 = and_same (option_eq nat_eq (option_map (bytes_index F) a.opt_rdata) (option_map (bytes_index F) b.opt_rdata)) (option_eq same_bytes a.opt_rdata b.opt_rdata) u15 t15 options e15 in
      let e13 : u13 ≡ t13 = ap (λ q. option_eq nat_eq a.udp_size b.udp_size && q) e14 in
      let e12 : u12 ≡ t12 = ap (λ q. option_eq nat_eq a.edns_version b.edns_version && q) e13 in
      let e11 : u11 ≡ t11 = ap (λ q. option_eq nat_eq a.ar b.ar && q) e12 in
      let e10 : u10 ≡ t10 = ap (λ q. option_eq nat_eq a.ns b.ns && q) e11 in
      let e9 : u9 ≡ t9 = ap (λ q. option_eq nat_eq a.an b.an && q) e10 in
      let e8 : u8 ≡ t8 = ap (λ q. option_eq nat_eq a.qd b.qd && q) e9 in
      let e7 : u7 ≡ t7 = and_same (option_eq nat_eq (option_map (classtype_index F) a.classtype) (option_map (classtype_index F) b.classtype)) (option_eq same_classtype a.classtype b.classtype) u8 t8 lead e8 in
      let e6 : u6 ≡ t6 = ap (λ q. option_eq nat_eq a.query_rcode b.query_rcode && q) e7 in
      let e5 : u5 ≡ t5 = ap (λ q. option_eq nat_eq a.dns_flags b.dns_flags && q) e6 in
      let e4 : u4 ≡ t4 = ap (λ q. option_eq nat_eq a.opcode b.opcode && q) e5 in
      let e3 : u3 ≡ t3 = ap (λ q. option_eq nat_eq a.sig_flags b.sig_flags && q) e4 in
      let e2 : u2 ≡ t2 = ap (λ q. option_eq nat_eq a.transport_flags b.transport_flags && q) e3 in
      let e1 : u1 ≡ t1 = ap (λ q. option_eq nat_eq a.server_port b.server_port && q) e2 in
      and_same (option_eq nat_eq (option_map (address_index F) a.server_address) (option_map (address_index F) b.server_address)) (option_eq same_bytes a.server_address b.server_address) u1 t1 address e1

  -- questions
  pub question_agree : (a b : KeptQuestion) → QuestionParts F a → QuestionParts F b → same_block_question (indexed_question F a) (indexed_question F b) ≡ same_question a b
  unfolding indexed_question
  question_agree a b h k =
      let name = bytes_agree a.name b.name h.name k.name in
      let pair = classtype_agree (a.rtype, a.rclass) (b.rtype, b.rclass) h.classtype k.classtype in
      rw (name, pair)

  -- resource records
  pub record_agree : (a b : KeptRr) → RecordParts F a → RecordParts F b → same_block_record (indexed_record F a) (indexed_record F b) ≡ same_record a b
  unfolding indexed_record
  record_agree a b h k =
      let name = bytes_agree a.name b.name h.name k.name in
      let pair = classtype_agree (a.rtype, a.rclass) (b.rtype, b.rclass) h.classtype k.classtype in
      let rdata = option_agree (bytes_index F) same_bytes (HasBytes F) bytes_agree a.rdata b.rdata h.rdata k.rdata in
      rw (name, pair, rdata) (and_regroup (same_bytes a.name b.name) (nat_eq a.rtype b.rtype) (nat_eq a.rclass b.rclass) (option_eq nat_eq a.ttl b.ttl && option_eq same_bytes a.rdata b.rdata))

  -- the data of malformed messages
  pub data_agree : (a b : KeptData) → DataParts F a → DataParts F b → same_block_data (indexed_data F a) (indexed_data F b) ≡ same_data a b
  unfolding indexed_data
  data_agree a b h k =
      let address = option_agree (address_index F) same_bytes (HasAddress F) address_agree a.server_address b.server_address h.server_address k.server_address in
      rw address

  -- lists of questions
  pub question_list_agree : (a b : List KeptQuestion) → QuestionsParts F a → QuestionsParts F b → same_indexes (map (question_index F) a) (map (question_index F) b) ≡ same_questions a b
  question_list_agree = list_agree (question_index F) same_question (HasQuestion F) question_index_agree

  -- lists of resource records
  pub record_list_agree : (a b : List KeptRr) → RecordsParts F a → RecordsParts F b → same_indexes (map (record_index F) a) (map (record_index F) b) ≡ same_records a b
  record_list_agree = list_agree (record_index F) same_record (HasRecord F) record_index_agree
