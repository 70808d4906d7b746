-- In a block that has the tables of some values, the index of each of these values resolves to it.
use Rattle.std.proofs.Common.{◌≡◌, ◌≤◌, ℕ, true, List, [], ◌∷◌, ◌++◌, length, map, Option, Some, None, Ok, refl, inl, inr, arith}
use Rattle.std.specs.Prelude.{slice_get}
use Rattle.std.specs.Option.{option_map}
use Rattle.std.proofs.lemmas.Bool.Decides.{nat_tests}
use Rattle.cd_name.specs.Names.{IsName, are_labels_and_root}
use Rattle.cd_block.specs.declared.keys.TheConstants as key
use Rattle.cd_block.specs.declared.kept.KeptQuestion.{KeptQuestion}
use Rattle.cd_block.specs.declared.kept.KeptRr.{KeptRr}
use Rattle.cd_block.specs.declared.kept.KeptSig.{KeptSig}
use Rattle.cd_block.specs.declared.kept.KeptData.{KeptData}
use Rattle.cd_block.specs.declared.block.Block.{Block}
use Rattle.cd_block.specs.Equality.{same_bytes, same_classtype, same_question, same_record, same_signature, same_data}
use Rattle.cd_block.specs.Traversal.{Visited, Address, ClassType, NameOrRdata, Signature, Question, Record, MalformedData, used, as_address, as_classtype, as_bytes, as_signature, as_question, as_record, as_data, where_present, visited_address, visited_classtype, visited_bytes, visited_signature, visited_question, visited_record, visited_data}
use Rattle.cd_block.specs.Tables.{KeptTables, tables_of, address_index, classtype_index, bytes_index, signature_index, question_index, record_index, data_index, indexed_question, indexed_record, indexed_signature, indexed_data}
use Rattle.cd_block.specs.Resolving.{Resolving, if_present, each, entry, name_of, resolved_address, resolved_classtype, resolved_bytes, resolved_name, resolved_signature, resolved_question, resolved_record, resolved_data}
use Rattle.cd_block.proofs.KeptEquality.{bytes_decides, classtype_decides, question_decides, record_decides, signature_decides, data_decides}
use Rattle.cd_block.proofs.Among.{Among, among_first, among_second, among_kind, found, found_image}

-- each of these values is among the others
abbrev pub Covers : List Visited → List Visited → Type 0
Covers values part = (v : Visited) → Among v part → Among v values

-- a block has the tables of these values
pub record HasTables (values : List Visited) (b : Block) : Type 0 where
  pub addresses : b.ip_address ≡ (tables_of values).ip_address
  pub classtypes : b.classtype ≡ (tables_of values).classtype
  pub byte_strings : b.name_rdata ≡ (tables_of values).name_rdata
  pub signatures : b.qr_sig ≡ map (indexed_signature (tables_of values)) (tables_of values).qr_sig
  pub question_lists : b.qlist ≡ map (map (question_index (tables_of values))) (tables_of values).qlist
  pub questions : b.qrr ≡ map (indexed_question (tables_of values)) (tables_of values).qrr
  pub record_lists : b.rrlist ≡ map (map (record_index (tables_of values))) (tables_of values).rrlist
  pub records : b.rr ≡ map (indexed_record (tables_of values)) (tables_of values).rr
  pub malformed_data : b.malformed_message_data ≡ map (indexed_data (tables_of values)) (tables_of values).malformed_message_data

-- the entry of a table of which this is the entry
pub entry_is : {A : Type 0} (table_key : ℕ) (table others : List A) (index : ℕ) (x : A) → table ≡ others → slice_get others index ≡ Some x → entry table_key table index ≡ Ok x
entry_is table_key table others index x is at = rw (is, at) refl

-- a value that may be absent resolves to itself where a present one does
pub present_resolves : {A B : Type 0} (resolve : B → Resolving A) (index : A → B) (o : Option A) → ((a : A) → o ≡ Some a → resolve (index a) ≡ Ok a) → if_present resolve (option_map index o) ≡ Ok o
present_resolves resolve index None h = refl
present_resolves resolve index (Some a) h = rw (h a refl) refl

-- values resolve to themselves where each does
pub each_resolves : {A B : Type 0} (resolve : B → Resolving A) (index : A → B) (xs : List A) → ((x : A) → Among x xs → resolve (index x) ≡ Ok x) → each resolve (map index xs) ≡ Ok xs
unfolding each
each_resolves resolve index [] h = refl
each_resolves resolve index (x ∷ xs) h =
    let first : resolve (index x) ≡ Ok x = h x (inl refl) in
    let others : each resolve (map index xs) ≡ Ok xs = each_resolves resolve index xs (λ y m. h y (inr m)) in
    rw (first, others) refl

-- a name as a name
name_is : (name : List ℕ) → IsName name → name_of name ≡ Ok name
name_is name named =
    let labels : are_labels_and_root 0 name ≡ true = named.0 in
    let few : length name ≤ 255 = named.1 in
    grind (arith, nat_tests)

module _ (values : List Visited) (b : Block) (has : HasTables values b) where
  abbrev t : KeptTables
  t = tables_of values

  pub address_resolves : (a : List ℕ) → Among (Address a) values → resolved_address b (address_index t a) ≡ Ok a
  address_resolves a m =
      entry_is key.TABLES_IP_ADDRESS b.ip_address t.ip_address (address_index t a) a has.addresses
      (found same_bytes bytes_decides (used as_address values) a (among_kind as_address values (Address a) a refl m))

  pub classtype_resolves : (c : ℕ × ℕ) → Among (ClassType c) values → resolved_classtype b (classtype_index t c) ≡ Ok c
  classtype_resolves c m =
      entry_is key.TABLES_CLASSTYPE b.classtype t.classtype (classtype_index t c) c has.classtypes
      (found same_classtype classtype_decides (used as_classtype values) c (among_kind as_classtype values (ClassType c) c refl m))

  pub bytes_resolve : (s : List ℕ) → Among (NameOrRdata s) values → resolved_bytes b (bytes_index t s) ≡ Ok s
  bytes_resolve s m =
      entry_is key.TABLES_NAME_RDATA b.name_rdata t.name_rdata (bytes_index t s) s has.byte_strings
      (found same_bytes bytes_decides (used as_bytes values) s (among_kind as_bytes values (NameOrRdata s) s refl m))

  pub name_resolves : (name : List ℕ) → IsName name → Among (NameOrRdata name) values → resolved_name b (bytes_index t name) ≡ Ok name
  unfolding resolved_name
  name_resolves name named m = rw (bytes_resolve name m) (name_is name named)

  -- an address that may be absent
  pub addresses_resolve : (o : Option (List ℕ)) → Covers values (where_present visited_address o) → if_present (resolved_address b) (option_map (address_index t) o) ≡ Ok o
  addresses_resolve None covers = refl
  addresses_resolve (Some a) covers = rw (address_resolves a (covers (Address a) (inl refl))) refl

  -- a type and a class that may be absent
  pub classtypes_resolve : (o : Option (ℕ × ℕ)) → Covers values (where_present visited_classtype o) → if_present (resolved_classtype b) (option_map (classtype_index t) o) ≡ Ok o
  classtypes_resolve None covers = refl
  classtypes_resolve (Some c) covers = rw (classtype_resolves c (covers (ClassType c) (inl refl))) refl

  -- RDATA that may be absent
  pub rdata_resolves : (o : Option (List ℕ)) → Covers values (where_present visited_bytes o) → if_present (resolved_bytes b) (option_map (bytes_index t) o) ≡ Ok o
  rdata_resolves None covers = refl
  rdata_resolves (Some s) covers = rw (bytes_resolve s (covers (NameOrRdata s) (inl refl))) refl

  pub signature_resolves : (s : KeptSig) → Covers values (visited_signature s) → resolved_signature b (signature_index t s) ≡ Ok s
  unfolding resolved_signature indexed_signature visited_signature
  signature_resolves s covers =
      let a = where_present visited_address s.server_address in
      let c = where_present visited_classtype s.classtype in
      let o = where_present visited_bytes s.opt_rdata in
      let front : List Visited = (Signature s ∷ a) ++ c in
      let at : entry key.TABLES_QR_SIG b.qr_sig (signature_index t s) ≡ Ok (indexed_signature t s) =
      entry_is key.TABLES_QR_SIG b.qr_sig (map (indexed_signature t) t.qr_sig) (signature_index t s) (indexed_signature t s) has.signatures
      (found_image same_signature signature_decides (indexed_signature t) (used as_signature values) s
      (among_kind as_signature values (Signature s) s refl (covers (Signature s) (inl refl)))) in
      let address = addresses_resolve s.server_address (λ v m. covers v (among_first v front o (among_first v (Signature s ∷ a) c (inr m)))) in
      let classtype = classtypes_resolve s.classtype (λ v m. covers v (among_first v front o (among_second v (Signature s ∷ a) c m))) in
      let rdata = rdata_resolves s.opt_rdata (λ v m. covers v (among_second v front o m)) in
      rw (at, address, classtype, rdata) refl

  pub question_resolves : (q : KeptQuestion) → IsName q.name → Covers values (visited_question q) → resolved_question b (question_index t q) ≡ Ok q
  unfolding resolved_question indexed_question visited_question
  question_resolves q named covers =
      let at : entry key.TABLES_QRR b.qrr (question_index t q) ≡ Ok (indexed_question t q) =
      entry_is key.TABLES_QRR b.qrr (map (indexed_question t) t.qrr) (question_index t q) (indexed_question t q) has.questions
      (found_image same_question question_decides (indexed_question t) (used as_question values) q
      (among_kind as_question values (Question q) q refl (covers (Question q) (inl refl)))) in
      let name = name_resolves q.name named (covers (NameOrRdata q.name) (inr (inl refl))) in
      let classtype = classtype_resolves (q.rtype, q.rclass) (covers (ClassType (q.rtype, q.rclass)) (inr (inr (inl refl)))) in
      rw (at, name, classtype) refl

  pub record_resolves : (r : KeptRr) → IsName r.name → Covers values (visited_record r) → resolved_record b (record_index t r) ≡ Ok r
  unfolding resolved_record indexed_record visited_record
  record_resolves r named covers =
      let at : entry key.TABLES_RR b.rr (record_index t r) ≡ Ok (indexed_record t r) =
      entry_is key.TABLES_RR b.rr (map (indexed_record t) t.rr) (record_index t r) (indexed_record t r) has.records
      (found_image same_record record_decides (indexed_record t) (used as_record values) r
      (among_kind as_record values (Record r) r refl (covers (Record r) (inl refl)))) in
      let name = name_resolves r.name named (covers (NameOrRdata r.name) (inr (inl refl))) in
      let classtype = classtype_resolves (r.rtype, r.rclass) (covers (ClassType (r.rtype, r.rclass)) (inr (inr (inl refl)))) in
      let rdata = rdata_resolves r.rdata (λ v m. covers v (inr (inr (inr m)))) in
      rw (at, name, classtype, rdata) refl

  pub data_resolves : (d : KeptData) → Covers values (visited_data d) → resolved_data b (data_index t d) ≡ Ok d
  unfolding resolved_data indexed_data visited_data
  data_resolves d covers =
      let at : entry key.TABLES_MALFORMED_MESSAGE_DATA b.malformed_message_data (data_index t d) ≡ Ok (indexed_data t d) =
      entry_is key.TABLES_MALFORMED_MESSAGE_DATA b.malformed_message_data (map (indexed_data t) t.malformed_message_data) (data_index t d) (indexed_data t d) has.malformed_data
      (found_image same_data data_decides (indexed_data t) (used as_data values) d
      (among_kind as_data values (MalformedData d) d refl (covers (MalformedData d) (inl refl)))) in
      let address = addresses_resolve d.server_address (λ v m. covers v (inr m)) in
      rw (at, address) refl
