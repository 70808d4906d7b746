-- What a block in its ranges resolves to lies in its ranges.
use Rattle.std.proofs.Common.{◌≡◌, ℕ, zero, suc, ◌≤◌, List, [], ◌∷◌, length, Option, Some, None, Ok, refl, subst}
use Rattle.std.specs.Prelude.{slice_get, IfSome}
use Rattle.std.specs.Option.{ok_or}
use Rattle.std.specs.List.{AllByRecursion}
use Rattle.cd_block.specs.Resolving.{Resolving, Unresolved, entry, each, if_present, resolved, resolved_address, resolved_classtype, resolved_bytes, resolved_name, resolved_signature, resolved_question, resolved_questions, resolved_record, resolved_records, resolved_lists, resolved_item, resolved_data, resolved_malformed}
use Rattle.cd_block.specs.declared.block.Block.{Block}
use Rattle.cd_block.specs.declared.block.BlockItem.{BlockItem}
use Rattle.cd_block.specs.declared.block.BlockLists.{BlockLists}
use Rattle.cd_block.specs.declared.block.BlockMalformed.{BlockMalformed}
use Rattle.cd_block.specs.declared.keys.TheConstants as key
use Rattle.cd_block.specs.declared.kept.KeptBlock.{KeptBlock}
use Rattle.cd_block.specs.declared.kept.KeptData.{KeptData}
use Rattle.cd_block.specs.declared.kept.KeptItem.{KeptItem}
use Rattle.cd_block.specs.declared.kept.KeptLists.{KeptLists}
use Rattle.cd_block.specs.declared.kept.KeptMalformed.{KeptMalformed}
use Rattle.cd_block.specs.declared.kept.KeptQuestion.{KeptQuestion}
use Rattle.cd_block.specs.declared.kept.KeptRr.{KeptRr}
use Rattle.cd_block.specs.declared.kept.KeptSig.{KeptSig}
use Rattle.cd_file.specs.Ranges.{ClasstypeInRange}
use Rattle.cd_file.specs.ReadRanges.{IsAddress, QuestionIsRead, RrIsRead, ListsAreRead, SignatureIsRead, ItemIsRead, DataIsRead, MalformedIsRead, BlockIsRead}
use Rattle.cd_file.proofs.KeptTold.{bind_resolved, resolved_same, block_resolves}
use Rattle.cd_file.proofs.TablesRanged.{SignatureRanged, DataRanged, ItemRanged, MalformedRanged, BlockRanged}

-- an element of a list
all_at : {A : Type 0} (Q : A → Type 0) (xs : List A) (i : ℕ) (x : A) → slice_get xs i ≡ Some x → AllByRecursion Q xs → Q x
all_at Q [] i x is all = absurd cc
all_at Q (y ∷ xs) zero x is all = let same : y ≡ x = cc in subst Q same all.0
all_at Q (y ∷ xs) (suc i) x is all = all_at Q xs i x is all.1

there_is : {A : Type 0} (o : Option A) (why : Unresolved) (x : A) → ok_or o why ≡ Ok x → o ≡ Some x
there_is (Some y) why x h = let same : y ≡ x = resolved_same y x h in rw same refl
there_is None why x h = absurd cc

-- an entry of a table
entry_ranged : {A : Type 0} (Q : A → Type 0) (table_key : ℕ) (table : List A) (index : ℕ) (x : A) → AllByRecursion Q table → entry table_key table index ≡ Ok x → Q x
entry_ranged Q table_key table index x all h = all_at Q table index x (there_is (slice_get table index) _ x h) all

-- a value that may be absent
present_ranged : {A B : Type 0} (H : B → Type 0) (f : A → Resolving B) → ((x : A) (y : B) → f x ≡ Ok y → H y) → (o : Option A) (p : Option B) → if_present f o ≡ Ok p → IfSome p H
present_ranged H f of None p h = subst (λ q. IfSome q H) (resolved_same None p h) tt
present_ranged H f of (Some x) p h =
    let k = bind_resolved (f x) _ p h in subst (λ q. IfSome q H) (resolved_same (Some k.0) p k.2) (of x k.0 k.1)

-- values one after another
each_ranged : {A B : Type 0} (H : B → Type 0) (f : A → Resolving B) → ((x : A) (y : B) → f x ≡ Ok y → H y) → (xs : List A) (ys : List B) → each f xs ≡ Ok ys → AllByRecursion H ys
unfolding each
each_ranged H f of [] ys h = subst (AllByRecursion H) (resolved_same [] ys h) tt
each_ranged H f of (x ∷ xs) ys h =
    let one = bind_resolved (f x) _ ys h in
    let others = bind_resolved (each f xs) _ ys one.2 in
    subst (AllByRecursion H) (resolved_same (one.0 ∷ others.0) ys others.2) (of x one.0 one.1, each_ranged H f of xs others.0 others.1)

-- values of which something is known
each_known : {A B : Type 0} (Q : A → Type 0) (H : B → Type 0) (f : A → Resolving B) → ((x : A) (y : B) → Q x → f x ≡ Ok y → H y) → (xs : List A) (ys : List B) → AllByRecursion Q xs → each f xs ≡ Ok ys →
    AllByRecursion H ys
unfolding each
each_known Q H f of [] ys all h = subst (AllByRecursion H) (resolved_same [] ys h) tt
each_known Q H f of (x ∷ xs) ys all h =
    let one = bind_resolved (f x) _ ys h in
    let others = bind_resolved (each f xs) _ ys one.2 in
    subst (AllByRecursion H) (resolved_same (one.0 ∷ others.0) ys others.2) (of x one.0 all.0 one.1, each_known Q H f of xs others.0 all.1 others.1)

module _ (b : Block) (ranged : BlockRanged b) where
  address_ranged : (index : ℕ) (address : List ℕ) → resolved_address b index ≡ Ok address → length address ≤ 16
  address_ranged index address h = entry_ranged (λ bytes. length bytes ≤ 16) key.TABLES_IP_ADDRESS b.ip_address index address ranged.ip_address h

  classtype_ranged : (index : ℕ) (c : ℕ × ℕ) → resolved_classtype b index ≡ Ok c → ClasstypeInRange c
  classtype_ranged index c h = entry_ranged ClasstypeInRange key.TABLES_CLASSTYPE b.classtype index c ranged.classtype h

  addresses_ranged : (index : Option ℕ) (address : Option (List ℕ)) → if_present (resolved_address b) index ≡ Ok address → IsAddress address
  addresses_ranged index address h = present_ranged (λ bytes. length bytes ≤ 16) (resolved_address b) address_ranged index address h

  signature_ranged : (index : ℕ) (kept : KeptSig) → resolved_signature b index ≡ Ok kept → SignatureIsRead kept
  unfolding resolved_signature
  signature_ranged index kept h =
      let s = bind_resolved (entry key.TABLES_QR_SIG b.qr_sig index) _ kept h in
      let address = bind_resolved (if_present (resolved_address b) s.0.server_address) _ kept s.2 in
      let classtype = bind_resolved (if_present (resolved_classtype b) s.0.classtype) _ kept address.2 in
      let opt = bind_resolved (if_present (resolved_bytes b) s.0.opt_rdata) _ kept classtype.2 in
      let of = entry_ranged SignatureRanged key.TABLES_QR_SIG b.qr_sig index s.0 ranged.qr_sig s.1 in
      subst SignatureIsRead (resolved_same _ kept opt.2)
      (record {
        server_address = addresses_ranged s.0.server_address address.0 address.1;
        server_port = of.server_port;
        transport_flags = of.transport_flags;
        sig_flags = of.sig_flags;
        opcode = of.opcode;
        dns_flags = of.dns_flags;
        query_rcode = of.query_rcode;
        classtype = present_ranged ClasstypeInRange (resolved_classtype b) classtype_ranged s.0.classtype classtype.0 classtype.1;
        qd = of.qd;
        an = of.an;
        ns = of.ns;
        ar = of.ar;
        edns_version = of.edns_version;
        udp_size = of.udp_size;
        response_rcode = of.response_rcode;
      })

  question_ranged : (index : ℕ) (kept : KeptQuestion) → resolved_question b index ≡ Ok kept → QuestionIsRead kept
  unfolding resolved_question
  question_ranged index kept h =
      let q = bind_resolved (entry key.TABLES_QRR b.qrr index) _ kept h in
      let name = bind_resolved (resolved_name b q.0.name) _ kept q.2 in
      let classtype = bind_resolved (resolved_classtype b q.0.classtype) _ kept name.2 in
      let of = classtype_ranged q.0.classtype classtype.0 classtype.1 in
      subst QuestionIsRead (resolved_same _ kept classtype.2) (record { rtype = of.rtype; rclass = of.rclass })

  record_ranged : (index : ℕ) (kept : KeptRr) → resolved_record b index ≡ Ok kept → RrIsRead kept
  unfolding resolved_record
  record_ranged index kept h =
      let r = bind_resolved (entry key.TABLES_RR b.rr index) _ kept h in
      let name = bind_resolved (resolved_name b r.0.name) _ kept r.2 in
      let classtype = bind_resolved (resolved_classtype b r.0.classtype) _ kept name.2 in
      let rdata = bind_resolved (if_present (resolved_bytes b) r.0.rdata) _ kept classtype.2 in
      let of = classtype_ranged r.0.classtype classtype.0 classtype.1 in
      subst RrIsRead (resolved_same _ kept rdata.2) (record { rtype = of.rtype; rclass = of.rclass })

  questions_ranged : (index : Option ℕ) (kept : List KeptQuestion) → resolved_questions b index ≡ Ok kept → AllByRecursion QuestionIsRead kept
  unfolding resolved_questions
  questions_ranged None kept h = subst (AllByRecursion QuestionIsRead) (resolved_same [] kept h) tt
  questions_ranged (Some index) kept h =
      let indexes = bind_resolved (entry key.TABLES_QLIST b.qlist index) _ kept h in each_ranged QuestionIsRead (resolved_question b) question_ranged indexes.0 kept indexes.2

  records_ranged : (index : Option ℕ) (kept : List KeptRr) → resolved_records b index ≡ Ok kept → AllByRecursion RrIsRead kept
  unfolding resolved_records
  records_ranged None kept h = subst (AllByRecursion RrIsRead) (resolved_same [] kept h) tt
  records_ranged (Some index) kept h =
      let indexes = bind_resolved (entry key.TABLES_RRLIST b.rrlist index) _ kept h in each_ranged RrIsRead (resolved_record b) record_ranged indexes.0 kept indexes.2

  lists_ranged : (l : BlockLists) (kept : KeptLists) → resolved_lists b l ≡ Ok kept → ListsAreRead kept
  unfolding resolved_lists
  lists_ranged l kept h =
      let question = bind_resolved (resolved_questions b l.question) _ kept h in
      let answer = bind_resolved (resolved_records b l.answer) _ kept question.2 in
      let authority = bind_resolved (resolved_records b l.authority) _ kept answer.2 in
      let additional = bind_resolved (resolved_records b l.additional) _ kept authority.2 in
      subst ListsAreRead (resolved_same _ kept additional.2)
      (record {
        question = questions_ranged l.question question.0 question.1;
        answer = records_ranged l.answer answer.0 answer.1;
        authority = records_ranged l.authority authority.0 authority.1;
        additional = records_ranged l.additional additional.0 additional.1;
      })

  item_ranged : (i : BlockItem) (kept : KeptItem) → ItemRanged i → resolved_item b i ≡ Ok kept → ItemIsRead kept
  unfolding resolved_item
  item_ranged i kept of h =
      let address = bind_resolved (if_present (resolved_address b) i.client_address) _ kept h in
      let signature = bind_resolved (if_present (resolved_signature b) i.signature) _ kept address.2 in
      let name = bind_resolved (if_present (resolved_name b) i.query_name) _ kept signature.2 in
      let query = bind_resolved (resolved_lists b i.query_extended) _ kept name.2 in
      let response = bind_resolved (resolved_lists b i.response_extended) _ kept query.2 in
      subst ItemIsRead (resolved_same _ kept response.2)
      (record {
        client_address = addresses_ranged i.client_address address.0 address.1;
        client_port = of.client_port;
        transaction_id = of.transaction_id;
        signature = present_ranged SignatureIsRead (resolved_signature b) signature_ranged i.signature signature.0 signature.1;
        client_hoplimit = of.client_hoplimit;
        response_delay = of.response_delay;
        query_extended = lists_ranged i.query_extended query.0 query.1;
        response_extended = lists_ranged i.response_extended response.0 response.1;
      })

  data_ranged : (index : ℕ) (kept : KeptData) → resolved_data b index ≡ Ok kept → DataIsRead kept
  unfolding resolved_data
  data_ranged index kept h =
      let d = bind_resolved (entry key.TABLES_MALFORMED_MESSAGE_DATA b.malformed_message_data index) _ kept h in
      let address = bind_resolved (if_present (resolved_address b) d.0.server_address) _ kept d.2 in
      let of = entry_ranged DataRanged key.TABLES_MALFORMED_MESSAGE_DATA b.malformed_message_data index d.0 ranged.malformed_message_data d.1 in
      subst DataIsRead (resolved_same _ kept address.2)
      (record {
        server_address = addresses_ranged d.0.server_address address.0 address.1;
        server_port = of.server_port;
        transport_flags = of.transport_flags;
      })

  malformed_ranged : (m : BlockMalformed) (kept : KeptMalformed) → MalformedRanged m → resolved_malformed b m ≡ Ok kept → MalformedIsRead kept
  unfolding resolved_malformed
  malformed_ranged m kept of h =
      let address = bind_resolved (if_present (resolved_address b) m.client_address) _ kept h in
      let data_there = bind_resolved (if_present (resolved_data b) m.message_data) _ kept address.2 in
      subst MalformedIsRead (resolved_same _ kept data_there.2)
      (record {
        client_address = addresses_ranged m.client_address address.0 address.1;
        client_port = of;
        message_data = present_ranged DataIsRead (resolved_data b) data_ranged m.message_data data_there.0 data_there.1;
      })

  -- a block
  pub kept_ranged : (kept : KeptBlock) → resolved b ≡ Ok kept → BlockIsRead kept
  kept_ranged kept h =
      let of = block_resolves b kept h in
      record {
        items = each_known ItemRanged ItemIsRead (resolved_item b) item_ranged b.items kept.items ranged.items of.items;
        malformed = each_known MalformedRanged MalformedIsRead (resolved_malformed b) malformed_ranged b.malformed kept.malformed ranged.malformed of.malformed;
      }
