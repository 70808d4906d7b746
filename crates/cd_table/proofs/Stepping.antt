-- What a step that makes tables grow does to the tables at the end.
use Rattle.std.proofs.Common.{◌≡◌, Bool, true, List, [], ◌∷◌, ◌++◌, map, fold, Option, Some, None, refl, ap, sym, ◌∙◌, subst}
use Rattle.std.specs.List.{position_or_len, flat_map, AllByRecursion}
use Rattle.std.specs.Option.{option_map}
use Rattle.std.proofs.lemmas.List.{append_assoc, map-append}
use Rattle.std.proofs.lemmas.List.Sums.{fold-append}
use Rattle.std.proofs.lemmas.List.Elements.{filter_map-append}
use Rattle.cd_block.specs.Traversal.{Visited, used, where_present, as_address, as_classtype, as_bytes, as_signature, as_question_list, as_question, as_record_list, as_record, as_data}
use Rattle.cd_block.specs.Equality.{same_bytes, same_classtype}
use Rattle.cd_block.specs.Tables.{KeptTables, index_in, question_index, record_index, indexed_question, indexed_record, indexed_signature, indexed_data}
use Rattle.cd_table.specs.declared.tables.Tables.{Tables}
use Rattle.cd_table.specs.Interning.{put}
use Rattle.cd_table.specs.Equality.{same_indexes, same_block_question, same_block_record, same_block_signature, same_block_data}
use Rattle.cd_table.specs.Growing.{Growing, ◌>>=◌, give, if_present, each}
use Rattle.cd_table.proofs.Images.{place_image}
use Rattle.cd_table.proofs.Places.{place_stays, index_is_place}
use Rattle.cd_table.proofs.Sound.{Covered, all_left, all_right, all_both}

-- tables that are equal one by one
pub tables_path : (a b : Tables) → a.ip_address ≡ b.ip_address → a.classtype ≡ b.classtype → a.name_rdata ≡ b.name_rdata → a.qr_sig ≡ b.qr_sig → a.qlist ≡ b.qlist → a.qrr ≡ b.qrr → a.rrlist ≡ b.rrlist → a.rr ≡ b.rr → a.malformed_message_data ≡ b.malformed_message_data → a ≡ b
tables_path a b p q r s t u v w x =
    λ i. record {
      ip_address = p i;
      classtype = q i;
      name_rdata = r i;
      qr_sig = s i;
      qlist = t i;
      qrr = u i;
      rrlist = v i;
      rr = w i;
      malformed_message_data = x i;
    }

-- the values of one kind, put one after the other
abbrev kind_put : {T : Type 0} → (T → T → Bool) → (Visited → Option T) → List T → List Visited → List T
kind_put same kind table vs = fold (put same) table (used kind vs)

-- the images of the values of one kind
abbrev image_put : {T B : Type 0} → (B → B → Bool) → (T → B) → (Visited → Option T) → List B → List Visited → List B
image_put eq f kind table vs = fold (put eq) table (map f (used kind vs))

kind_put-append : {T : Type 0} (same : T → T → Bool) (kind : Visited → Option T) (table : List T) (vs ws : List Visited) → kind_put same kind table (vs ++ ws) ≡ kind_put same kind (kind_put same kind table vs) ws
kind_put-append same kind table vs ws =
    ap (λ l. fold (put same) table l) (filter_map-append kind vs ws) ∙ fold-append (put same) table (used kind vs) (used kind ws)

image_put-append : {T B : Type 0} (eq : B → B → Bool) (f : T → B) (kind : Visited → Option T) (table : List B) (vs ws : List Visited) → image_put eq f kind table (vs ++ ws) ≡ image_put eq f kind (image_put eq f kind table vs) ws
image_put-append eq f kind table vs ws =
    ap (λ l. fold (put eq) table (map f l)) (filter_map-append kind vs ws)
    ∙ ap (λ l. fold (put eq) table l) (map-append f (used kind vs) (used kind ws))
    ∙ fold-append (put eq) table (map f (used kind vs)) (map f (used kind ws))

module _ (F : KeptTables) where
  -- the tables after these values were gone through, where the tables at the end are F
  unfoldable pub grown : Tables → List Visited → Tables
  grown t vs = record {
    ip_address = kind_put same_bytes as_address t.ip_address vs;
    classtype = kind_put same_classtype as_classtype t.classtype vs;
    name_rdata = kind_put same_bytes as_bytes t.name_rdata vs;
    qr_sig = image_put same_block_signature (indexed_signature F) as_signature t.qr_sig vs;
    qlist = image_put same_indexes (map (question_index F)) as_question_list t.qlist vs;
    qrr = image_put same_block_question (indexed_question F) as_question t.qrr vs;
    rrlist = image_put same_indexes (map (record_index F)) as_record_list t.rrlist vs;
    rr = image_put same_block_record (indexed_record F) as_record t.rr vs;
    malformed_message_data = image_put same_block_data (indexed_data F) as_data t.malformed_message_data vs;
  }

  -- the tables F of kept values as tables of a block
  unfoldable pub image : Tables
  image = record {
    ip_address = F.ip_address;
    classtype = F.classtype;
    name_rdata = F.name_rdata;
    qr_sig = map (indexed_signature F) F.qr_sig;
    qlist = map (map (question_index F)) F.qlist;
    qrr = map (indexed_question F) F.qrr;
    rrlist = map (map (record_index F)) F.rrlist;
    rr = map (indexed_record F) F.rr;
    malformed_message_data = map (indexed_data F) F.malformed_message_data;
  }

  -- going through nothing
  pub grown_nothing : (t : Tables) → grown t [] ≡ t
  unfolding grown
  grown_nothing t = refl

  -- going through some values and then others
  pub grown_append : (t : Tables) (vs ws : List Visited) → grown t (vs ++ ws) ≡ grown (grown t vs) ws
  unfolding grown
  grown_append t vs ws =
      tables_path (grown t (vs ++ ws)) (grown (grown t vs) ws)
      (kind_put-append same_bytes as_address t.ip_address vs ws)
      (kind_put-append same_classtype as_classtype t.classtype vs ws)
      (kind_put-append same_bytes as_bytes t.name_rdata vs ws)
      (image_put-append same_block_signature (indexed_signature F) as_signature t.qr_sig vs ws)
      (image_put-append same_indexes (map (question_index F)) as_question_list t.qlist vs ws)
      (image_put-append same_block_question (indexed_question F) as_question t.qrr vs ws)
      (image_put-append same_indexes (map (record_index F)) as_record_list t.rrlist vs ws)
      (image_put-append same_block_record (indexed_record F) as_record t.rr vs ws)
      (image_put-append same_block_data (indexed_data F) as_data t.malformed_message_data vs ws)

  -- from these tables, going through these values leads to the tables at the end
  pub record Leads (t : Tables) (vs : List Visited) : Type 0 where
    pub whole : grown t vs ≡ image
    pub covered : AllByRecursion (Covered F) vs

  -- after the first of them, the others lead there
  pub leads_on : (t : Tables) (vs ws : List Visited) → Leads t (vs ++ ws) → Leads (grown t vs) ws
  leads_on t vs ws l = record { whole = sym (grown_append t vs ws) ∙ l.whole; covered = all_right (Covered F) vs ws l.covered }

  -- a step goes through these values and gives this one, wherever that leads to the end
  abbrev pub Goes : {A : Type 0} → Growing A → List Visited → A → Type 0
  Goes step vs x = (t : Tables) (ws : List Visited) → Leads t (vs ++ ws) → ((step t).tables ≡ grown t vs) × ((step t).value ≡ x)

  pub gives : {A : Type 0} (x : A) → Goes (give x) [] x
  gives x t ws l = (sym (grown_nothing t), refl)

  -- one step and then another
  pub in_turn : {A B : Type 0} (step : Growing A) (next : A → Growing B) (vs ws : List Visited) (x : A) (y : B) → Goes step vs x → Goes (next x) ws y → Goes (step >>= next) (vs ++ ws) y
  in_turn step next vs ws x y first second t rest l =
      let led : Leads t (vs ++ (ws ++ rest)) = subst (Leads t) (append_assoc vs ws rest) l in
      let f = first t (ws ++ rest) led in
      let s = second (grown t vs) rest (leads_on t vs (ws ++ rest) led) in
      let tables : (next (step t).value (step t).tables).tables ≡ (next x (grown t vs)).tables =
      ap (λ a. (next a (step t).tables).tables) f.1 ∙ ap (λ u. (next x u).tables) f.0 in
      let value : (next (step t).value (step t).tables).value ≡ (next x (grown t vs)).value =
      ap (λ a. (next a (step t).tables).value) f.1 ∙ ap (λ u. (next x u).value) f.0 in
      (tables ∙ s.0 ∙ sym (grown_append t vs ws), value ∙ s.1)

  -- a step, and what is made of the value that it gives
  pub then_gives : {A B : Type 0} (step : Growing A) (make : A → B) (vs : List Visited) (x : A) → Goes step vs x → Goes (step >>= (λ a. give (make a))) vs (make x)
  then_gives step make vs x goes t ws l = let g = goes t ws l in (g.0, ap make g.1)

  -- the values may be named otherwise
  pub regrouped : {A : Type 0} (step : Growing A) (vs ws : List Visited) (x : A) → vs ≡ ws → Goes step vs x → Goes step ws x
  regrouped step vs ws x e goes = subst (λ us. Goes step us x) e goes

  -- values in another order that lead to the same tables
  pub reordered : {A : Type 0} (step : Growing A) (vs ws : List Visited) (x : A) → ((t : Tables) → grown t vs ≡ grown t ws) → (AllByRecursion (Covered F) ws → AllByRecursion (Covered F) vs) → Goes step vs x → Goes step ws x
  reordered step vs ws x same covers goes t rest l =
      let whole : grown t (vs ++ rest) ≡ image =
      grown_append t vs rest ∙ ap (λ u. grown u rest) (same t) ∙ sym (grown_append t ws rest) ∙ l.whole in
      let covered = all_both (Covered F) vs rest (covers (all_left (Covered F) ws rest l.covered)) (all_right (Covered F) ws rest l.covered) in
      let g = goes t rest (record { whole = whole; covered = covered }) in
      (g.0 ∙ same t, g.1)

  -- a step for a value that may be absent
  pub optional : {A B : Type 0} (step : A → Growing B) (visit : A → List Visited) (index : A → B) → ((x : A) → Goes (step x) (visit x) (index x)) → (o : Option A) → Goes (if_present step o) (where_present visit o) (option_map index o)
  optional step visit index goes None = gives None
  optional step visit index goes (Some x) = then_gives (step x) (λ v. Some v) (visit x) (index x) (goes x)

  -- a step for each value
  pub one_by_one : {A B : Type 0} (step : A → Growing B) (visit : A → List Visited) (index : A → B) → ((x : A) → Goes (step x) (visit x) (index x)) → (xs : List A) → Goes (each step xs) (flat_map visit xs) (map index xs)
  unfolding each
  one_by_one step visit index goes [] = gives []
  one_by_one {A} {B} step visit index goes (x ∷ xs) =
      in_turn (step x) (λ v. each step xs >>= (λ vs. give (v ∷ vs))) (visit x) (flat_map visit xs) (index x) (index x ∷ map index xs) (goes x)
      (then_gives (each step xs) (λ vs. index x ∷ vs) (flat_map visit xs) (map index xs) (one_by_one step visit index goes xs))

-- a value's place as it is put is its index at the end
pub index_at_end : {T : Type 0} (same : T → T → Bool) (xs us table : List T) (x : T) → same x x ≡ true → fold (put same) (put same xs x) us ≡ table → position_or_len (same x) xs ≡ index_in same table x
index_at_end same xs us table x itself led =
    sym (place_stays same xs us x itself) ∙ ap (position_or_len (same x)) led ∙ sym (index_is_place same table x)

-- and so is that of its image
pub image_at_end : {A B : Type 0} (f : A → B) (eq : B → B → Bool) (same : A → A → Bool) (P : A → Type 0) → ((a b : A) → P a → P b → eq (f a) (f b) ≡ same a b) → (xs us : List B) (table : List A) (x : A) → P x → same x x ≡ true → AllByRecursion P table → fold (put eq) (put eq xs (f x)) us ≡ map f table → position_or_len (eq (f x)) xs ≡ index_in same table x
image_at_end f eq same P agree xs us table x px itself all led =
    sym (place_stays eq xs us (f x) (agree x x px px ∙ itself)) ∙ ap (position_or_len (eq (f x))) led
    ∙ place_image f eq same P agree x px table all ∙ sym (index_is_place same table x)
