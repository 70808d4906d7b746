-- What each line of a table keeps of the fields, a map that is read by the table keeps.
use Rattle.std.proofs.Common.{◌≡◌, ℕ, ◌+◌, Bool, true, false, cond, List, [], ◌∷◌, Option, Some, None, Ok, Err, refl, ap, subst, arith}
use Rattle.std.specs.Prelude.{nat_eq, ℤ, pos, negsuc, ⊤}
use Rattle.std.specs.List.{AllByRecursion}
use Rattle.cd_cbor.specs.declared.item.Item.{Item}
use Rattle.cd_cbor.specs.declared.item.Item.TheViews.{out-Item}
use Rattle.cd_file.specs.declared.refusal.FileWhy.{FileWhy}
use Rattle.cd_file.specs.Refusing.{Refusing, ◌>>=◌}
use Rattle.cd_file.specs.Kinds.{Kind, integer_in, pairs_in, items_in, or_shape, each, array_of}
use Rattle.cd_file.specs.MapReading.{Line, line_of, read_by, value_read, is_met, Course, entry_by, entries_read, first_missing, complete, fields_of, map_from, read_and_put, read_within, required, optional, required_within, optional_within}
use Rattle.cd_file.proofs.ElementsFit.{element_count, value_elements}

-- a value that is read after another
pub bind_read : {A B : Type 0} (r : Refusing A) (f : A → Refusing B) (y : B) → (r >>= f) ≡ Ok y → (x : A) × (r ≡ Ok x) × (f x ≡ Ok y)
bind_read (Ok x) f y h = (x, refl, h)
bind_read (Err e) f y h = absurd cc

pub read_same : {A : Type 0} (x y : A) → ◌≡◌ {A = Refusing A} (Ok x) (Ok y) → x ≡ y
read_same x y h = cc

-- a value that is there
pub shape_read : {A : Type 0} (key : ℤ) (o : Option A) (x : A) → or_shape key o ≡ Ok x → o ≡ Some x
shape_read key (Some y) x h = let same : y ≡ x = cc in ap Some same
shape_read key None x h = absurd cc

-- A kind gives values of which this holds.
pub record KindGives {A : Type 0} (kind : Kind A) (Q : A → Type 0) : Type 0 where
  pub gives : (key : ℤ) (item : Item) (value : A) → kind key item ≡ Ok value → Q value

-- what holds of fields so far holds with one line more
pub record LineKeeps {F : Type 0} (P : ℕ → F → Type 0) (line : Line F) : Type 0 where
  pub keeps : (item : Item) (before after : F) (n : ℕ) → line.read item before ≡ Ok after → P n before → P (n + element_count item) after

-- what holds of fields for a count holds for a greater one
abbrev pub Widens : {F : Type 0} → (ℕ → F → Type 0) → Type 0
Widens {F} P = (n more : ℕ) (fields : F) → P n fields → P (n + more) fields

module _ {F : Type 0} (P : ℕ → F → Type 0) (widens : Widens P) where
  line_keeps : (b : Bool) (line : Line F) (rest found : Option (Line F)) → LineKeeps P line → ((l : Line F) → rest ≡ Some l → LineKeeps P l) →
      (l : Line F) → cond b (Some line) rest ≡ Some l → LineKeeps P l
  line_keeps true line rest found one others l h = let same : line ≡ l = cc in subst (LineKeeps P) same one
  line_keeps false line rest found one others l h = others l h

  -- the line of a key
  found_keeps : (table : List (Line F)) (key : ℕ) → AllByRecursion (LineKeeps P) table → (l : Line F) → line_of table key ≡ Some l → LineKeeps P l
  unfolding line_of
  found_keeps [] key all l h = absurd cc
  found_keeps (line ∷ table) key all l h = line_keeps (nat_eq key line.key) line (line_of table key) None all.0 (found_keeps table key all.1) l h

  read_keeps : (o : Option (Line F)) → ((l : Line F) → o ≡ Some l → LineKeeps P l) → (item : Item) (before after : F) (n : ℕ) → read_by o item before ≡ Ok after → P n before →
      P (n + element_count item) after
  read_keeps None each item before after n h p = subst (P (n + element_count item)) (read_same before after h) (widens n (element_count item) before p)
  read_keeps (Some line) each item before after n h p = (each line refl).keeps item before after n h p

  value_keeps : (table : List (Line F)) → AllByRecursion (LineKeeps P) table → (key : ℤ) (item : Item) (before after : F) (n : ℕ) → value_read table key item before ≡ Ok after → P n before →
      P (n + element_count item) after
  unfolding value_read
  value_keeps table all (pos key) item before after n h p = read_keeps (line_of table key) (found_keeps table key all) item before after n h p
  value_keeps table all (negsuc k) item before after n h p = subst (P (n + element_count item)) (read_same before after h) (widens n (element_count item) before p)

  met_keeps : (b : Bool) (why : FileWhy) (r : Refusing (Course F)) (next : Course F) → cond b (Err why) r ≡ Ok next → r ≡ Ok next
  met_keeps true why r next h = absurd cc
  met_keeps false why r next h = h

  entry_keeps : (table : List (Line F)) → AllByRecursion (LineKeeps P) table → (key : Option ℤ) (item : Item) (course next : Course F) (n : ℕ) → entry_by table key item course ≡ Ok next →
      P n course.fields → P (n + element_count item) next.fields
  unfolding entry_by
  entry_keeps table all None item course next n h p =
      subst (λ c. P (n + element_count item) c.fields) (read_same course next h) (widens n (element_count item) course.fields p)
  entry_keeps table all (Some key) item course next n h p =
      let k = bind_read (value_read table key item course.fields) _ next (met_keeps (is_met course.met key) _ _ next h) in
      subst (λ c. P (n + element_count item) c.fields) (read_same _ next k.2) (value_keeps table all key item course.fields k.0 n k.1 p)

  entries_keep : (table : List (Line F)) → AllByRecursion (LineKeeps P) table → (pairs : List (Item × Item)) (course next : Course F) (n : ℕ) → entries_read table pairs course ≡ Ok next →
      P n course.fields → P (n + value_elements pairs) next.fields
  unfolding entries_read value_elements
  entries_keep table all [] course next n h p = subst (λ c. P (n + 0) c.fields) (read_same course next h) (widens n 0 course.fields p)
  entries_keep table all (pair ∷ pairs) course next n h p =
      let k = bind_read (entry_by table (integer_in (out-Item pair.0)) pair.1 course) _ next h in
      let one = entry_keeps table all (integer_in (out-Item pair.0)) pair.1 course k.0 n k.1 p in
      let others = entries_keep table all pairs k.0 next (n + element_count pair.1) k.2 one in
      let sum : n + element_count pair.1 + value_elements pairs ≡ n + (element_count pair.1 + value_elements pairs) = omega arith in
      subst (λ m. P m next.fields) sum others

  complete_read : (missing : Option ℕ) (before after : F) → complete missing before ≡ Ok after → before ≡ after
  complete_read None before after h = read_same before after h
  complete_read (Some key) before after h = absurd cc

  -- a map
  pub fields_keep : (table : List (Line F)) → AllByRecursion (LineKeeps P) table → (pairs : List (Item × Item)) (before after : F) (n : ℕ) → fields_of table before pairs ≡ Ok after →
      P n before → P (n + value_elements pairs) after
  unfolding fields_of
  fields_keep table all pairs before after n h p =
      let k = bind_read (entries_read table pairs (record { met = []; fields = before })) _ after h in
      subst (P (n + value_elements pairs)) (complete_read (first_missing table k.0.met) k.0.fields after k.2) (entries_keep table all pairs (record { met = []; fields = before }) k.0 n k.1 p)

-- what holds for no count
module _ {F : Type 0} (P : F → Type 0) where
  -- a line keeps what holds of the fields, whatever it reads
  abbrev pub Keeps : Line F → Type 0
  Keeps = LineKeeps (λ n. P)

  pub map_keeps : (table : List (Line F)) → AllByRecursion Keeps table → (before : F) → P before → KindGives (map_from table before) P
  unfolding map_from
  map_keeps table all before p = record {
    gives = λ key item value h.
        let k = bind_read (or_shape key (pairs_in (out-Item item))) _ value h in fields_keep (λ n. P) (λ n more fields q. q) table all k.0 before value 0 k.2 p;
  }

module _ {F : Type 0} (P : ℕ → F → Type 0) (widens : Widens P) where
  within_keeps : (key : ℕ) (table : List (Line F)) → ((n : ℕ) → AllByRecursion (LineKeeps (λ k. P n)) table) → (item : Item) (before after : F) (n : ℕ) →
      read_within table key item before ≡ Ok after → P n before → P (n + element_count item) after
  within_keeps key table all item before after n h p =
      let same = map_keeps (P n) table (all n) before p in
      widens n (element_count item) after (same.gives (pos key) item after h)

  -- a map within
  pub required_within_keeps : (key : ℕ) (table : List (Line F)) → ((n : ℕ) → AllByRecursion (LineKeeps (λ k. P n)) table) → LineKeeps P (required_within key table)
  required_within_keeps key table all = record { keeps = within_keeps key table all }

  pub optional_within_keeps : (key : ℕ) (table : List (Line F)) → ((n : ℕ) → AllByRecursion (LineKeeps (λ k. P n)) table) → LineKeeps P (optional_within key table)
  optional_within_keeps key table all = record { keeps = within_keeps key table all }

  put_keeps : {A : Type 0} (Q : A → Type 0) (kind : Kind A) (put : A → F → F) (key : ℕ) → KindGives kind Q →
      ((value : A) (fields : F) (n : ℕ) → Q value → P n fields → P n (put value fields)) → (item : Item) (before after : F) (n : ℕ) → read_and_put kind put key item before ≡ Ok after → P n before →
      P (n + element_count item) after
  put_keeps Q kind put key of puts item before after n h p =
      let k = bind_read (kind (pos key) item) _ after h in
      subst (P (n + element_count item)) (read_same (put k.0 before) after k.2)
      (widens n (element_count item) (put k.0 before) (puts k.0 before n (of.gives (pos key) item k.0 k.1) p))

  -- a value of a kind
  pub required_keeps : {A : Type 0} (Q : A → Type 0) (kind : Kind A) (put : A → F → F) (key : ℕ) → KindGives kind Q →
      ((value : A) (fields : F) (n : ℕ) → Q value → P n fields → P n (put value fields)) → LineKeeps P (required key kind put)
  required_keeps Q kind put key of puts = record { keeps = put_keeps Q kind put key of puts }

  pub optional_keeps : {A : Type 0} (Q : A → Type 0) (kind : Kind A) (put : A → F → F) (key : ℕ) → KindGives kind Q →
      ((value : A) (fields : F) (n : ℕ) → Q value → P n fields → P n (put value fields)) → LineKeeps P (optional key kind put)
  optional_keeps Q kind put key of puts = record { keeps = put_keeps Q kind put key of puts }

-- any value
pub any_value : {A : Type 0} (kind : Kind A) → KindGives kind (λ value. ⊤)
any_value kind = record { gives = λ key item value h. tt }

-- values one after another
pub each_gives : {A : Type 0} (Q : A → Type 0) (kind : Kind A) → KindGives kind Q → (key : ℤ) (items : List Item) (values : List A) → each kind key items ≡ Ok values → AllByRecursion Q values
unfolding each
each_gives Q kind of key [] values h = subst (AllByRecursion Q) (read_same [] values h) tt
each_gives Q kind of key (item ∷ items) values h =
    let one = bind_read (kind key item) _ values h in
    let others = bind_read (each kind key items) _ values one.2 in
    subst (AllByRecursion Q) (read_same (one.0 ∷ others.0) values others.2) (of.gives key item one.0 one.1, each_gives Q kind of key items others.0 others.1)

-- an array
pub array_gives : {A : Type 0} (Q : A → Type 0) (kind : Kind A) → KindGives kind Q → KindGives (array_of kind) (AllByRecursion Q)
unfolding array_of
array_gives Q kind of = record {
  gives = λ key item values h. let k = bind_read (or_shape key (items_in (out-Item item))) _ values h in each_gives Q kind of key k.0 values k.2;
}

-- lines of what holds for no count
module _ {F : Type 0} (P : F → Type 0) where
  pub required_line : {A : Type 0} (Q : A → Type 0) (kind : Kind A) (put : A → F → F) (key : ℕ) → KindGives kind Q → ((value : A) (fields : F) → Q value → P fields → P (put value fields)) → Keeps P (required key kind put)
  required_line Q kind put key of puts = required_keeps (λ n. P) (λ n more fields p. p) Q kind put key of (λ value fields n q p. puts value fields q p)

  pub optional_line : {A : Type 0} (Q : A → Type 0) (kind : Kind A) (put : A → F → F) (key : ℕ) → KindGives kind Q → ((value : A) (fields : F) → Q value → P fields → P (put value fields)) → Keeps P (optional key kind put)
  optional_line Q kind put key of puts = optional_keeps (λ n. P) (λ n more fields p. p) Q kind put key of (λ value fields n q p. puts value fields q p)

  pub required_within_line : (key : ℕ) (table : List (Line F)) → AllByRecursion (Keeps P) table → Keeps P (required_within key table)
  required_within_line key table all = required_within_keeps (λ n. P) (λ n more fields p. p) key table (λ n. all)

  pub within_line : (key : ℕ) (table : List (Line F)) → AllByRecursion (Keeps P) table → Keeps P (optional_within key table)
  within_line key table all = optional_within_keeps (λ n. P) (λ n more fields p. p) key table (λ n. all)
