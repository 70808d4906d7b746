-- A map that is written is read back: each entry that is there is read by its line into the fields.
use Rattle.std.proofs.Common.{◌≡◌, ℕ, suc, ◌+◌, ◌<◌, ◌≤◌, ◌^◌, ℤ, pos, List, [], ◌∷◌, ◌++◌, length, map, Option, Some, None, Ok, inl, inr, refl, ap, subst, ◌∙◌, arith, length-append}
use Rattle.std.specs.Prelude.{Bool, true, false, not, ◌&&◌, ◌||◌, nat_eq, nat_le, nat_lt, is_some, IfSome, if◌then◌else◌}
use Rattle.std.specs.List.{AllByRecursion}
use Rattle.std.specs.Option.{option_map}
use Rattle.std.proofs.lemmas.Bool.{and_parts, or_right, both_ways, cases_eq, eq-eqb, ne_eqb, leb-true, ltb-true}
use Rattle.cd_cbor.specs.declared.item.Item.{Item}
use Rattle.cd_cbor.specs.declared.item.Item.TheOpen.{Item-F}
use Rattle.cd_cbor.specs.declared.item.Item.TheViews.{out-Item}
use Rattle.cd_cbor.specs.Items.{unsigned, array, present}
use Rattle.cd_cbor.specs.Fitting.{FitsPair, fits_map, Fits}
use Rattle.cd_cbor.specs.Spelling.{head, spelling, spelling_pairs}
use Rattle.cd_cbor.proofs.Spelled.{spelling_entries}
use Rattle.cd_file.specs.Kinds.{Kind, unsigned as unsigned_kind, unsigned_if_below, array_of}
use Rattle.cd_file.specs.MapReading.{Line, value_read, is_met, entry_by, entries_read, first_missing, fields_of, map_from}
use Rattle.cd_file.specs.Maps.{map_of, optional_map, optional_array, number, entries_count}
use Rattle.cd_file.specs.Readable.{IsNumber, IsIndex}
use Rattle.cd_file.proofs.Maps.{none_present, some_present}
use Rattle.cd_file.proofs.ValuesReadBack.{unsigned_is, entries_is, IsShort, ReadsBack, number_fits, number_back, if_below_back, some_bytes, EachReadsBack, array_back}

-- the keys of entries ascend, from a bound on, and are below 24
abbrev pub are_keys : ℕ → List (ℕ × Option Item) → Bool
are_keys bound [] = true
are_keys bound (e ∷ es) = nat_le bound e.0 && (nat_lt e.0 24 && are_keys (e.0 + 1) es)

-- a key with its value is there
abbrev pub is_there : List (ℕ × Option Item) → ℕ → Bool
is_there [] key = false
is_there (e ∷ es) key = if nat_eq key e.0 then is_some e.1 else is_there es key

-- each required key is there
abbrev pub has_required : {F : Type 0} → List (Line F) → List (ℕ × Option Item) → Bool
has_required [] es = true
has_required (line ∷ table) es = (not line.is_required || is_there es line.key) && has_required table es

-- What an entry does to the fields: nothing where its value is not there; else its value is read into them, and fits where
-- its bytes are few.
abbrev pub Does : {F : Type 0} → List (Line F) → ℕ → ℕ → Option Item → F → F → Type 0
Does table depth key None before after = before ≡ after
Does table depth key (Some item) before after = (value_read table (pos key) item before ≡ Ok after) × (IsShort item → Fits depth item)

-- what entries do to the fields, one after the other
abbrev pub DoAll : {F : Type 0} → List (Line F) → ℕ → List (ℕ × Option Item) → F → F → Type 0
DoAll table depth [] before after = before ≡ after
DoAll {F} table depth (e ∷ es) before after = (next : F) × Does table depth e.0 e.1 before next × DoAll table depth es next after

-- an entry turns these fields into those
pub record Puts {F : Type 0} (table : List (Line F)) (depth key : ℕ) (value : Option Item) (before after : F) : Type 0 where
  pub does : Does table depth key value before after

-- so do entries, one after the other
pub record PutsAll {F : Type 0} (table : List (Line F)) (depth : ℕ) (es : List (ℕ × Option Item)) (before after : F) : Type 0 where
  pub do_all : DoAll table depth es before after

-- no entry
pub puts_none : {F : Type 0} {table : List (Line F)} {depth : ℕ} {before after : F} → before ≡ after → PutsAll table depth [] before after
puts_none h = record { do_all = h }

-- an entry before others
pub puts_more : {F : Type 0} {table : List (Line F)} {depth key : ℕ} {value : Option Item} {es : List (ℕ × Option Item)} {before next after : F} →
    Puts table depth key value before next → PutsAll table depth es next after → PutsAll table depth ((key, value) ∷ es) before after
puts_more {next = next} one more = record { do_all = (next, one.does, more.do_all) }

-- the keys that are met after these entries, the last one first
abbrev met_after : List (ℕ × Option Item) → List ℤ → List ℤ
met_after [] met = met
met_after ((k, None) ∷ es) met = met_after es met
met_after ((k, Some item) ∷ es) met = met_after es (pos k ∷ met)

-- no key from a bound on was met
abbrev Unmet : List ℤ → ℕ → Type 0
Unmet met bound = (k : ℕ) → bound ≤ k → is_met met (pos k) ≡ false

unmet_more : (met : List ℤ) (bound key : ℕ) → bound ≤ key → Unmet met bound → Unmet (pos key ∷ met) (key + 1)
unfolding is_met
unmet_more met bound key low unmet k above =
    let apart : nat_eq k key ≡ false = ne_eqb k key (λ e. omega arith) in
    rw (apart, unmet k (omega arith)) refl

none_met : Unmet [] 0
unfolding is_met
none_met k low = refl

-- what was met stays so
met_one_more : (met : List ℤ) (key k : ℕ) → is_met met (pos k) ≡ true → is_met (pos key ∷ met) (pos k) ≡ true
unfolding is_met
met_one_more met key k h = or_right (nat_eq k key) (is_met met (pos k)) h

met_before : (es : List (ℕ × Option Item)) (met : List ℤ) (k : ℕ) → is_met met (pos k) ≡ true → is_met (met_after es met) (pos k) ≡ true
met_before [] met k h = h
met_before ((key, None) ∷ es) met k h = met_before es met k h
met_before ((key, Some item) ∷ es) met k h = met_before es (pos key ∷ met) k (met_one_more met key k h)

first_met : (met : List ℤ) (key k : ℕ) → k ≡ key → is_met (pos key ∷ met) (pos k) ≡ true
unfolding is_met
first_met met key k h = rw (eq-eqb k key h) refl

-- what is there is met
met_there : (es : List (ℕ × Option Item)) (met : List ℤ) (k : ℕ) → is_there es k ≡ true → is_met (met_after es met) (pos k) ≡ true
met_there [] met k h = absurd (both_ways false refl h)
met_there ((key, None) ∷ es) met k h =
    elim (cases_eq k key) [
      | inl same ↦ absurd (both_ways false refl (rw (eq-eqb k key same) at h))
      | inr apart ↦ met_there es met k (rw (ne_eqb k key apart) at h)
    ]
met_there ((key, Some item) ∷ es) met k h =
    elim (cases_eq k key) [
      | inl same ↦ met_before es (pos key ∷ met) k (first_met met key k same)
      | inr apart ↦ met_there es (pos key ∷ met) k (rw (ne_eqb k key apart) at h)
    ]

not_missing : (required there met : Bool) → (not required || there) ≡ true → (there ≡ true → met ≡ true) → (required && not met) ≡ false
not_missing false there met h k = refl
not_missing true true met h k = rw (k refl) refl
not_missing true false met h k = absurd (both_ways false refl h)

-- no required key is missing
none_missing : {F : Type 0} (table : List (Line F)) (es : List (ℕ × Option Item)) (met : List ℤ) → has_required table es ≡ true →
    ((k : ℕ) → is_there es k ≡ true → is_met met (pos k) ≡ true) → first_missing table met ≡ None
unfolding first_missing
none_missing [] es met all there = refl
none_missing (line ∷ table) es met all there =
    let parts = and_parts (not line.is_required || is_there es line.key) (has_required table es) all in
    let here : (line.is_required && not (is_met met (pos line.key))) ≡ false =
    not_missing line.is_required (is_there es line.key) (is_met met (pos line.key)) parts.0 (there line.key) in
    rw here (none_missing table es met parts.1 there)

-- An item is a map whose pairs give these fields, and fits where its bytes are few.
pub record MapReadsBack {F : Type 0} (table : List (Line F)) (before : F) (depth : ℕ) (item : Item) (after : F) : Type 0 where
  pub pairs : List (Item × Item)
  pub are : out-Item item ≡ Item-F.Map pairs
  pub fields : fields_of table before pairs ≡ Ok after
  pub fits : IsShort item → Fits depth item

module _ {F : Type 0} (table : List (Line F)) (depth : ℕ) where
  -- the entries that are there are read
  entries_put : (es : List (ℕ × Option Item)) (bound : ℕ) (met : List ℤ) (before after : F) → are_keys bound es ≡ true → Unmet met bound →
      DoAll table depth es before after →
      entries_read table (present es) (record { met = met; fields = before }) ≡ Ok (record { met = met_after es met; fields = after })
  unfolding entries_read entry_by present
  entries_put [] bound met before after keys unmet puts = ap (λ f. Ok (record { met = met; fields = f })) puts
  entries_put ((k, None) ∷ es) bound met before after keys unmet puts =
      let low = and_parts (nat_le bound k) (nat_lt k 24 && are_keys (k + 1) es) keys in
      let rest = and_parts (nat_lt k 24) (are_keys (k + 1) es) low.1 in
      let above : bound ≤ k = leb-true bound k low.0 in
      let still : Unmet met (k + 1) = λ j h. unmet j (omega (arith, h, above)) in
      rw puts.1 (entries_put es (k + 1) met puts.0 after rest.1 still puts.2)
  entries_put ((k, Some item) ∷ es) bound met before after keys unmet puts =
      let low = and_parts (nat_le bound k) (nat_lt k 24 && are_keys (k + 1) es) keys in
      let rest = and_parts (nat_lt k 24) (are_keys (k + 1) es) low.1 in
      let above : bound ≤ k = leb-true bound k low.0 in
      let others = entries_put es (k + 1) (pos k ∷ met) puts.0 after rest.1 (unmet_more met bound k above unmet) puts.2 in
      rw (unsigned_is k, unmet k above, puts.1.0) others

  -- the pairs of those that are there fit
  entries_fit : (es : List (ℕ × Option Item)) (bound : ℕ) (before after : F) → are_keys bound es ≡ true → DoAll table depth es before after →
      length (spelling_pairs (present es)) ≤ 134217728 →
      AllByRecursion (FitsPair (Fits depth)) (present es) × (length (present es) ≤ length (spelling_pairs (present es)))
  unfolding present
  entries_fit [] bound before after keys puts short = (tt, omega arith)
  entries_fit ((k, None) ∷ es) bound before after keys puts short =
      let low = and_parts (nat_le bound k) (nat_lt k 24 && are_keys (k + 1) es) keys in
      let rest = and_parts (nat_lt k 24) (are_keys (k + 1) es) low.1 in
      entries_fit es (k + 1) puts.0 after rest.1 puts.2 short
  entries_fit ((k, Some item) ∷ es) bound before after keys puts short =
      let low = and_parts (nat_le bound k) (nat_lt k 24 && are_keys (k + 1) es) keys in
      let rest = and_parts (nat_lt k 24) (are_keys (k + 1) es) low.1 in
      let small : k < 24 = ltb-true k 24 rest.0 in
      let first = length-append (spelling (unsigned k)) (spelling item ++ spelling_pairs (present es)) in
      let second = length-append (spelling item) (spelling_pairs (present es)) in
      let one : Fits depth item = puts.1.1 (omega (arith, first, second, short)) in
      let more = entries_fit es (k + 1) puts.0 after rest.1 puts.2 (omega (arith, first, second, short)) in
      (((number_fits depth k (omega (arith, small)), one), more.0), omega (arith, first, second, some_bytes depth item one, more.1))

  -- entries that are not there change nothing
  puts_nothing : (es : List (ℕ × Option Item)) (before after : F) → entries_count es ≡ 0 → DoAll table depth es before after → before ≡ after
  puts_nothing [] before after none puts = puts
  puts_nothing ((k, None) ∷ es) before after none puts = puts.1 ∙ puts_nothing es puts.0 after (omega (arith, none)) puts.2
  puts_nothing ((k, Some item) ∷ es) before after none puts = absurd (omega (arith, none))

  -- the fields of a map
  pub fields_back : (es : List (ℕ × Option Item)) (before after : F) → are_keys 0 es ≡ true → has_required table es ≡ true →
      DoAll table depth es before after → fields_of table before (present es) ≡ Ok after
  unfolding fields_of
  fields_back es before after keys all puts =
      rw (entries_put es 0 [] before after keys none_met puts, none_missing table es (met_after es []) all (met_there es [])) refl

  -- a map: its pairs, and the fields that they give
  pub map_parts : (es : List (ℕ × Option Item)) (before after : F) → are_keys 0 es ≡ true → has_required table es ≡ true →
      PutsAll table depth es before after → MapReadsBack table before (suc depth) (map_of es) after
  unfolding map_of
  map_parts es before after keys all puts = record {
    pairs = present es;
    are = entries_is (present es);
    fields = fields_back es before after keys all puts.do_all;
    fits = λ short.
        let parts = length-append (head 5 (length (present es))) (spelling_pairs (present es)) in
        let whole = ap length (spelling_entries (present es)) in
        let inside : length (spelling_pairs (present es)) ≤ 134217728 = omega (arith, parts, whole, short) in
        let fit = entries_fit es 0 before after keys puts.do_all inside in
        inr (fits_map (present es) (omega (arith, fit.1, inside)) fit.0 refl);
  }

  -- a map under a key
  pub map_back : (es : List (ℕ × Option Item)) (before after : F) → are_keys 0 es ≡ true → has_required table es ≡ true →
      PutsAll table depth es before after → ReadsBack (map_from table before) (suc depth) (map_of es) after
  unfolding map_from
  map_back es before after keys all puts =
      let m = map_parts es before after keys all puts in record { reads = λ key. rw m.are m.fields; fits = m.fits }

-- a value that is there
pub puts_value : {A F : Type 0} {table : List (Line F)} {depth key : ℕ} {item : Item} {before : F} (read : Kind A) (value : A) (set : A → F → F) →
    ReadsBack read depth item value → (read (pos key) item ≡ Ok value → value_read table (pos key) item before ≡ Ok (set value before)) →
    Puts table depth key (Some item) before (set value before)
puts_value {key = key} read value set back put = record { does = (put (back.reads (pos key)), back.fits) }

-- a value that is absent
pub puts_absent : {F : Type 0} {table : List (Line F)} {depth key : ℕ} {before : F} (value : Option Item) → value ≡ None → Puts table depth key value before before
puts_absent value none = rw none (record { does = refl })

-- a value that may be absent
pub puts_option : {A F : Type 0} {table : List (Line F)} {depth key : ℕ} {before : F} (write : A → Item) (o : Option A) (set : Option A → F → F) →
    before ≡ set None before →
    ((a : A) → o ≡ Some a → Puts table depth key (Some (write a)) before (set (Some a) before)) →
    Puts table depth key (option_map write o) before (set o before)
puts_option write None set none some = record { does = none }
puts_option write (Some a) set none some = some a refl

-- what is said of a value, where it is there
pub said : {A : Type 0} (P : A → Type 0) (o : Option A) (a : A) → IfSome o P → o ≡ Some a → P a
said P o a h e = subst (λ x. IfSome x P) e h

-- a number that may be absent
pub puts_index : {F : Type 0} {table : List (Line F)} {depth key : ℕ} {before : F} (o : Option ℕ) (set : Option ℕ → F → F) → IsIndex o →
    before ≡ set None before →
    ((n : ℕ) → unsigned_kind (pos key) (unsigned n) ≡ Ok n → value_read table (pos key) (unsigned n) before ≡ Ok (set (Some n) before)) →
    Puts table depth key (number o) before (set o before)
puts_index {depth = depth} o set small none put =
    puts_option unsigned o set none (λ n e. puts_value unsigned_kind n (λ m. set (Some m)) (number_back depth n (said IsNumber o n small e)) (put n))

-- a number below a bound that may be absent
pub puts_below : {F : Type 0} {table : List (Line F)} {depth key : ℕ} {before : F} (bound : ℕ) (o : Option ℕ) (set : Option ℕ → F → F) → bound ≤ 2 ^ 64 →
    IfSome o (λ n. n < bound) → before ≡ set None before →
    ((n : ℕ) → unsigned_if_below bound (pos key) (unsigned n) ≡ Ok (Some n) → value_read table (pos key) (unsigned n) before ≡ Ok (set (Some n) before)) →
    Puts table depth key (number o) before (set o before)
puts_below {depth = depth} bound o set few low none put =
    puts_option unsigned o set none
    (λ n e. let less : n < bound = said (λ m. m < bound) o n low e in
    puts_value (unsigned_if_below bound) (Some n) set (if_below_back depth bound n less (omega (arith, less, few))) (put n))

-- an array that is absent where it has no value
pub puts_array : {A F : Type 0} {table : List (Line F)} {depth key : ℕ} {before : F} (read : Kind A) (write : A → Item) (xs : List A) (set : List A → F → F) →
    EachReadsBack read depth write xs → before ≡ set [] before →
    (array_of read (pos key) (array (map write xs)) ≡ Ok xs → value_read table (pos key) (array (map write xs)) before ≡ Ok (set xs before)) →
    Puts table (suc depth) key (optional_array (map write xs)) before (set xs before)
puts_array read write [] set back none put = record { does = none }
puts_array {depth = depth} read write (x ∷ xs) set back none put = puts_value (array_of read) (x ∷ xs) set (array_back read depth write (x ∷ xs) back) put

-- a map that is absent where no value of it is there
pub puts_map : {A F : Type 0} {table : List (Line F)} {depth key : ℕ} {before : F} (inner : List (Line A)) (es : List (ℕ × Option Item)) (empty value : A) (set : A → F → F) →
    are_keys 0 es ≡ true → has_required inner es ≡ true → PutsAll inner depth es empty value → before ≡ set empty before →
    (map_from inner empty (pos key) (map_of es) ≡ Ok value → value_read table (pos key) (map_of es) before ≡ Ok (set value before)) →
    Puts table (suc depth) key (optional_map es) before (set value before)
puts_map {A} {F} {table} {depth} {key} {before} inner es empty value set keys all puts none put =
    elim (cases_eq (entries_count es) 0) [
      | inl absent ↦ rw (none_present es absent) (record { does = none ∙ ap (λ v. set v before) (puts_nothing inner depth es empty value absent puts.do_all) })
      | inr some ↦
          let one : 0 < entries_count es = omega (arith, some) in
          rw (some_present es one) (puts_value (map_from inner empty) value set (map_back inner depth es empty value keys all puts) put)
    ]
