-- Values that are written are read back: what an item is, and the kinds of values that hold no map.
use Rattle.std.proofs.Common.{◌≡◌, ℕ, zero, suc, false, ◌<◌, ◌≤◌, ◌^◌, ℤ, pos, negsuc, List, [], ◌∷◌, ◌++◌, length, map, Some, Ok, inl, inr, refl, ap, sym, ◌∙◌, arith, length-append}
use Rattle.std.specs.List.{AllByRecursion}
use Rattle.std.proofs.lemmas.Bool.{lt-ltb, le-leb}
use Rattle.cd_cbor.specs.declared.item.Item.{Item}
use Rattle.cd_cbor.specs.declared.item.Item.TheOpen.{Item-F}
use Rattle.cd_cbor.specs.declared.item.Item.TheViews.{out-Item, out-roll-Item}
use Rattle.cd_cbor.specs.declared.item.Item.TheVariants.{rolls-Uint, rolls-Nint, rolls-Bytes, rolls-Array, rolls-Map}
use Rattle.cd_cbor.specs.Items.{unsigned, negative, bytes, array, entries}
use Rattle.cd_cbor.specs.Integers.{signed}
use Rattle.cd_cbor.specs.Fitting.{FitsPlain, fits_unsigned, fits_negative, fits_string, fits_array, Fits}
use Rattle.cd_cbor.specs.Spelling.{head, spelling, spelling_all}
use Rattle.cd_cbor.specs.Spells.{Spells}
use Rattle.cd_cbor.proofs.Spelled.{spelling_bytes, spelling_array}
use Rattle.cd_cbor.proofs.HeadsRead.{Begins}
use Rattle.cd_cbor.proofs.ItemsRead.{item_begins}
use Rattle.cd_cbor.proofs.Written.{item_written}
use Rattle.cd_block.specs.declared.stamp.Stamp.{Stamp}
use Rattle.cd_file.specs.Kinds.{Kind, unsigned as unsigned_kind, unsigned_below, unsigned_if_below, signed as signed_kind, byte_string, short_byte_string, each, array_of, filled_array_of, stamp}
use Rattle.cd_file.specs.Blocks.{stamp_item}
use Rattle.cd_file.specs.Maps.{numbers}
use Rattle.cd_file.specs.Readable.{IsSigned, ReadableStamp}

-- what an item is, one layer of it
pub unsigned_is : (n : ℕ) → out-Item (unsigned n) ≡ Item-F.Uint n
unfolding unsigned
unsigned_is n = ap out-Item (sym (rolls-Uint n)) ∙ out-roll-Item (Item-F.Uint n)

negative_is : (n : ℕ) → out-Item (negative n) ≡ Item-F.Nint n
unfolding negative
negative_is n = ap out-Item (sym (rolls-Nint n)) ∙ out-roll-Item (Item-F.Nint n)

bytes_is : (content : List ℕ) → out-Item (bytes content) ≡ Item-F.Bytes content
unfolding bytes
bytes_is content = ap out-Item (sym (rolls-Bytes content)) ∙ out-roll-Item (Item-F.Bytes content)

array_is : (items : List Item) → out-Item (array items) ≡ Item-F.Array items
unfolding array
array_is items = ap out-Item (sym (rolls-Array items)) ∙ out-roll-Item (Item-F.Array items)

pub entries_is : (pairs : List (Item × Item)) → out-Item (entries pairs) ≡ Item-F.Map pairs
unfolding entries
entries_is pairs = ap out-Item (sym (rolls-Map pairs)) ∙ out-roll-Item (Item-F.Map pairs)

-- the bytes of an item are no more than those of a string may be
abbrev pub IsShort : Item → Type 0
IsShort item = length (spelling item) ≤ 134217728

-- An item is read as this value under each key, and fits where its bytes are few: so many arrays and maps may be open in it.
pub record ReadsBack {A : Type 0} (read : Kind A) (depth : ℕ) (item : Item) (value : A) : Type 0 where
  pub reads : (key : ℤ) → read key item ≡ Ok value
  pub fits : IsShort item → Fits depth item

-- a plain item fits at each depth
pub plain_fits : (depth : ℕ) (item : Item) → ((Spelled : Item → List ℕ → Type 0) → FitsPlain Spelled item) → Fits depth item
plain_fits zero item h = h (Spells zero)
plain_fits (suc depth) item h = inl (h (Spells (suc depth)))

-- a number
pub number_fits : (depth n : ℕ) → n < 2 ^ 64 → Fits depth (unsigned n)
number_fits depth n small = plain_fits depth (unsigned n) (λ Spelled. fits_unsigned n small refl)

pub number_back : (depth n : ℕ) → n < 2 ^ 64 → ReadsBack unsigned_kind depth (unsigned n) n
unfolding unsigned_kind
number_back depth n small = record { reads = λ key. rw (unsigned_is n) refl; fits = λ short. number_fits depth n small }

-- a number below a bound
pub below_back : (depth bound n : ℕ) → n < bound → n < 2 ^ 64 → ReadsBack (unsigned_below bound) depth (unsigned n) n
unfolding unsigned_below
below_back depth bound n low small = record {
  reads = λ key. rw ((number_back depth n small).reads key, lt-ltb n bound low) refl;
  fits = λ short. number_fits depth n small;
}

pub if_below_back : (depth bound n : ℕ) → n < bound → n < 2 ^ 64 → ReadsBack (unsigned_if_below bound) depth (unsigned n) (Some n)
unfolding unsigned_if_below
if_below_back depth bound n low small = record {
  reads = λ key. rw ((number_back depth n small).reads key, lt-ltb n bound low) refl;
  fits = λ short. number_fits depth n small;
}

-- a signed number
pub signed_back : (depth : ℕ) (z : ℤ) → IsSigned z → ReadsBack signed_kind depth (signed z) z
unfolding signed_kind
signed_back depth (pos n) small = record {
  reads = λ key. rw (unsigned_is n, lt-ltb n (2 ^ 63) small) refl;
  fits = λ short. number_fits depth n (omega (arith, small));
}
signed_back depth (negsuc n) small = record {
  reads = λ key. rw (negative_is n, lt-ltb n (2 ^ 63) small) refl;
  fits = λ short. plain_fits depth (negative n) (λ Spelled. fits_negative n (omega (arith, small)) refl);
}

-- a string of bytes
bytes_fit : (depth : ℕ) (content : List ℕ) → IsShort (bytes content) → Fits depth (bytes content)
bytes_fit depth content short =
    let whole : length (spelling (bytes content)) ≡ length (head 2 (length content) ++ content) = ap length (spelling_bytes content) in
    let few : length content ≤ 134217728 = omega (arith, short, length-append (head 2 (length content)) content) in
    plain_fits depth (bytes content) (λ Spelled. fits_string false content few refl refl)

pub bytes_back : (depth : ℕ) (content : List ℕ) → ReadsBack byte_string depth (bytes content) content
unfolding byte_string
bytes_back depth content = record { reads = λ key. rw (bytes_is content) refl; fits = bytes_fit depth content }

pub short_bytes_back : (depth most : ℕ) (content : List ℕ) → length content ≤ most → ReadsBack (short_byte_string most) depth (bytes content) content
unfolding short_byte_string
short_bytes_back depth most content few = record {
  reads = λ key. rw ((bytes_back depth content).reads key, le-leb (length content) most few) refl;
  fits = bytes_fit depth content;
}

-- an item that fits has a byte at least
pub some_bytes : (depth : ℕ) (item : Item) → Fits depth item → 0 < length (spelling item)
some_bytes depth item fits =
    let b : Begins (spelling item) = item_begins depth item (spelling item) (item_written depth item fits) in
    let long : length (spelling item) ≡ length (b.0 ∷ b.1) = ap length b.2 in omega (arith, long)

-- what holds of each value
pub all_by : {A : Type 0} (P Q : A → Type 0) → ((x : A) → P x → Q x) → (xs : List A) → AllByRecursion P xs → AllByRecursion Q xs
all_by P Q turn [] all = tt
all_by P Q turn (x ∷ xs) all = (turn x all.0, all_by P Q turn xs all.1)

-- what holds of all values
pub all_of : {A : Type 0} (P : A → Type 0) → ((x : A) → P x) → (xs : List A) → AllByRecursion P xs
all_of P each_one [] = tt
all_of P each_one (x ∷ xs) = (each_one x, all_of P each_one xs)

module _ {A : Type 0} (read : Kind A) (depth : ℕ) (write : A → Item) where
  -- each value is read back from what is written of it
  abbrev pub EachReadsBack : List A → Type 0
  EachReadsBack xs = AllByRecursion (λ x. ReadsBack read depth (write x) x) xs

  each_back : (xs : List A) → EachReadsBack xs → (key : ℤ) → each read key (map write xs) ≡ Ok xs
  unfolding each
  each_back [] back key = refl
  each_back (x ∷ xs) back key = rw (back.0.reads key, each_back xs back.1 key) refl

  each_fits : (xs : List A) → EachReadsBack xs → length (spelling_all (map write xs)) ≤ 134217728 →
      AllByRecursion (Fits depth) (map write xs) × (length (map write xs) ≤ length (spelling_all (map write xs)))
  each_fits [] back short = (tt, omega arith)
  each_fits (x ∷ xs) back short =
      let parts = length-append (spelling (write x)) (spelling_all (map write xs)) in
      let one : Fits depth (write x) = back.0.fits (omega (arith, parts, short)) in
      let more = each_fits xs back.1 (omega (arith, parts, short)) in
      ((one, more.0), omega (arith, parts, some_bytes depth (write x) one, more.1))

  array_fits : (xs : List A) → EachReadsBack xs → IsShort (array (map write xs)) → Fits (suc depth) (array (map write xs))
  array_fits xs back short =
      let parts = length-append (head 4 (length (map write xs))) (spelling_all (map write xs)) in
      let whole = ap length (spelling_array (map write xs)) in
      let inside : length (spelling_all (map write xs)) ≤ 134217728 = omega (arith, parts, whole, short) in
      let all = each_fits xs back inside in
      inr (fits_array (map write xs) (omega (arith, all.1, inside)) all.0 refl)

  -- an array of values
  pub array_back : (xs : List A) → EachReadsBack xs → ReadsBack (array_of read) (suc depth) (array (map write xs)) xs
  unfolding array_of
  array_back xs back = record { reads = λ key. rw (array_is (map write xs)) (each_back xs back key); fits = array_fits xs back }

  -- an array of one value
  pub filled_array_back : (x : A) → ReadsBack read depth (write x) x →
      ReadsBack (filled_array_of read) (suc depth) (array (write x ∷ [])) (x ∷ [])
  unfolding filled_array_of
  filled_array_back x back = record {
    reads = λ key. rw (array_is (write x ∷ [])) (each_back (x ∷ []) (back, tt) key);
    fits = array_fits (x ∷ []) (back, tt);
  }

-- numbers below a bound
pub numbers_below_back : (depth bound : ℕ) (ns : List ℕ) → bound ≤ 2 ^ 64 → AllByRecursion (λ n. n < bound) ns →
    ReadsBack (array_of (unsigned_below bound)) (suc depth) (numbers ns) ns
numbers_below_back depth bound ns few all =
    array_back (unsigned_below bound) depth unsigned ns
    (all_by (λ n. n < bound) (λ n. ReadsBack (unsigned_below bound) depth (unsigned n) n)
    (λ n low. below_back depth bound n low (omega (arith, low, few))) ns all)

-- numbers of 64 bits
pub numbers_back : (depth : ℕ) (ns : List ℕ) → AllByRecursion (λ n. n < 2 ^ 64) ns →
    ReadsBack (array_of unsigned_kind) (suc depth) (numbers ns) ns
numbers_back depth ns all =
    array_back unsigned_kind depth unsigned ns
    (all_by (λ n. n < 2 ^ 64) (λ n. ReadsBack unsigned_kind depth (unsigned n) n) (λ n small. number_back depth n small) ns all)

-- a time
pub stamp_back : (depth : ℕ) (s : Stamp) → ReadableStamp s → ReadsBack stamp (suc depth) (stamp_item s) s
unfolding stamp
stamp_back depth s r =
    let back = numbers_back depth (s.seconds ∷ s.ticks ∷ []) (r.seconds, (r.ticks, tt)) in
    record { reads = λ key. rw (back.reads key) refl; fits = back.fits }
