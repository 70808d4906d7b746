-- A string of bytes that stands at an offset is read by its head.
use Rattle.std.proofs.Common.{◌≡◌, ℕ, ◌+◌, ◌<◌, ◌≤◌, List, length, Option, Some, None, Result, Ok, Err, refl, ap, subst, arith, length-take, length-drop}
use Rattle.std.specs.Prelude.{ℤ, true, false}
use Rattle.std.proofs.lemmas.Bool.{lt-leb, le-leb, ltb-true}
use Rattle.cd_cbor.specs.Readings.{piece}
use Rattle.cd_cbor.specs.declared.item.Item.{Item}
use Rattle.cd_cbor.specs.declared.item.Item.TheViews.{out-Item}
use Rattle.cd_cbor.specs.declared.item.Item.TheOpen.{Item-F}
use Rattle.cd_cbor.specs.declared.major_type.MajorType.{MajorType}
use Rattle.cd_cbor.specs.declared.major_type.MajorType.TheVariants as major
use Rattle.cd_file.specs.declared.refusal.FileWhy.TheVariants.{Shape}
use Rattle.cd_file.specs.declared.reading.fault.ItemFault.{ItemFault}
use Rattle.cd_file.specs.declared.reading.fault.ItemFault.TheVariants as fault
use Rattle.cd_file.specs.Refusing.{◌>>=◌}
use Rattle.cd_file.specs.Kinds.{or_shape, bytes_in, at_most, byte_string, short_byte_string}
use Rattle.cd_file.specs.ItemReading.{HeadOf, Reads}
use Rattle.cd_file.specs.StringReading.{StringOf, is_longer}

not_true : ◌≡◌ false true → ⊥
not_true h = cc

-- so many bytes, where they are there, are so many
piece_length : (at size : ℕ) (bytes : List ℕ) → at + size ≤ length bytes → length (piece at size bytes) ≡ size
piece_length at size bytes within = simp (length-take, length-drop) (omega arith)

module _ (key : ℤ) (item : Item) (end : ℕ) where
  -- an item of another kind
  no_string : (result : Result (List ℕ × ℕ) ItemFault) → bytes_in (out-Item item) ≡ None → result ≡ Err (fault.Refused (Shape key)) →
      Reads (λ (c : List ℕ). c) result (byte_string key item) end
  unfolding byte_string
  no_string result seen is = rw is (ap (or_shape key) seen)

  -- a string of this content
  one_string : (result : Result (List ℕ × ℕ) ItemFault) (content : List ℕ) (to : ℕ) → out-Item item ≡ Item-F.Bytes content → to ≡ end → Reads (λ (c : List ℕ). c) result (Ok content) to →
      Reads (λ (c : List ℕ). c) result (byte_string key item) end
  unfolding byte_string
  one_string result content to seen same reads =
      let k : or_shape key (bytes_in (out-Item item)) ≡ Ok content = ap (λ t. or_shape key (bytes_in t)) seen in
      rw k (subst (λ e. Reads (λ (c : List ℕ). c) result (Ok content) e) same reads)

  module _ (next depth : ℕ) (bytes : List ℕ) where
    pub string_seen : (result : Result (List ℕ × ℕ) ItemFault) (kind : MajorType) (argument : Option ℕ) → HeadOf kind argument next depth bytes item end → StringOf kind argument next bytes key result →
        Reads (λ (c : List ℕ). c) result (byte_string key item) end
    string_seen result major.Unsigned None h s = absurd h
    string_seen result major.Unsigned (Some n) h s = no_string result (ap bytes_in h.0) s
    string_seen result major.Negative None h s = absurd h
    string_seen result major.Negative (Some n) h s = no_string result (ap bytes_in h.0) s
    string_seen result major.Bytes None h s = one_string result h.0 end h.1 refl (s h.0 end h.2)
    string_seen result major.Bytes (Some n) h s = one_string result (piece next n bytes) (next + n) h.0 h.2 (s h.1)
    string_seen result major.Text None h s = no_string result (ap bytes_in h.1) s
    string_seen result major.Text (Some n) h s = no_string result (ap bytes_in h.1) s
    string_seen result major.Array None h s = no_string result (ap bytes_in h.1) s
    string_seen result major.Array (Some n) h s = no_string result (ap bytes_in h.1) s
    string_seen result major.Map None h s = no_string result (ap bytes_in h.1) s
    string_seen result major.Map (Some n) h s = no_string result (ap bytes_in h.1) s
    string_seen result major.Tag None h s = no_string result (ap bytes_in h.1) s
    string_seen result major.Tag (Some n) h s = no_string result (ap bytes_in h.1) s
    string_seen result major.Simple None h s = no_string result (ap bytes_in h.1) s
    string_seen result major.Simple (Some n) h s = no_string result (ap bytes_in h.1) s

  module _ (most : ℕ) where
    -- a short string is one that is read and is at most so long
    pub short_fault : (f : ItemFault) → Reads (λ (c : List ℕ). c) (Err f) (byte_string key item) end → Reads (λ (c : List ℕ). c) (Err f) (short_byte_string most key item) end
    unfolding short_byte_string
    short_fault fault.NoMemory reads = tt
    short_fault (fault.Refused reason) reads = ap (λ t. t >>= (λ content. or_shape key (at_most most content))) reads

    long_is : (content : List ℕ) → byte_string key item ≡ Ok content → most < length content → short_byte_string most key item ≡ Err (Shape key)
    unfolding short_byte_string
    long_is content is long = rw is (rw (lt-leb (length content) most long) refl)

    pub short_long : (content : List ℕ) (next : ℕ) → Reads (λ (c : List ℕ). c) (Ok (content, next)) (byte_string key item) end → most < length content →
        Reads (λ (c : List ℕ). c) (Err (fault.Refused (Shape key))) (short_byte_string most key item) end
    short_long content next reads long = long_is content reads.0 long

    pub short_fits : (content : List ℕ) (next : ℕ) → Reads (λ (c : List ℕ). c) (Ok (content, next)) (byte_string key item) end → length content ≤ most →
        Reads (λ (c : List ℕ). c) (Ok (content, next)) (short_byte_string most key item) end
    unfolding short_byte_string
    short_fits content next reads fits = (rw reads.0 (rw (le-leb (length content) most fits) refl), reads.1)

    none_is : bytes_in (out-Item item) ≡ None → short_byte_string most key item ≡ Err (Shape key)
    unfolding short_byte_string byte_string
    none_is seen = rw seen refl

    some_is : (content : List ℕ) → out-Item item ≡ Item-F.Bytes content → most < length content → short_byte_string most key item ≡ Err (Shape key)
    unfolding byte_string
    some_is content seen long = long_is content (ap (λ t. or_shape key (bytes_in t)) seen) long

    -- an item whose head has an argument that is too large is no short string
    pub long_refused : (next depth : ℕ) (bytes : List ℕ) (kind : MajorType) (n : ℕ) → most < n → HeadOf kind (Some n) next depth bytes item end → short_byte_string most key item ≡ Err (Shape key)
    long_refused next depth bytes major.Unsigned n long h = none_is (ap bytes_in h.0)
    long_refused next depth bytes major.Negative n long h = none_is (ap bytes_in h.0)
    long_refused next depth bytes major.Bytes n long h = some_is (piece next n bytes) h.0 (rw (piece_length next n bytes h.1) long)
    long_refused next depth bytes major.Text n long h = none_is (ap bytes_in h.1)
    long_refused next depth bytes major.Array n long h = none_is (ap bytes_in h.1)
    long_refused next depth bytes major.Map n long h = none_is (ap bytes_in h.1)
    long_refused next depth bytes major.Tag n long h = none_is (ap bytes_in h.1)
    long_refused next depth bytes major.Simple n long h = none_is (ap bytes_in h.1)

    pub long_head : (next depth : ℕ) (bytes : List ℕ) (kind : MajorType) (argument : Option ℕ) → is_longer argument most ≡ true → HeadOf kind argument next depth bytes item end →
        short_byte_string most key item ≡ Err (Shape key)
    long_head next depth bytes kind None long h = absurd (not_true long)
    long_head next depth bytes kind (Some n) long h = long_refused next depth bytes kind n (ltb-true most n long) h
