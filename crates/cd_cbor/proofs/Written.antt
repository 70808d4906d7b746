-- What is written of an item that fits is a spelling of it.
use Rattle.std.proofs.Common.{◌≡◌, ℕ, zero, suc, ◌^◌, ◌<◌, ◌≤◌, Bool, true, false, List, [], ◌∷◌, ◌++◌, length, inl, inr, refl, ap, sym, subst, ◌∙◌, arith, append_assoc}
use Rattle.std.specs.List.{AllByRecursion}
use Rattle.std.specs.Int.{to_be_bytes, w16, w32, w64}
use Rattle.std.proofs.lemmas.Bool.{cases_lt, le-ltb, lt-ltb}
use Rattle.std.proofs.lemmas.Nat.{from_be_bytes-to_be_bytes_2, from_be_bytes-to_be_bytes_4, from_be_bytes-to_be_bytes_8}
use Rattle.cd_cbor.specs.MajorTypes.{major_number}
use Rattle.cd_cbor.specs.Heads.{IsHead, argument_size, argument_of}
use Rattle.cd_cbor.specs.Items.{unsigned, negative, array, entries}
use Rattle.cd_cbor.specs.Spelling.{head, spelling, spelling_step, spelling_all, spelling_pairs}
use Rattle.cd_cbor.specs.Spells.{other, Each, SpellsPair, SpellsString, SpellsPlain, is_unsigned, is_negative, is_string, SpellsHolder, is_array, is_map, Spells, string_type, string_item, is_content}
use Rattle.cd_cbor.specs.Fitting.{FitsPlain, fits_unsigned, fits_negative, fits_string, fits_other, FitsPair, FitsHolder, fits_array, fits_map, Fits}
use Rattle.cd_cbor.specs.declared.item.Item.{Item}
use Rattle.cd_cbor.specs.declared.item.Item.TheOpen.{Item-F}
use Rattle.cd_cbor.specs.declared.item.Item.TheFolds.{fold-roll-Item}
use Rattle.cd_cbor.specs.declared.item.Item.TheVariants.{rolls-Other}
use Rattle.cd_cbor.specs.declared.major_type.MajorType.{MajorType}
use Rattle.cd_cbor.specs.declared.major_type.MajorType.TheVariants as major
use Rattle.cd_cbor.proofs.Spelled.{spelling_unsigned, spelling_negative, spelling_bytes, spelling_text, spelling_array, spelling_entries}

-- the bytes that are kept are written as they are
spelling_other : (content : List ℕ) → spelling (other content) ≡ content
unfolding spelling other
spelling_other content =
    ap spelling (sym (rolls-Other content)) ∙ fold-roll-Item (List ℕ) spelling_step (Item-F.Other content)

few_after : (n : ℕ) → n < 24 → 0 ≡ argument_size n
unfolding argument_size
few_after n low = rw (lt-ltb n 24 low) refl

few_value : (n : ℕ) → n < 24 → argument_of n [] ≡ n
unfolding argument_of
few_value n low = rw (lt-ltb n 24 low) refl

-- the shortest head is a head
pub head_is_head : (kind : MajorType) (n : ℕ) → n < 2 ^ 64 → IsHead kind n (head (major_number kind) n)
unfolding head argument_size argument_of
head_is_head kind n most =
    elim (cases_lt n 24) [
      | inl a ↦ rw (lt-ltb n 24 a) (record { small = most; info = n; after = []; definite = omega arith; long = few_after n a; whole = refl; value = few_value n a })
      | inr a ↦ elim (cases_lt n 256) [
        | inl b ↦ rw (le-ltb n 24 a, lt-ltb n 256 b) (record { small = most; info = 24; after = n ∷ []; definite = omega arith; long = refl; whole = refl; value = refl })
        | inr b ↦ elim (cases_lt n 65536) [
          | inl d ↦ rw (le-ltb n 24 a, le-ltb n 256 b, lt-ltb n 65536 d)
              (record { small = most; info = 25; after = to_be_bytes w16 n; definite = omega arith; long = refl; whole = refl; value = from_be_bytes-to_be_bytes_2 n (omega arith) })
          | inr d ↦ elim (cases_lt n 4294967296) [
            | inl e ↦ rw (le-ltb n 24 a, le-ltb n 256 b, le-ltb n 65536 d, lt-ltb n 4294967296 e)
                (record { small = most; info = 26; after = to_be_bytes w32 n; definite = omega arith; long = refl; whole = refl; value = from_be_bytes-to_be_bytes_4 n (omega arith) })
            | inr e ↦ rw (le-ltb n 24 a, le-ltb n 256 b, le-ltb n 65536 d, le-ltb n 4294967296 e)
                (record { small = most; info = 27; after = to_be_bytes w64 n; definite = omega arith; long = refl; whole = refl; value = from_be_bytes-to_be_bytes_8 n most })
          ]
        ]
      ]
    ]

-- a string stands after the shortest head of its length
spelling_string : (is_text : Bool) (content : List ℕ) → spelling (string_item is_text content) ≡ head (major_number (string_type is_text)) (length content) ++ content
spelling_string true content = spelling_text content
spelling_string false content = spelling_bytes content

string_written : (is_text : Bool) (content : List ℕ) → length content ≤ 134217728 → is_content is_text content ≡ true → SpellsString is_text content (spelling (string_item is_text content))
string_written is_text content short right = record {
  head = head (major_number (string_type is_text)) (length content);
  is_head = head_is_head (string_type is_text) (length content) (omega arith);
  whole = spelling_string is_text content;
  short = short;
  right = right;
}

-- an item is spelled by what is written of another that is the same
as_written : (Q : Item → List ℕ → Type 0) (item same : Item) → item ≡ same → Q item (spelling same) → Q item (spelling item)
as_written Q item same is has = subst (λ x. Q item (spelling x)) (sym is) has

-- a plain item that fits is spelled by what is written of it, in each relation that holds of the plain spellings
plain_written : (Q : Item → List ℕ → Type 0) → ((item : Item) (s : List ℕ) → SpellsPlain item s → Q item s) → (item : Item) → FitsPlain Q item → Q item (spelling item)
plain_written Q plain item (fits_unsigned n small is) =
    as_written Q item (unsigned n) is
    (plain item (spelling (unsigned n)) (is_unsigned n (subst (IsHead major.Unsigned n) (sym (spelling_unsigned n)) (head_is_head major.Unsigned n small)) is))
plain_written Q plain item (fits_negative n small is) =
    as_written Q item (negative n) is
    (plain item (spelling (negative n)) (is_negative n (subst (IsHead major.Negative n) (sym (spelling_negative n)) (head_is_head major.Negative n small)) is))
plain_written Q plain item (fits_string is_text content short right is) =
    as_written Q item (string_item is_text content) is
    (plain item (spelling (string_item is_text content)) (is_string is_text content (string_written is_text content short right) is))
plain_written Q plain item (fits_other content has is) = as_written Q item (other content) is (subst (Q item) (sym (spelling_other content)) has)

-- what fits is spelled by what is written of it
abbrev pub IsWritten : (Item → Type 0) → (Item → List ℕ → Type 0) → Type 0
IsWritten Fit P = (item : Item) → Fit item → P item (spelling item)

each_written : (Fit : Item → Type 0) (P : Item → List ℕ → Type 0) → IsWritten Fit P → (items : List Item) → AllByRecursion Fit items → Each P items (spelling_all items)
each_written Fit P written [] has = refl
each_written Fit P written (item ∷ items) has = (spelling item, spelling_all items, refl, written item has.0, each_written Fit P written items has.1)

pairs_written : (Fit : Item → Type 0) (P : Item → List ℕ → Type 0) → IsWritten Fit P → (pairs : List (Item × Item)) → AllByRecursion (FitsPair Fit) pairs →
    Each (SpellsPair P) pairs (spelling_pairs pairs)
pairs_written Fit P written [] has = refl
pairs_written Fit P written (pair ∷ pairs) has = (
  spelling pair.0 ++ spelling pair.1,
  spelling_pairs pairs,
  sym (append_assoc (spelling pair.0) (spelling pair.1) (spelling_pairs pairs)),
  (spelling pair.0, spelling pair.1, refl, written pair.0 has.0.0, written pair.1 has.0.1),
  pairs_written Fit P written pairs has.1,
)

holder_written : (Fit : Item → Type 0) (P : Item → List ℕ → Type 0) → IsWritten Fit P → (item : Item) → FitsHolder Fit item → SpellsHolder P item (spelling item)
holder_written Fit P written item (fits_array items count has is) =
    as_written (SpellsHolder P) item (array items) is
    (is_array items (head 4 (length items)) (spelling_all items) (head_is_head major.Array (length items) count) (each_written Fit P written items has) (spelling_array items) is)
holder_written Fit P written item (fits_map pairs count has is) =
    as_written (SpellsHolder P) item (entries pairs) is
    (is_map pairs (head 5 (length pairs)) (spelling_pairs pairs) (head_is_head major.Map (length pairs) count) (pairs_written Fit P written pairs has) (spelling_entries pairs) is)

-- what is written of an item that fits
pub item_written : (depth : ℕ) → IsWritten (Fits depth) (Spells depth)
item_written zero item h = plain_written (Spells zero) (λ same s has. has) item h
item_written (suc depth) item (inl h) = plain_written (Spells (suc depth)) (λ same s has. inl has) item h
item_written (suc depth) item (inr h) = inr (holder_written (Fits depth) (Spells depth) (item_written depth) item h)
