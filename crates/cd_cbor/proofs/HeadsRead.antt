-- A head that is spelled is read.
use Rattle.std.proofs.Common.{◌≡◌, ℕ, ◌+◌, ◌*◌, ◌/◌, ◌%◌, ◌<◌, List, [], ◌∷◌, ◌++◌, length, take, drop, Ok, refl, ap, sym, ◌∙◌, arith}
use Rattle.std.proofs.lemmas.Bool.{lt-ltb, le-ltb}
use Rattle.cd_cbor.specs.MajorTypes.{major_number}
use Rattle.cd_cbor.specs.Heads.{IsHead, major_type, argument_size}
use Rattle.cd_cbor.specs.Spells.{indefinite}
use Rattle.cd_cbor.specs.Readings.{byte_at, piece}
use Rattle.cd_cbor.specs.Reading.{ItemReader, argument_at, definite_at, indefinite_at, item_by}
use Rattle.cd_cbor.proofs.Offsets.{drop_on, lies_within, piece_is, first_is}
use Rattle.cd_cbor.specs.declared.fault.Why.{Why}
use Rattle.cd_cbor.specs.declared.major_type.MajorType.{MajorType}
use Rattle.cd_cbor.specs.declared.major_type.MajorType.TheVariants as major

-- a major type is the one of its number
pub type_of_number : (kind : MajorType) → major_type (major_number kind) ≡ kind
unfolding major_type
type_of_number major.Unsigned = refl
type_of_number major.Negative = refl
type_of_number major.Bytes = refl
type_of_number major.Text = refl
type_of_number major.Array = refl
type_of_number major.Map = refl
type_of_number major.Tag = refl
type_of_number major.Simple = refl

-- its number is below 8
pub number_small : (kind : MajorType) → major_number kind < 8
number_small major.Unsigned = omega arith
number_small major.Negative = omega arith
number_small major.Bytes = omega arith
number_small major.Text = omega arith
number_small major.Array = omega arith
number_small major.Map = omega arith
number_small major.Tag = omega arith
number_small major.Simple = omega arith

-- what is read of a head that stands at an offset
pub record HeadIs (kind : MajorType) (n at : ℕ) (bytes head : List ℕ) (info : ℕ) : Type 0 where
  pub first : byte_at at bytes ≡ Ok (32 * major_number kind + info)
  pub argument : argument_at info at bytes ≡ Ok (n, at + length head)
  pub long : length head ≡ 1 + argument_size info

pub head_reads : (kind : MajorType) (n at : ℕ) (bytes head rest : List ℕ) → drop at bytes ≡ head ++ rest → (h : IsHead kind n head) → HeadIs kind n at bytes head h.info
unfolding argument_at
head_reads kind n at bytes head rest e h =
    let b : ℕ = 32 * major_number kind + h.info in
    let whole : drop at bytes ≡ b ∷ (h.after ++ rest) = e ∙ ap (λ t. t ++ rest) h.whole in
    let long : length head ≡ 1 + argument_size h.info = let l : length head ≡ length (b ∷ h.after) = ap length h.whole in omega (arith, h.long) in
    let within : at + length head + length rest ≡ length bytes = lies_within at bytes head rest e (omega arith) in
    let one : drop (at + 1) bytes ≡ h.after ++ rest = drop_on at bytes (b ∷ []) (h.after ++ rest) whole in
    let after : piece (at + 1) (argument_size h.info) bytes ≡ h.after =
    ap (λ k. take k (drop (at + 1) bytes)) (sym h.long) ∙ piece_is (at + 1) bytes h.after rest one in
    let place : at + 1 + argument_size h.info ≡ at + length head = omega arith in
    record {
      first = first_is at bytes b (h.after ++ rest) whole;
      argument = rw (le-ltb (length bytes) (at + 1 + argument_size h.info) (omega arith), after, h.value, place) refl;
      long = long;
    }

-- an item with such a head
pub item_of_head : (depth : ℕ) (inner : ItemReader) (broken : Why) (kind : MajorType) (at info : ℕ) (bytes : List ℕ) → info < 28 →
    byte_at at bytes ≡ Ok (32 * major_number kind + info) → item_by depth inner broken at bytes ≡ definite_at depth inner kind info at bytes
unfolding item_by
item_of_head depth inner broken kind at info bytes low first =
    let type : (32 * major_number kind + info) / 32 ≡ major_number kind = omega arith in
    let same : (32 * major_number kind + info) % 32 ≡ info = omega arith in
    rw (first, same, lt-ltb info 28 low, type, type_of_number kind) refl

-- an item with a head of one byte that tells no length
pub item_of_indefinite : (depth : ℕ) (inner : ItemReader) (broken : Why) (kind : MajorType) (at : ℕ) (bytes rest : List ℕ) → drop at bytes ≡ indefinite kind ∷ rest →
    item_by depth inner broken at bytes ≡ indefinite_at depth inner broken kind at bytes
unfolding item_by
item_of_indefinite depth inner broken kind at bytes rest e =
    let type : (32 * major_number kind + 31) / 32 ≡ major_number kind = omega arith in
    let same : (32 * major_number kind + 31) % 32 ≡ 31 = omega arith in
    rw (first_is at bytes (indefinite kind) rest e, same, type, type_of_number kind) refl

-- some bytes begin, and not with a break
abbrev pub Begins : List ℕ → Type 0
Begins s = (first : ℕ) × (after : List ℕ) × (s ≡ first ∷ after) × (first ≡ 255 → ⊥)

pub begins_append : (s t : List ℕ) → Begins s → Begins (s ++ t)
begins_append s t b = (b.0, b.1 ++ t, ap (λ x. x ++ t) b.2, b.3)

pub head_begins : (kind : MajorType) (n : ℕ) (head : List ℕ) → IsHead kind n head → Begins head
head_begins kind n head h = (32 * major_number kind + h.info, h.after, h.whole, λ e. omega (arith, number_small kind, h.definite))
