-- An item that is read ends past its first byte and within the bytes, whatever numbers they are.
use Rattle.std.proofs.Common.{◌≡◌, ℕ, zero, suc, ◌+◌, ◌-◌, ◌/◌, ◌%◌, ◌<◌, ◌≤◌, Bool, true, false, cond, List, [], ◌∷◌, length, Result, Ok, Err, inl, inr, refl, ap, arith}
use Rattle.std.specs.Prelude.{nat_lt, nat_eq, ◌&&◌}
use Rattle.std.proofs.lemmas.Bool.{cases_lt, le-ltb}
use Rattle.cd_cbor.specs.Heads.{major_type}
use Rattle.std.specs.List.{concat}
use Rattle.cd_cbor.specs.Items.{unsigned, negative, array, entries}
use Rattle.cd_cbor.specs.Spells.{other, string_item}
use Rattle.cd_cbor.specs.Readings.{Reading, ◌>>=◌, refused, piece, byte_at, times, until_break}
use Rattle.cd_cbor.specs.Reading.{ItemReader, joined, argument_at, string_at, chunk_at, chunks_at, definite_string_at, chunked_string_at, simple_at, entry_at, array_at, map_at, tagged_at, open_array_at, open_map_at, definite_at, indefinite_at, item_by, item_at}
use Rattle.cd_cbor.specs.declared.fault.Why.{Why}
use Rattle.cd_cbor.specs.declared.fault.Why.TheVariants as why
use Rattle.cd_cbor.specs.declared.fault.CborFault.{CborFault}
use Rattle.cd_cbor.specs.declared.major_type.MajorType.{MajorType}
use Rattle.cd_cbor.specs.declared.major_type.MajorType.TheVariants as major
use Rattle.cd_cbor.proofs.Binds.{ok_same, not_ok}
use Rattle.cd_cbor.proofs.Growing.{argument_within}
use Rattle.cd_cbor.proofs.FollowItems.{string_within, chunk_is}

-- what is read ends at this offset or past it, and within the bytes
abbrev pub Lies : {A : Type 0} → List ℕ → ℕ → Reading A → Type 0
Lies {A} bytes low r = (x : A × ℕ) → r ≡ Ok x → (low ≤ x.1) × (x.1 ≤ length bytes)

pub lies_ok : {A : Type 0} (bytes : List ℕ) (low : ℕ) (y : A) (next : ℕ) → low ≤ next → next ≤ length bytes → Lies bytes low (Ok (y, next))
lies_ok {A} bytes low y next ahead inside x h =
    let end : next ≡ x.1 = ap (λ (t : A × ℕ). t.1) (ok_same (y, next) x h) in (omega arith, omega arith)

pub lies_err : {A : Type 0} (bytes : List ℕ) (low : ℕ) (e : CborFault) → Lies {A = A} bytes low (Err e)
lies_err {A} bytes low e x h = absurd (not_ok e x h)

pub lies_if : {A : Type 0} (bytes : List ℕ) (low : ℕ) (b : Bool) (r t : Reading A) → Lies bytes low r → Lies bytes low t → Lies bytes low (cond b r t)
lies_if bytes low true r t first second = first
lies_if bytes low false r t first second = second

pub lies_bind : {A : Type 0} {B : Type 0} (bytes : List ℕ) (low : ℕ) (r : Result A CborFault) (f : A → Reading B) → ((x : A) → r ≡ Ok x → Lies bytes low (f x)) → Lies bytes low (r >>= f)
lies_bind bytes low (Ok x) f each = each x refl
lies_bind {A} {B} bytes low (Err e) f each = lies_err {A = B} bytes low e

-- another value that ends where this does
lies_with : {A : Type 0} {B : Type 0} (bytes : List ℕ) (low : ℕ) (r : Reading A) (f : A × ℕ → B) → Lies bytes low r → Lies bytes low (r >>= (λ x. Ok (f x, x.1)))
lies_with bytes low r f first = lies_bind bytes low r _ (λ x e. let w = first x e in lies_ok bytes low (f x) x.1 w.0 w.1)

-- a byte that is there
pub byte_within : (bytes : List ℕ) (at byte : ℕ) → byte_at at bytes ≡ Ok byte → at < length bytes
unfolding byte_at
byte_within bytes at byte h =
    elim (cases_lt at (length bytes)) [
      | inl within ↦ within
      | inr past ↦ let k = rw (le-ltb at (length bytes) past) at h in absurd (not_ok _ byte k)
    ]

-- so many readings
times_within : {A : Type 0} (bytes : List ℕ) (read : ℕ → Reading A) → ((at : ℕ) → Lies bytes (at + 1) (read at)) → (count low at : ℕ) → low ≤ at → at ≤ length bytes →
    Lies bytes low (times count read at)
unfolding times
times_within {A} bytes read each zero low at ahead inside = lies_ok bytes low [] at ahead inside
times_within {A} bytes read each (suc count) low at ahead inside =
    lies_bind bytes low (read at) _
    (λ first e. let one = each at first e in lies_with bytes low (times count read first.1) (λ others. first.0 ∷ others.0) (times_within bytes read each count low first.1 (omega (arith, one.0)) one.1))

-- readings up to a break
until_within : {A P : Type 0} (offset : P → ℕ) (bytes : List ℕ) (read : P → Result (A × P) CborFault) → ((place : P) (x : A × P) → read place ≡ Ok x → offset place ≤ offset x.1) →
    (left low : ℕ) (place : P) → low ≤ offset place + 1 → Lies bytes low (until_break offset bytes left read place)
unfolding until_break
until_within {A} {P} offset bytes read each zero low place ahead = lies_err bytes low _
until_within {A} {P} offset bytes read each (suc left) low place ahead =
    lies_bind bytes low (byte_at (offset place) bytes) _
    (λ first e. let inside = byte_within bytes (offset place) first e in
    lies_if bytes low (nat_eq first 255) _ _ (lies_ok bytes low [] (offset place + 1) ahead (omega arith))
    (lies_bind bytes low (read place) _
    (λ value f. let on = each place value f in
    lies_with bytes low (until_break offset bytes left read value.1) (λ others. value.0 ∷ others.0) (until_within offset bytes read each left low value.1 (omega arith)))))

pub argument_lies : (bytes : List ℕ) (info at : ℕ) → Lies bytes (at + 1) (argument_at info at bytes)
argument_lies bytes info at x h = let w = argument_within bytes info at x.0 x.1 h in (omega (arith, w.0), w.1)

string_lies : (bytes : List ℕ) (is_text : Bool) (info at : ℕ) → Lies bytes (at + 1) (definite_string_at is_text info at bytes)
unfolding definite_string_at
string_lies bytes is_text info at =
    lies_with bytes (at + 1) (string_at is_text 0 info at bytes) (λ content. string_item is_text content.0)
    (λ x h. let w = string_within bytes is_text 0 info at x.0 x.1 h in (omega (arith, w.0), w.1))

chunks_lie : (bytes : List ℕ) (is_text : Bool) (at : ℕ) → Lies bytes (at + 1) (chunked_string_at is_text at bytes)
unfolding chunked_string_at chunks_at
chunks_lie bytes is_text at =
    let chunks = until_break (λ (p : ℕ × ℕ). p.1) bytes (length bytes) (chunk_at is_text bytes) (0, at + 1) in
    lies_with bytes (at + 1) (chunks >>= joined) (λ content. string_item is_text content.0)
    (lies_with bytes (at + 1) chunks (λ parts. concat parts.0)
    (until_within (λ (p : ℕ × ℕ). p.1) bytes (chunk_at is_text bytes)
    (λ place x h. let k = chunk_is bytes is_text place.0 place.1 x.0 x.1 h in omega (arith, k.ahead)) (length bytes) (at + 1) (0, at + 1) (omega arith)))

simple_lies : (bytes : List ℕ) (info at : ℕ) → Lies bytes (at + 1) (simple_at info at bytes)
unfolding simple_at
simple_lies bytes info at =
    lies_bind bytes (at + 1) (argument_at info at bytes) _
    (λ value e. let w = argument_lies bytes info at value e in
    lies_if bytes (at + 1) (nat_eq info 24 && nat_lt value.0 32) _ _ (lies_err bytes (at + 1) _) (lies_ok bytes (at + 1) _ value.1 w.0 w.1))

module _ (depth : ℕ) (bytes : List ℕ) (inner : ItemReader) (each : (reason : Why) (at : ℕ) → Lies bytes (at + 1) (inner reason at)) where
  entry_lies : (broken : Why) (at : ℕ) → Lies bytes (at + 1) (entry_at inner broken at)
  unfolding entry_at
  entry_lies broken at =
      lies_bind bytes (at + 1) (inner why.Break at) _
      (λ key e. let one = each why.Break at key e in
      lies_with bytes (at + 1) (inner broken key.1) (λ value. (key.0, value.0))
      (λ x h. let two = each broken key.1 x h in (omega (arith, one.0, two.0), two.1)))

  array_lies : (info at : ℕ) → Lies bytes (at + 1) (array_at depth inner info at bytes)
  unfolding array_at
  array_lies info at =
      lies_if bytes (at + 1) (nat_eq depth 0) _ _ (lies_err bytes (at + 1) _)
      (lies_bind bytes (at + 1) (argument_at info at bytes) _
      (λ count e. let w = argument_lies bytes info at count e in
      lies_with bytes (at + 1) (times count.0 (inner why.Break) count.1) (λ items. array items.0) (times_within bytes (inner why.Break) (each why.Break) count.0 (at + 1) count.1 w.0 w.1)))

  map_lies : (info at : ℕ) → Lies bytes (at + 1) (map_at depth inner info at bytes)
  unfolding map_at
  map_lies info at =
      lies_if bytes (at + 1) (nat_eq depth 0) _ _ (lies_err bytes (at + 1) _)
      (lies_bind bytes (at + 1) (argument_at info at bytes) _
      (λ count e. let w = argument_lies bytes info at count e in
      lies_with bytes (at + 1) (times count.0 (entry_at inner why.Break) count.1) (λ pairs. entries pairs.0)
      (times_within bytes (entry_at inner why.Break) (entry_lies why.Break) count.0 (at + 1) count.1 w.0 w.1)))

  tagged_lies : (info at : ℕ) → Lies bytes (at + 1) (tagged_at depth inner info at bytes)
  unfolding tagged_at
  tagged_lies info at =
      lies_if bytes (at + 1) (nat_eq depth 0) _ _ (lies_err bytes (at + 1) _)
      (lies_bind bytes (at + 1) (argument_at info at bytes) _
      (λ tag e. let w = argument_lies bytes info at tag e in
      lies_with bytes (at + 1) (inner why.Break tag.1) (λ content. other (piece at (content.1 - at) bytes))
      (λ x h. let two = each why.Break tag.1 x h in (omega (arith, w.0, two.0), two.1))))

  open_array_lies : (at : ℕ) → Lies bytes (at + 1) (open_array_at depth inner at bytes)
  unfolding open_array_at
  open_array_lies at =
      lies_if bytes (at + 1) (nat_eq depth 0) _ _ (lies_err bytes (at + 1) _)
      (lies_with bytes (at + 1) (until_break (λ (p : ℕ). p) bytes (length bytes) (inner why.Break) (at + 1)) (λ items. array items.0)
      (until_within (λ (p : ℕ). p) bytes (inner why.Break) (λ place x h. let w = each why.Break place x h in omega (arith, w.0)) (length bytes) (at + 1) (at + 1) (omega arith)))

  open_map_lies : (at : ℕ) → Lies bytes (at + 1) (open_map_at depth inner at bytes)
  unfolding open_map_at
  open_map_lies at =
      lies_if bytes (at + 1) (nat_eq depth 0) _ _ (lies_err bytes (at + 1) _)
      (lies_with bytes (at + 1) (until_break (λ (p : ℕ). p) bytes (length bytes) (entry_at inner why.Odd) (at + 1)) (λ pairs. entries pairs.0)
      (until_within (λ (p : ℕ). p) bytes (entry_at inner why.Odd) (λ place x h. let w = entry_lies why.Odd place x h in omega (arith, w.0)) (length bytes) (at + 1) (at + 1) (omega arith)))

  definite_lies : (kind : MajorType) (info at : ℕ) → Lies bytes (at + 1) (definite_at depth inner kind info at bytes)
  unfolding definite_at
  definite_lies major.Unsigned info at = lies_with bytes (at + 1) (argument_at info at bytes) (λ n. unsigned n.0) (argument_lies bytes info at)
  definite_lies major.Negative info at = lies_with bytes (at + 1) (argument_at info at bytes) (λ n. negative n.0) (argument_lies bytes info at)
  definite_lies major.Bytes info at = string_lies bytes false info at
  definite_lies major.Text info at = string_lies bytes true info at
  definite_lies major.Array info at = array_lies info at
  definite_lies major.Map info at = map_lies info at
  definite_lies major.Tag info at = tagged_lies info at
  definite_lies major.Simple info at = simple_lies bytes info at

  indefinite_lies : (broken : Why) (kind : MajorType) (at : ℕ) → Lies bytes (at + 1) (indefinite_at depth inner broken kind at bytes)
  unfolding indefinite_at
  indefinite_lies broken major.Unsigned at = lies_err bytes (at + 1) _
  indefinite_lies broken major.Negative at = lies_err bytes (at + 1) _
  indefinite_lies broken major.Bytes at = chunks_lie bytes false at
  indefinite_lies broken major.Text at = chunks_lie bytes true at
  indefinite_lies broken major.Array at = open_array_lies at
  indefinite_lies broken major.Map at = open_map_lies at
  indefinite_lies broken major.Tag at = lies_err bytes (at + 1) _
  indefinite_lies broken major.Simple at = lies_err bytes (at + 1) _

  by_lies : (broken : Why) (at : ℕ) → Lies bytes (at + 1) (item_by depth inner broken at bytes)
  unfolding item_by
  by_lies broken at =
      lies_bind bytes (at + 1) (byte_at at bytes) _
      (λ first e. lies_if bytes (at + 1) (nat_lt (first % 32) 28) _ _ (definite_lies (major_type (first / 32)) (first % 32) at)
      (lies_if bytes (at + 1) (nat_lt (first % 32) 31) _ _ (lies_err bytes (at + 1) _) (indefinite_lies broken (major_type (first / 32)) at)))

-- an item that is read ends past its first byte, and within the bytes
pub item_lies : (depth : ℕ) (bytes : List ℕ) (broken : Why) (at : ℕ) → Lies bytes (at + 1) (item_at depth bytes broken at)
unfolding item_at
item_lies zero bytes broken at = by_lies 0 bytes (λ reason inside. refused inside why.Depth) (λ reason inside. lies_err bytes (inside + 1) _) broken at
item_lies (suc depth) bytes broken at = by_lies (suc depth) bytes (item_at depth bytes) (item_lies depth bytes) broken at
