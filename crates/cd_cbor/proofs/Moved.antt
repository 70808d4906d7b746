-- What is read at an offset is what is read at the front of the bytes from there on.
use Rattle.std.proofs.Common.{◌≡◌, ℕ, ◌+◌, ◌%◌, ◌≤◌, Bool, true, false, cond, List, length, take, drop, get_or, Result, Ok, Err, inl, inr, refl, ap, sym, ◌∙◌, arith}
use Rattle.std.specs.Prelude.{nat_lt, slice_index}
use Rattle.std.proofs.lemmas.Bool.{cases_lt, lt-ltb, le-ltb}
use Rattle.std.proofs.lemmas.List.{drop-drop, length-drop, get_or-drop}
use Rattle.cd_cbor.specs.Heads.{argument_size}
use Rattle.cd_cbor.specs.Spells.{most_string, is_content}
use Rattle.cd_cbor.specs.Readings.{◌>>=◌, refused, ends, piece, byte_at}
use Rattle.cd_cbor.specs.Reading.{argument_at, content_at, string_at, is_chunk, chunk_at}
use Rattle.cd_cbor.specs.declared.fault.Why.TheVariants as why
use Rattle.cd_cbor.specs.declared.fault.CborFault.{CborFault}
use Rattle.cd_cbor.specs.declared.fault.CborFault.TheVariants as fault

-- a fault so many bytes further
abbrev pub fault_moved : ℕ → CborFault → CborFault
fault_moved at (fault.Bad place reason) = fault.Bad (at + place) reason
fault_moved at fault.NoMemory = fault.NoMemory

-- what is read so many bytes further
abbrev pub moved_by : {A B : Type 0} → ℕ → (A → B) → Result A CborFault → Result B CborFault
moved_by at f (Ok x) = Ok (f x)
moved_by at f (Err e) = Err (fault_moved at e)

-- a value and the offset after it
abbrev pub further : {A : Type 0} → ℕ → A × ℕ → A × ℕ
further at x = (x.0, at + x.1)

-- one reading and then another
pub moved_bind : {A B C D : Type 0} (at : ℕ) (f : A → B) (g : C → D) (r : Result A CborFault) (read : A → Result C CborFault) (later : B → Result D CborFault) →
    ((x : A) → later (f x) ≡ moved_by at g (read x)) → (moved_by at f r >>= later) ≡ moved_by at g (r >>= read)
moved_bind at f g (Ok x) read later h = h x
moved_bind at f g (Err e) read later h = refl

pub moved_if : {A B : Type 0} (at : ℕ) (f : A → B) (b : Bool) (x y : Result A CborFault) → cond b (moved_by at f x) (moved_by at f y) ≡ moved_by at f (cond b x y)
moved_if at f true x y = refl
moved_if at f false x y = refl

-- so many bytes are there
room_moved : (at size : ℕ) (bytes : List ℕ) → at ≤ length bytes → nat_lt (length bytes) (at + size) ≡ nat_lt (length (drop at bytes)) size
room_moved at size bytes within =
    elim (cases_lt (length bytes) (at + size)) [
      | inl few ↦ lt-ltb (length bytes) (at + size) few ∙ sym (lt-ltb (length (drop at bytes)) size (omega (arith, length-drop at bytes)))
      | inr enough ↦ le-ltb (length bytes) (at + size) enough ∙ sym (le-ltb (length (drop at bytes)) size (omega (arith, length-drop at bytes)))
    ]

-- where the bytes end
ends_moved : {A B : Type 0} (at : ℕ) (f : A → B) (bytes : List ℕ) → at ≤ length bytes → ◌≡◌ {A = Result B CborFault} (ends bytes) (moved_by at f (ends {A = A} (drop at bytes)))
ends_moved {A} {B} at f bytes within =
    let sum : length bytes ≡ at + length (drop at bytes) = omega (arith, length-drop at bytes) in ap (λ n. refused {A = B} n why.End) sum

piece_moved : (at from size : ℕ) (bytes : List ℕ) → piece (at + from) size bytes ≡ piece from size (drop at bytes)
piece_moved at from size bytes = ap (take size) (sym (drop-drop from at bytes))

pub byte_moved : (at : ℕ) (bytes : List ℕ) → at ≤ length bytes → byte_at at bytes ≡ moved_by at (λ b. b) (byte_at 0 (drop at bytes))
unfolding byte_at
byte_moved at bytes within =
    let same : at + 0 ≡ at = omega arith in
    let value : slice_index bytes at ≡ slice_index (drop at bytes) 0 = sym (ap (λ n. get_or bytes n 0) same) ∙ sym (get_or-drop at bytes 0 0) in
    elim (cases_lt at (length bytes)) [
      | inl there ↦ rw (lt-ltb at (length bytes) there, lt-ltb 0 (length (drop at bytes)) (omega (arith, length-drop at bytes)), value) refl
      | inr past ↦ rw (le-ltb at (length bytes) past, le-ltb 0 (length (drop at bytes)) (omega (arith, length-drop at bytes))) (ends_moved at (λ (b : ℕ). b) bytes within)
    ]

pub argument_moved : (info at : ℕ) (bytes : List ℕ) → at ≤ length bytes → argument_at info at bytes ≡ moved_by at (further at) (argument_at info 0 (drop at bytes))
unfolding argument_at
argument_moved info at bytes within =
    let size : ℕ = argument_size info in
    let sum : at + 1 + size ≡ at + (0 + 1 + size) = omega arith in
    let one : at + 1 ≡ at + (0 + 1) = omega arith in
    rw (sum, room_moved at (0 + 1 + size) bytes within, one, piece_moved at (0 + 1) size bytes, ends_moved at (further {A = ℕ} at) bytes within)
    (moved_if at (further at) (nat_lt (length (drop at bytes)) (0 + 1 + size)) _ _)

content_moved : (is_text : Bool) (at head size from : ℕ) (bytes : List ℕ) → at ≤ length bytes →
    content_at is_text (at + head) size (at + from) bytes ≡ moved_by at (further at) (content_at is_text head size from (drop at bytes))
unfolding content_at
content_moved is_text at head size from bytes within =
    let sum : at + from + size ≡ at + (from + size) = omega arith in
    rw (sum, room_moved at (from + size) bytes within, piece_moved at from size bytes, ends_moved at (further {A = List ℕ} at) bytes within)
    (ap (λ r. cond (nat_lt (length (drop at bytes)) (from + size)) (moved_by at (further at) (ends (drop at bytes))) r) (moved_if at (further at) (is_content is_text (piece from size (drop at bytes))) _ _)
    ∙ moved_if at (further at) (nat_lt (length (drop at bytes)) (from + size)) _ _)

pub string_moved : (is_text : Bool) (before info at : ℕ) (bytes : List ℕ) → at ≤ length bytes →
    string_at is_text before info at bytes ≡ moved_by at (further at) (string_at is_text before info 0 (drop at bytes))
unfolding string_at
string_moved is_text before info at bytes within =
    let same : at ≡ at + 0 = omega arith in
    rw (argument_moved info at bytes within)
    (moved_bind at (further at) (further at) (argument_at info 0 (drop at bytes)) _ _
    (λ size. ap (λ r. cond (nat_lt most_string (before + size.0)) (refused at why.Length) r)
    (ap (λ n. content_at is_text n size.0 (at + size.1) bytes) same ∙ content_moved is_text at 0 size.0 size.1 bytes within)
    ∙ ap (λ n. cond (nat_lt most_string (before + size.0)) (refused n why.Length) (moved_by at (further at) (content_at is_text 0 size.0 size.1 (drop at bytes)))) same
    ∙ moved_if at (further at) (nat_lt most_string (before + size.0)) _ _))

-- a chunk, and the place after it
abbrev pub chunk_further : ℕ → List ℕ × (ℕ × ℕ) → List ℕ × (ℕ × ℕ)
chunk_further at x = (x.0, (x.1.0, at + x.1.1))

pub chunk_moved : (is_text : Bool) (before at : ℕ) (bytes : List ℕ) → at ≤ length bytes →
    chunk_at is_text bytes (before, at) ≡ moved_by at (chunk_further at) (chunk_at is_text (drop at bytes) (before, 0))
unfolding chunk_at
chunk_moved is_text before at bytes within =
    let same : at ≡ at + 0 = omega arith in
    rw (byte_moved at bytes within)
    (moved_bind at (λ (b : ℕ). b) (chunk_further at) (byte_at 0 (drop at bytes)) _ _
    (λ first.
    ap (λ r. cond (is_chunk is_text first) (r >>= (λ chunk. Ok (chunk.0, (before + length chunk.0, chunk.1)))) (refused at why.Head)) (string_moved is_text before (first % 32) at bytes within)
    ∙ ap (λ r. cond (is_chunk is_text first) r (refused at why.Head)) (moved_bind at (further at) (chunk_further at) (string_at is_text before (first % 32) 0 (drop at bytes)) _ _ (λ chunk. refl))
    ∙ ap (λ n. cond (is_chunk is_text first) (moved_by at (chunk_further at) (string_at is_text before (first % 32) 0 (drop at bytes) >>= (λ chunk. Ok (chunk.0, (before + length chunk.0, chunk.1))))) (refused n why.Head)) same
    ∙ moved_if at (chunk_further at) (is_chunk is_text first) _ _))
