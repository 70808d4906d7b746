-- A fault at the front, but for an end, stands at its head.
use Rattle.std.proofs.Common.{◌≡◌, ℕ, ◌+◌, ◌%◌, Bool, true, false, cond, List, length, Result, Ok, Err}
use Rattle.std.specs.Prelude.{nat_lt}
use Rattle.cd_cbor.specs.Heads.{argument_size}
use Rattle.cd_cbor.specs.Spells.{most_string, is_content}
use Rattle.cd_cbor.specs.Readings.{◌>>=◌, refused, ends, piece, byte_at}
use Rattle.cd_cbor.specs.Reading.{argument_at, content_at, string_at, is_chunk, chunk_at}
use Rattle.cd_cbor.specs.declared.fault.Why.{Why}
use Rattle.cd_cbor.specs.declared.fault.Why.TheVariants as why
use Rattle.cd_cbor.specs.declared.fault.CborFault.{CborFault}
use Rattle.cd_cbor.specs.declared.fault.CborFault.TheVariants as fault
use Rattle.cd_cbor.proofs.Growing.{fault_same}

-- the faults of a reading, but for an end, stand at this offset
abbrev pub IsPlaced : {A : Type 0} → ℕ → Result A CborFault → Type 0
IsPlaced {A} at r = (place : ℕ) (reason : Why) → r ≡ refused place reason → (reason ≡ why.End → ⊥) → place ≡ at

pub placed_ok : {A : Type 0} (at : ℕ) (x : A) → IsPlaced at (Ok x)
placed_ok {A} at x place reason h apart = absurd cc

pub placed_refused : {A : Type 0} (at : ℕ) (reason : Why) → IsPlaced {A = A} at (refused at reason)
placed_refused {A} at reason place other h apart = cc

pub placed_ends : {A : Type 0} (at : ℕ) (bytes : List ℕ) → IsPlaced {A = A} at (ends bytes)
placed_ends {A} at bytes place reason h apart = let same : reason ≡ why.End = cc in absurd (apart same)

pub placed_bind : {A B : Type 0} (at : ℕ) (r : Result A CborFault) (f : A → Result B CborFault) → IsPlaced at r → ((x : A) → IsPlaced at (f x)) → IsPlaced at (r >>= f)
placed_bind {A} {B} at (Ok x) f first second place reason h apart = second x place reason h apart
placed_bind {A} {B} at (Err e) f first second place reason h apart = first place reason (fault_same {A = B} {B = A} e (fault.Bad place reason) h) apart

pub placed_if : {A : Type 0} (at : ℕ) (b : Bool) (x y : Result A CborFault) → IsPlaced at x → IsPlaced at y → IsPlaced at (cond b x y)
placed_if at true x y first second = first
placed_if at false x y first second = second

pub byte_placed : (at from : ℕ) (bytes : List ℕ) → IsPlaced at (byte_at from bytes)
unfolding byte_at
byte_placed at from bytes = placed_if at (nat_lt from (length bytes)) _ _ (placed_ok at _) (placed_ends at bytes)

pub argument_placed : (info at : ℕ) (bytes : List ℕ) → IsPlaced at (argument_at info at bytes)
unfolding argument_at
argument_placed info at bytes = placed_if at (nat_lt (length bytes) (at + 1 + argument_size info)) _ _ (placed_ends at bytes) (placed_ok at _)

content_placed : (is_text : Bool) (at size from : ℕ) (bytes : List ℕ) → IsPlaced at (content_at is_text at size from bytes)
unfolding content_at
content_placed is_text at size from bytes =
    placed_if at (nat_lt (length bytes) (from + size)) _ _ (placed_ends at bytes)
    (placed_if at (is_content is_text (piece from size bytes)) _ _ (placed_ok at _) (placed_refused at why.Utf8))

pub string_placed : (is_text : Bool) (before info at : ℕ) (bytes : List ℕ) → IsPlaced at (string_at is_text before info at bytes)
unfolding string_at
string_placed is_text before info at bytes =
    placed_bind at (argument_at info at bytes) _ (argument_placed info at bytes)
    (λ size. placed_if at (nat_lt most_string (before + size.0)) _ _ (placed_refused at why.Length) (content_placed is_text at size.0 size.1 bytes))

pub chunk_placed : (is_text : Bool) (before at : ℕ) (bytes : List ℕ) → IsPlaced at (chunk_at is_text bytes (before, at))
unfolding chunk_at
chunk_placed is_text before at bytes =
    placed_bind at (byte_at at bytes) _ (byte_placed at at bytes)
    (λ first. placed_if at (is_chunk is_text first) _ _
    (placed_bind at (string_at is_text before (first % 32) at bytes) _ (string_placed is_text before (first % 32) at bytes) (λ chunk. placed_ok at _))
    (placed_refused at why.Head))
