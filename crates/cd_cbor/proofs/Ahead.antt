-- A head or a chunk has a byte at least.
use Rattle.std.proofs.Common.{◌≡◌, ℕ, ◌-◌, ◌/◌, ◌%◌, ◌<◌, Bool, true, false, cond, List, length, Option, Some, None, Result, Ok, Err, refl, ap, arith}
use Rattle.std.specs.Prelude.{nat_lt, nat_eq, ◌&&◌}
use Rattle.cd_cbor.specs.Heads.{major_type}
use Rattle.cd_cbor.specs.Spells.{most_depth}
use Rattle.cd_cbor.specs.Readings.{Reading, ◌>>=◌, byte_at}
use Rattle.cd_cbor.specs.Reading.{argument_at, string_at, chunk_at}
use Rattle.cd_cbor.specs.Events.{Open, break_front, string_front, definite_front, indefinite_front, head_front, chunk_front, step_in, front_step, innermost}
use Rattle.cd_cbor.specs.declared.wanted.Wanted.{Wanted}
use Rattle.cd_cbor.specs.declared.wanted.Wanted.TheVariants as wanted
use Rattle.cd_cbor.specs.declared.fault.CborFault.{CborFault}
use Rattle.cd_cbor.specs.declared.major_type.MajorType.{MajorType}
use Rattle.cd_cbor.specs.declared.major_type.MajorType.TheVariants as major
use Rattle.cd_cbor.proofs.Binds.{ok_same, not_ok}
use Rattle.cd_cbor.proofs.Growing.{argument_within}
use Rattle.cd_cbor.proofs.FollowItems.{string_within, chunk_is}

-- what is read ends past the first byte
abbrev pub IsAhead : {A : Type 0} → Reading A → Type 0
IsAhead {A} r = (x : A × ℕ) → r ≡ Ok x → 0 < x.1

ahead_ok : {A : Type 0} (y : A) (size : ℕ) → 0 < size → IsAhead (Ok (y, size))
ahead_ok {A} y size some x h = let end : size ≡ x.1 = ap (λ (t : A × ℕ). t.1) (ok_same (y, size) x h) in omega arith

ahead_err : {A : Type 0} (e : CborFault) → IsAhead {A = A} (Err e)
ahead_err {A} e x h = absurd (not_ok e x h)

ahead_if : {A : Type 0} (b : Bool) (r t : Reading A) → IsAhead r → IsAhead t → IsAhead (cond b r t)
ahead_if true r t first second = first
ahead_if false r t first second = second

ahead_bind : {A : Type 0} {B : Type 0} (r : Result A CborFault) (f : A → Reading B) → ((x : A) → r ≡ Ok x → IsAhead (f x)) → IsAhead (r >>= f)
ahead_bind (Ok x) f each = each x refl
ahead_bind {A} {B} (Err e) f each = ahead_err {A = B} e

-- what is read of an argument ends past its first byte
ahead_argument : {B : Type 0} (info : ℕ) (bytes : List ℕ) (f : ℕ × ℕ → Reading B) → ((n : ℕ × ℕ) → 0 < n.1 → IsAhead (f n)) → IsAhead (argument_at info 0 bytes >>= f)
ahead_argument info bytes f each = ahead_bind (argument_at info 0 bytes) f (λ n e. each n ((argument_within bytes info 0 n.0 n.1 e).0))

break_ahead : (top : Option Wanted) → IsAhead (break_front top)
unfolding break_front
break_ahead None = ahead_err _
break_ahead (Some (wanted.Items n)) = ahead_err _
break_ahead (Some (wanted.Pairs n)) = ahead_err _
break_ahead (Some (wanted.Half n)) = ahead_err _
break_ahead (Some wanted.Elements) = ahead_ok _ 1 (omega arith)
break_ahead (Some wanted.Keys) = ahead_ok _ 1 (omega arith)
break_ahead (Some wanted.Value) = ahead_err _

string_ahead : (is_text : Bool) (info : ℕ) (bytes : List ℕ) → IsAhead (string_front is_text info bytes)
unfolding string_front
string_ahead is_text info bytes = ahead_bind (string_at is_text 0 info 0 bytes) _ (λ c e. ahead_ok _ c.1 ((string_within bytes is_text 0 info 0 c.0 c.1 e).0))

definite_ahead : (room : ℕ) (kind : MajorType) (info : ℕ) (bytes : List ℕ) → IsAhead (definite_front room kind info bytes)
unfolding definite_front
definite_ahead room major.Unsigned info bytes = ahead_argument info bytes _ (λ n some. ahead_ok _ n.1 some)
definite_ahead room major.Negative info bytes = ahead_argument info bytes _ (λ n some. ahead_ok _ n.1 some)
definite_ahead room major.Bytes info bytes = ahead_bind (string_front false info bytes) _ (λ c e. ahead_ok _ c.1 (string_ahead false info bytes c e))
definite_ahead room major.Text info bytes = ahead_bind (string_front true info bytes) _ (λ c e. ahead_ok _ c.1 (string_ahead true info bytes c e))
definite_ahead room major.Array info bytes = ahead_if (nat_eq room 0) _ _ (ahead_err _) (ahead_argument info bytes _ (λ n some. ahead_ok _ n.1 some))
definite_ahead room major.Map info bytes = ahead_if (nat_eq room 0) _ _ (ahead_err _) (ahead_argument info bytes _ (λ n some. ahead_ok _ n.1 some))
definite_ahead room major.Tag info bytes = ahead_if (nat_eq room 0) _ _ (ahead_err _) (ahead_argument info bytes _ (λ n some. ahead_ok _ n.1 some))
definite_ahead room major.Simple info bytes = ahead_argument info bytes _ (λ n some. ahead_if (nat_eq info 24 && nat_lt n.0 32) _ _ (ahead_err _) (ahead_ok _ n.1 some))

indefinite_ahead : (room : ℕ) (top : Option Wanted) (kind : MajorType) → IsAhead (indefinite_front room top kind)
unfolding indefinite_front
indefinite_ahead room top major.Unsigned = ahead_err _
indefinite_ahead room top major.Negative = ahead_err _
indefinite_ahead room top major.Bytes = ahead_ok _ 1 (omega arith)
indefinite_ahead room top major.Text = ahead_ok _ 1 (omega arith)
indefinite_ahead room top major.Array = ahead_if (nat_eq room 0) _ _ (ahead_err _) (ahead_ok _ 1 (omega arith))
indefinite_ahead room top major.Map = ahead_if (nat_eq room 0) _ _ (ahead_err _) (ahead_ok _ 1 (omega arith))
indefinite_ahead room top major.Tag = ahead_err _
indefinite_ahead room top major.Simple = break_ahead top

head_ahead : (room : ℕ) (top : Option Wanted) (bytes : List ℕ) → IsAhead (head_front room top bytes)
unfolding head_front
head_ahead room top bytes =
    ahead_bind (byte_at 0 bytes) _
    (λ first e. ahead_if (nat_lt (first % 32) 28) _ _ (definite_ahead room (major_type (first / 32)) (first % 32) bytes)
    (ahead_if (nat_lt (first % 32) 31) _ _ (ahead_err _) (indefinite_ahead room top (major_type (first / 32)))))

chunk_ahead : (is_text : Bool) (content bytes : List ℕ) → IsAhead (chunk_front is_text content bytes)
unfolding chunk_front
chunk_ahead is_text content bytes =
    ahead_bind (byte_at 0 bytes) _
    (λ first e. ahead_if (nat_eq first 255) _ _ (ahead_ok _ 1 (omega arith))
    (ahead_bind (chunk_at is_text bytes (length content, 0)) _
    (λ chunk found. ahead_ok _ chunk.1.1 ((chunk_is bytes is_text (length content) 0 chunk.0 chunk.1 found).ahead))))

in_ahead : (wants : List Wanted) (chunks : Option (Bool × List ℕ)) (bytes : List ℕ) → IsAhead (step_in wants chunks bytes)
unfolding step_in
in_ahead wants None bytes =
    ahead_bind (head_front (most_depth - length wants) (innermost wants) bytes) _ (λ head e. ahead_ok _ head.1 (head_ahead (most_depth - length wants) (innermost wants) bytes head e))
in_ahead wants (Some string) bytes =
    ahead_bind (chunk_front string.0 string.1 bytes) _ (λ chunk e. ahead_ok _ chunk.1 (chunk_ahead string.0 string.1 bytes chunk e))

pub step_ahead : (now : Open) (bytes : List ℕ) → IsAhead (front_step now bytes)
step_ahead now bytes = in_ahead now.wants now.chunks bytes
