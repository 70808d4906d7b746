-- What a head or a chunk tells stays as the bytes go on.
use Rattle.std.proofs.Common.{◌≡◌, ℕ, ◌-◌, ◌/◌, ◌%◌, ◌≤◌, Bool, true, false, List, ◌++◌, length, drop, Option, Some, None, Ok, refl, ap, sym, ◌∙◌}
use Rattle.std.specs.Prelude.{nat_lt, nat_eq, ◌&&◌}
use Rattle.std.proofs.lemmas.List.{drop-append-le}
use Rattle.cd_cbor.specs.Heads.{major_type}
use Rattle.cd_cbor.specs.Spells.{most_depth}
use Rattle.cd_cbor.specs.Events.{Open, break_front, string_front, definite_front, indefinite_front, head_front, chunk_front, step_in, front_step, innermost}
use Rattle.cd_cbor.specs.declared.event.Event.{Event}
use Rattle.cd_cbor.specs.declared.wanted.Wanted.{Wanted}
use Rattle.cd_cbor.specs.declared.wanted.Wanted.TheVariants as wanted
use Rattle.cd_cbor.specs.declared.fault.Why.TheVariants as why
use Rattle.cd_cbor.specs.declared.major_type.MajorType.{MajorType}
use Rattle.cd_cbor.specs.declared.major_type.MajorType.TheVariants as major
use Rattle.cd_cbor.proofs.Growing.{Goes, goes_ok, goes_refused, goes_bind, goes_if, byte_goes, argument_goes, string_goes, chunk_goes}

break_goes : (bytes : List ℕ) (top : Option Wanted) → Goes bytes (break_front top) (break_front top)
unfolding break_front
break_goes bytes None = goes_refused bytes 0 why.Break (λ e. cc)
break_goes bytes (Some (wanted.Items n)) = goes_refused bytes 0 why.Break (λ e. cc)
break_goes bytes (Some (wanted.Pairs n)) = goes_refused bytes 0 why.Break (λ e. cc)
break_goes bytes (Some (wanted.Half n)) = goes_refused bytes 0 why.Break (λ e. cc)
break_goes bytes (Some wanted.Elements) = goes_ok bytes _ _ refl
break_goes bytes (Some wanted.Keys) = goes_ok bytes _ _ refl
break_goes bytes (Some wanted.Value) = goes_refused bytes 0 why.Odd (λ e. cc)

string_front_goes : (bytes more : List ℕ) (is_text : Bool) (info : ℕ) → Goes bytes (string_front is_text info bytes) (string_front is_text info (bytes ++ more))
unfolding string_front
string_front_goes bytes more is_text info = goes_bind bytes _ _ _ _ (string_goes bytes more is_text 0 info 0) (λ content e. goes_ok bytes _ _ refl)

definite_front_goes : (bytes more : List ℕ) (room : ℕ) (kind : MajorType) (info : ℕ) → Goes bytes (definite_front room kind info bytes) (definite_front room kind info (bytes ++ more))
unfolding definite_front
definite_front_goes bytes more room major.Unsigned info = goes_bind bytes _ _ _ _ (argument_goes bytes more info 0) (λ n e. goes_ok bytes _ _ refl)
definite_front_goes bytes more room major.Negative info = goes_bind bytes _ _ _ _ (argument_goes bytes more info 0) (λ n e. goes_ok bytes _ _ refl)
definite_front_goes bytes more room major.Bytes info = goes_bind bytes _ _ _ _ (string_front_goes bytes more false info) (λ n e. goes_ok bytes _ _ refl)
definite_front_goes bytes more room major.Text info = goes_bind bytes _ _ _ _ (string_front_goes bytes more true info) (λ n e. goes_ok bytes _ _ refl)
definite_front_goes bytes more room major.Array info =
    goes_if bytes (nat_eq room 0) _ _ _ _ (goes_refused bytes 0 why.Depth (λ e. cc)) (goes_bind bytes _ _ _ _ (argument_goes bytes more info 0) (λ n e. goes_ok bytes _ _ refl))
definite_front_goes bytes more room major.Map info =
    goes_if bytes (nat_eq room 0) _ _ _ _ (goes_refused bytes 0 why.Depth (λ e. cc)) (goes_bind bytes _ _ _ _ (argument_goes bytes more info 0) (λ n e. goes_ok bytes _ _ refl))
definite_front_goes bytes more room major.Tag info =
    goes_if bytes (nat_eq room 0) _ _ _ _ (goes_refused bytes 0 why.Depth (λ e. cc)) (goes_bind bytes _ _ _ _ (argument_goes bytes more info 0) (λ n e. goes_ok bytes _ _ refl))
definite_front_goes bytes more room major.Simple info =
    goes_bind bytes _ _ _ _ (argument_goes bytes more info 0)
    (λ value e. goes_if bytes (nat_eq info 24 && nat_lt value.0 32) _ _ _ _ (goes_refused bytes 0 why.Head (λ e. cc)) (goes_ok bytes _ _ refl))

indefinite_front_goes : (bytes : List ℕ) (room : ℕ) (top : Option Wanted) (kind : MajorType) → Goes bytes (indefinite_front room top kind) (indefinite_front room top kind)
unfolding indefinite_front
indefinite_front_goes bytes room top major.Unsigned = goes_refused bytes 0 why.Head (λ e. cc)
indefinite_front_goes bytes room top major.Negative = goes_refused bytes 0 why.Head (λ e. cc)
indefinite_front_goes bytes room top major.Bytes = goes_ok bytes _ _ refl
indefinite_front_goes bytes room top major.Text = goes_ok bytes _ _ refl
indefinite_front_goes bytes room top major.Array = goes_if bytes (nat_eq room 0) _ _ _ _ (goes_refused bytes 0 why.Depth (λ e. cc)) (goes_ok bytes _ _ refl)
indefinite_front_goes bytes room top major.Map = goes_if bytes (nat_eq room 0) _ _ _ _ (goes_refused bytes 0 why.Depth (λ e. cc)) (goes_ok bytes _ _ refl)
indefinite_front_goes bytes room top major.Tag = goes_refused bytes 0 why.Head (λ e. cc)
indefinite_front_goes bytes room top major.Simple = break_goes bytes top

pub head_front_goes : (bytes more : List ℕ) (room : ℕ) (top : Option Wanted) → Goes bytes (head_front room top bytes) (head_front room top (bytes ++ more))
unfolding head_front
head_front_goes bytes more room top =
    goes_bind bytes _ _ _ _ (byte_goes bytes more 0)
    (λ first e. goes_if bytes (nat_lt (first % 32) 28) _ _ _ _ (definite_front_goes bytes more room (major_type (first / 32)) (first % 32))
    (goes_if bytes (nat_lt (first % 32) 31) _ _ _ _ (goes_refused bytes 0 why.Head (λ e. cc)) (indefinite_front_goes bytes room top (major_type (first / 32)))))

chunk_front_goes : (bytes more : List ℕ) (is_text : Bool) (content : List ℕ) → Goes bytes (chunk_front is_text content bytes) (chunk_front is_text content (bytes ++ more))
unfolding chunk_front
chunk_front_goes bytes more is_text content =
    goes_bind bytes _ _ _ _ (byte_goes bytes more 0)
    (λ first e. goes_if bytes (nat_eq first 255) _ _ _ _ (goes_ok bytes _ _ refl)
    (goes_bind bytes _ _ _ _ (chunk_goes bytes more is_text (length content, 0)) (λ chunk e. goes_ok bytes _ _ refl)))

pub step_goes : (bytes more : List ℕ) (wants : List Wanted) (chunks : Option (Bool × List ℕ)) → Goes bytes (step_in wants chunks bytes) (step_in wants chunks (bytes ++ more))
unfolding step_in
step_goes bytes more wants None = goes_bind bytes _ _ _ _ (head_front_goes bytes more (most_depth - length wants) (innermost wants)) (λ head e. goes_ok bytes _ _ refl)
step_goes bytes more wants (Some string) = goes_bind bytes _ _ _ _ (chunk_front_goes bytes more string.0 string.1) (λ chunk e. goes_ok bytes _ _ refl)

-- a step of some bytes is one of more bytes
pub step_stays : (fed more : List ℕ) (now : Open) (at : ℕ) (x : (Option Event × Open) × ℕ) → at ≤ length fed → front_step now (drop at fed) ≡ Ok x → front_step now (drop at (fed ++ more)) ≡ Ok x
step_stays fed more now at x within is =
    ap (front_step now) (drop-append-le at fed more within) ∙ (step_goes (drop at fed) more now.wants now.chunks).stays (λ k h. let e = sym is ∙ h in absurd cc) ∙ is
