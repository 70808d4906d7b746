-- The heads of a file, and its text, stay as the bytes go on, but for an end, and lie within the bytes.
use Rattle.std.proofs.Common.{ℕ, ◌+◌, ◌/◌, ◌%◌, ◌≤◌, Bool, true, List, ◌++◌, length, inl, inr, refl, arith, length-append}
use Rattle.std.specs.Prelude.{nat_lt}
use Rattle.std.proofs.lemmas.Bool.{cases_lt, lt-ltb, le-ltb}
use Rattle.cd_cbor.specs.Heads.{major_type}
use Rattle.cd_cbor.specs.Spells.{most_string, is_content}
use Rattle.cd_cbor.specs.Readings.{piece, byte_at}
use Rattle.cd_cbor.specs.Reading.{argument_at, content_at, is_chunk}
use Rattle.cd_cbor.specs.declared.fault.Why.TheVariants as why
use Rattle.cd_cbor.specs.declared.major_type.MajorType.{MajorType}
use Rattle.cd_cbor.specs.declared.major_type.MajorType.TheVariants as major
use Rattle.cd_cbor.proofs.Growing.{Goes, goes_ok, goes_refused, goes_bind, goes_if, byte_goes, argument_goes}
use Rattle.cd_file.specs.ItemHeads.{is_low_simple, is_too_long, definite_head, indefinite_head, begun_item, chunk_head}
use Rattle.cd_file.proofs.ItemsGo.{piece_stays}
use Rattle.cd_file.proofs.ItemsWithin.{Lies, byte_within, lies_ok, lies_err, lies_if, lies_bind, argument_lies}

-- the content of a string
pub content_goes : (bytes more : List ℕ) (is_text : Bool) (head size at : ℕ) → Goes bytes (content_at is_text head size at bytes) (content_at is_text head size at (bytes ++ more))
unfolding content_at
content_goes bytes more is_text head size at =
    elim (cases_lt (length bytes) (at + size)) [
      | inl few ↦ rw (lt-ltb (length bytes) (at + size) few) (record {
        stays = λ never. absurd (never (length bytes) refl);
        ends = λ k h. cc;
      })
      | inr enough ↦
          rw (le-ltb (length bytes) (at + size) enough, le-ltb (length (bytes ++ more)) (at + size) (omega (arith, length-append bytes more)), piece_stays bytes more at size enough)
          (goes_if bytes (is_content is_text (piece at size bytes)) _ _ _ _ (goes_ok bytes _ _ refl) (goes_refused bytes head why.Utf8 (λ e. cc)))
    ]

pub content_lies : (bytes : List ℕ) (is_text : Bool) (head size at low : ℕ) → low ≤ at + size → Lies bytes low (content_at is_text head size at bytes)
unfolding content_at
content_lies bytes is_text head size at low far =
    elim (cases_lt (length bytes) (at + size)) [
      | inl few ↦ rw (lt-ltb (length bytes) (at + size) few) (lies_err bytes low _)
      | inr enough ↦ rw (le-ltb (length bytes) (at + size) enough)
          (lies_if bytes low (is_content is_text (piece at size bytes)) _ _ (lies_ok bytes low (piece at size bytes) (at + size) far enough) (lies_err bytes low _))
    ]

definite_head_goes : (bytes more : List ℕ) (first : ℕ) → Goes bytes (definite_head first bytes) (definite_head first (bytes ++ more))
unfolding definite_head
definite_head_goes bytes more first =
    goes_bind bytes _ _ _ _ (argument_goes bytes more (first % 32) 0)
    (λ n e. goes_if bytes (is_low_simple first n.0) _ _ _ _ (goes_refused bytes 0 why.Head (λ e. cc))
    (goes_if bytes (is_too_long (major_type (first / 32)) n.0) _ _ _ _ (goes_refused bytes 0 why.Length (λ e. cc)) (goes_ok bytes _ _ refl)))

indefinite_head_goes : (bytes : List ℕ) (kind : MajorType) → Goes bytes (indefinite_head kind) (indefinite_head kind)
unfolding indefinite_head
indefinite_head_goes bytes major.Unsigned = goes_refused bytes 0 why.Head (λ e. cc)
indefinite_head_goes bytes major.Negative = goes_refused bytes 0 why.Head (λ e. cc)
indefinite_head_goes bytes major.Bytes = goes_ok bytes _ _ refl
indefinite_head_goes bytes major.Text = goes_ok bytes _ _ refl
indefinite_head_goes bytes major.Array = goes_ok bytes _ _ refl
indefinite_head_goes bytes major.Map = goes_ok bytes _ _ refl
indefinite_head_goes bytes major.Tag = goes_refused bytes 0 why.Head (λ e. cc)
indefinite_head_goes bytes major.Simple = goes_refused bytes 0 why.Break (λ e. cc)

-- the head of an item
pub begun_goes : (bytes more : List ℕ) → Goes bytes (begun_item bytes) (begun_item (bytes ++ more))
unfolding begun_item
begun_goes bytes more =
    goes_bind bytes _ _ _ _ (byte_goes bytes more 0)
    (λ first e. goes_if bytes (nat_lt (first % 32) 28) _ _ _ _ (definite_head_goes bytes more first)
    (goes_if bytes (nat_lt (first % 32) 31) _ _ _ _ (goes_refused bytes 0 why.Head (λ e. cc)) (indefinite_head_goes bytes (major_type (first / 32)))))

definite_head_lies : (bytes : List ℕ) (first : ℕ) → Lies bytes 1 (definite_head first bytes)
unfolding definite_head
definite_head_lies bytes first =
    lies_bind bytes 1 (argument_at (first % 32) 0 bytes) _
    (λ n e. let w = argument_lies bytes (first % 32) 0 n e in
    lies_if bytes 1 (is_low_simple first n.0) _ _ (lies_err bytes 1 _)
    (lies_if bytes 1 (is_too_long (major_type (first / 32)) n.0) _ _ (lies_err bytes 1 _) (lies_ok bytes 1 _ n.1 (omega (arith, w.0)) w.1)))

indefinite_head_lies : (bytes : List ℕ) (kind : MajorType) → 1 ≤ length bytes → Lies bytes 1 (indefinite_head kind)
unfolding indefinite_head
indefinite_head_lies bytes major.Unsigned some = lies_err bytes 1 _
indefinite_head_lies bytes major.Negative some = lies_err bytes 1 _
indefinite_head_lies bytes major.Bytes some = lies_ok bytes 1 _ 1 (omega arith) some
indefinite_head_lies bytes major.Text some = lies_ok bytes 1 _ 1 (omega arith) some
indefinite_head_lies bytes major.Array some = lies_ok bytes 1 _ 1 (omega arith) some
indefinite_head_lies bytes major.Map some = lies_ok bytes 1 _ 1 (omega arith) some
indefinite_head_lies bytes major.Tag some = lies_err bytes 1 _
indefinite_head_lies bytes major.Simple some = lies_err bytes 1 _

pub begun_lies : (bytes : List ℕ) → Lies bytes 1 (begun_item bytes)
unfolding begun_item
begun_lies bytes =
    lies_bind bytes 1 (byte_at 0 bytes) _
    (λ first e. lies_if bytes 1 (nat_lt (first % 32) 28) _ _ (definite_head_lies bytes first)
    (lies_if bytes 1 (nat_lt (first % 32) 31) _ _ (lies_err bytes 1 _) (indefinite_head_lies bytes (major_type (first / 32)) (omega (arith, byte_within bytes 0 first e)))))

-- the head of a chunk
pub chunk_head_goes : (bytes more : List ℕ) (before : ℕ) → Goes bytes (chunk_head before bytes) (chunk_head before (bytes ++ more))
unfolding chunk_head
chunk_head_goes bytes more before =
    goes_bind bytes _ _ _ _ (byte_goes bytes more 0)
    (λ first e. goes_if bytes (is_chunk true first) _ _ _ _
    (goes_bind bytes _ _ _ _ (argument_goes bytes more (first % 32) 0)
    (λ n f. goes_if bytes (nat_lt most_string (before + n.0)) _ _ _ _ (goes_refused bytes 0 why.Length (λ e. cc)) (goes_ok bytes _ _ refl)))
    (goes_refused bytes 0 why.Head (λ e. cc)))

pub chunk_head_lies : (bytes : List ℕ) (before : ℕ) → Lies bytes 1 (chunk_head before bytes)
unfolding chunk_head
chunk_head_lies bytes before =
    lies_bind bytes 1 (byte_at 0 bytes) _
    (λ first e. lies_if bytes 1 (is_chunk true first) _ _
    (lies_bind bytes 1 (argument_at (first % 32) 0 bytes) _
    (λ n f. let w = argument_lies bytes (first % 32) 0 n f in
    lies_if bytes 1 (nat_lt most_string (before + n.0)) _ _ (lies_err bytes 1 _) (lies_ok bytes 1 n.0 n.1 (omega (arith, w.0)) w.1)))
    (lies_err bytes 1 _))
