-- Bytes that stand at an offset.
use Rattle.std.proofs.Common.{◌≡◌, ℕ, ◌+◌, ◌<◌, List, ◌∷◌, ◌++◌, length, take, drop, get_or, Ok, refl, ap, sym, ◌∙◌, arith, length-append}
use Rattle.std.specs.Prelude.{slice_index}
use Rattle.std.proofs.lemmas.Bool.{lt-ltb}
use Rattle.std.proofs.lemmas.List.{drop-drop, length-drop, get_or-drop}
use Rattle.std.proofs.Math.Seq.{take-append_seam, drop-append_seam}
use Rattle.cd_cbor.specs.Readings.{byte_at, piece}

-- what stands after some bytes at an offset
pub drop_on : (at : ℕ) (bytes s rest : List ℕ) → drop at bytes ≡ s ++ rest → drop (at + length s) bytes ≡ rest
drop_on at bytes s rest e = sym (drop-drop (length s) at bytes) ∙ ap (drop (length s)) e ∙ drop-append_seam s rest

-- bytes at an offset lie within all bytes
pub lies_within : (at : ℕ) (bytes s rest : List ℕ) → drop at bytes ≡ s ++ rest → 0 < length s → at + length s + length rest ≡ length bytes
lies_within at bytes s rest e some =
    let long : length (drop at bytes) ≡ length (s ++ rest) = ap length e in omega (arith, length-drop at bytes, length-append s rest)

-- as many bytes as stand at an offset
pub piece_is : (at : ℕ) (bytes s rest : List ℕ) → drop at bytes ≡ s ++ rest → piece at (length s) bytes ≡ s
piece_is at bytes s rest e = ap (take (length s)) e ∙ take-append_seam s rest

-- the byte at an offset
pub first_is : (at : ℕ) (bytes : List ℕ) (first : ℕ) (rest : List ℕ) → drop at bytes ≡ first ∷ rest → byte_at at bytes ≡ Ok first
unfolding byte_at
first_is at bytes first rest e =
    let long : length (drop at bytes) ≡ length (first ∷ rest) = ap length e in
    let within : at < length bytes = omega (arith, length-drop at bytes) in
    let same : at + 0 ≡ at = omega arith in
    let value : slice_index bytes at ≡ first = sym (ap (λ n. get_or bytes n 0) same) ∙ sym (get_or-drop at bytes 0 0) ∙ ap (λ l. get_or l 0 0) e in
    rw (lt-ltb at (length bytes) within, value) refl
