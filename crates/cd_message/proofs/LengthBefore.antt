-- A piece that is written after its length.
use Rattle.std.proofs.Common.{◌≡◌, ℕ, ◌+◌, ◌-◌, ◌≤◌, List, [], ◌∷◌, ◌++◌, length, Ok, refl, ap, ◌∙◌, arith, length-append}
use Rattle.std.specs.Prelude.{slice_set, slice_index}
use Rattle.std.specs.Int.{w16, to_be_bytes}
use Rattle.std.proofs.Math.Seq.{set-append_seam}
use Rattle.std.proofs.lemmas.List.{append-nil, set-append_right}
use Rattle.cd_name.specs.WrittenNames.{Piece, Written, Writes}
use Rattle.cd_message.specs.declared.writing.Writing.{Writing}
use Rattle.cd_message.specs.Putting.{Puts}
use Rattle.cd_message.specs.Written.{bytes_piece, in_turn, with_length}

-- two items after a front are set
set_two : (front : List ℕ) (a b high low : ℕ) (after : List ℕ) →
    slice_set (slice_set (front ++ a ∷ b ∷ after) (length front) high) (length front + 1) low ≡ front ++ high ∷ low ∷ after
set_two front a b high low after =
    let first : slice_set (front ++ a ∷ b ∷ after) (length front) high ≡ front ++ high ∷ b ∷ after = set-append_seam front a (b ∷ after) high in
    let second : slice_set (front ++ high ∷ b ∷ after) (length front + 1) low ≡ front ++ slice_set (high ∷ b ∷ after) (length front + 1 - length front) low =
    set-append_right front (high ∷ b ∷ after) (length front) (length front + 1) low refl (omega arith) in
    let place : length front + 1 - length front ≡ 1 = omega arith in
    ap (λ t. slice_set t (length front + 1) low) first ∙ second ∙ ap (λ k. front ++ slice_set (high ∷ b ∷ after) k low) place

-- After room for a length a piece is written, and then its length into the room.
pub length_written : (piece : Piece) (old now : Writing) (at size : ℕ) (digits first new : List ℕ) → Puts (in_turn (bytes_piece (0 ∷ 0 ∷ [])) piece) old now (Ok tt) →
    at ≡ length old.bytes → size ≡ length now.bytes - at - 2 → digits ≡ to_be_bytes w16 size →
    first ≡ slice_set now.bytes at (slice_index digits 0) → new ≡ slice_set first (at + 1) (slice_index digits 1) →
    Writes (with_length piece) old.bytes old.names new now.names × (length new ≤ 65535)
length_written piece old now at size digits first new puts at_is is digits_are first_is new_is =
    let w : Written = piece old.names (length old.bytes + 2) in
    let same : piece (old.names ++ []) (length old.bytes + 2) ≡ w = ap (λ n. piece n (length old.bytes + 2)) (append-nil old.names) in
    let bytes : now.bytes ≡ old.bytes ++ 0 ∷ 0 ∷ w.bytes = puts.0.bytes ∙ ap (λ (v : Written). old.bytes ++ 0 ∷ 0 ∷ v.bytes) same in
    let suffixes : now.names ≡ old.names ++ w.suffixes = puts.0.suffixes ∙ ap (λ (v : Written). old.names ++ v.suffixes) same in
    let all : length now.bytes ≡ length old.bytes + length (0 ∷ 0 ∷ w.bytes) = ap length bytes ∙ length-append old.bytes (0 ∷ 0 ∷ w.bytes) in
    let size_is : size ≡ length w.bytes = omega arith in
    let set : new ≡ old.bytes ++ slice_index digits 0 ∷ slice_index digits 1 ∷ w.bytes =
    rw (new_is, first_is, at_is, bytes) (set_two old.bytes 0 0 (slice_index digits 0) (slice_index digits 1) w.bytes) in
    let spelled : new ≡ old.bytes ++ (to_be_bytes w16 (length w.bytes) ++ w.bytes) =
    set ∙ ap (λ (t : List ℕ). old.bytes ++ slice_index t 0 ∷ slice_index t 1 ∷ w.bytes) (digits_are ∙ ap (λ n. to_be_bytes w16 n) size_is) in
    let as_long : length new ≡ length now.bytes = omega (arith, all, ap length set, length-append old.bytes (slice_index digits 0 ∷ slice_index digits 1 ∷ w.bytes)) in
    (record { bytes = spelled; suffixes = suffixes }, omega (arith, as_long, puts.1))
