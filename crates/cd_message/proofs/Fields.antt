-- Numbers that are written in two or four bytes are read from them.
use Rattle.std.proofs.Common.{◌≡◌, ℕ, ◌+◌, ◌<◌, ◌^◌, List, length, drop, get_or, ap, sym, ◌∙◌, arith, add-zero, refl}
use Rattle.std.specs.Int.{w16, w32, to_be_bytes}
use Rattle.std.proofs.lemmas.List.{get_or-take, get_or-drop}
use Rattle.std.proofs.lemmas.Nat.{from_be_bytes-to_be_bytes_4}
use Rattle.cd_bytes.specs.Numbers.{be16, be32}
use Rattle.cd_message.specs.Messages.{bytes_at}

-- some bytes stand at an offset and end before the next one
abbrev pub BytesAt : List ℕ → List ℕ → ℕ → ℕ → Type 0
BytesAt b p at next = (bytes_at p at (length b) ≡ b) × (next ≡ at + length b)

-- a byte of those that stand at an offset
byte_there : (b p : List ℕ) (at i : ℕ) → bytes_at p at (length b) ≡ b → i < length b → get_or p (at + i) 0 ≡ get_or b i 0
byte_there b p at i stand within = sym (get_or-drop at p i 0) ∙ sym (get_or-take (length b) (drop at p) i 0 within) ∙ ap (λ t. get_or t i 0) stand

-- two of them, as a number
pub word_there : (b p : List ℕ) (at i : ℕ) → bytes_at p at (length b) ≡ b → i + 1 < length b → be16 (at + i) p ≡ be16 i b
unfolding be16
word_there b p at i stand within =
    let first = byte_there b p at i stand (omega arith) in
    let second = byte_there b p at (i + 1) stand within in
    let place : at + i + 1 ≡ at + (i + 1) = omega arith in
    rw (first, place, second) refl

-- four of them, as a number
pub four_there : (b p : List ℕ) (at i : ℕ) → bytes_at p at (length b) ≡ b → i + 3 < length b → be32 (at + i) p ≡ be32 i b
unfolding be32
four_there b p at i stand within =
    let first = byte_there b p at i stand (omega arith) in
    let second = byte_there b p at (i + 1) stand (omega arith) in
    let third = byte_there b p at (i + 2) stand (omega arith) in
    let fourth = byte_there b p at (i + 3) stand within in
    let two : at + i + 1 ≡ at + (i + 1) = omega arith in
    let three : at + i + 2 ≡ at + (i + 2) = omega arith in
    let four : at + i + 3 ≡ at + (i + 3) = omega arith in
    rw (first, two, second, three, third, four, fourth) refl

-- the first two of them, as a number
pub first_word_there : (b p : List ℕ) (at : ℕ) → bytes_at p at (length b) ≡ b → 1 < length b → be16 at p ≡ be16 0 b
first_word_there b p at stand within = ap (λ k. be16 k p) (sym (add-zero at)) ∙ word_there b p at 0 stand within

-- two bytes of a number are read as it
pub word_of_number : (n : ℕ) → n < 2 ^ 16 → be16 0 (to_be_bytes w16 n) ≡ n
unfolding be16
word_of_number n fits = omega arith

-- four bytes of a number are read as it
pub four_of_number : (n : ℕ) → n < 2 ^ 32 → be32 0 (to_be_bytes w32 n) ≡ n
unfolding be32
four_of_number n fits = omega (arith, from_be_bytes-to_be_bytes_4 n fits)
