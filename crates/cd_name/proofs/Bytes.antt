-- The bytes at an offset.
use Rattle.std.proofs.Common.{◌≡◌, ℕ, ◌+◌, ◌<◌, List, ◌∷◌, length, take, drop, get_or, refl, ap, ◌∙◌, arith, add-one}
use Rattle.std.proofs.lemmas.List.{drop_more, drop-drop, length-drop, length-take-le}

-- bytes from an offset on begin with the byte there
pub drop-byte : (p : List ℕ) (at n : ℕ) → get_or p at 0 ≡ n → at < length p → drop at p ≡ n ∷ drop (at + 1) p
drop-byte p at n e h = drop_more p at 0 h ∙ ap (λ b. b ∷ drop (at + 1) p) e

-- a label with its length byte is that byte and the bytes after it
pub take-label : (p : List ℕ) (at n : ℕ) → get_or p at 0 ≡ n → at < length p → take (n + 1) (drop at p) ≡ n ∷ take n (drop (at + 1) p)
take-label p at n e h = rw (drop-byte p at n e h, add-one n) refl

-- the size of a label with its length byte
pub length-label : (p : List ℕ) (at n : ℕ) → at + n < length p → length (take (n + 1) (drop at p)) ≡ n + 1
length-label p at n h = length-take-le (n + 1) (drop at p) (omega (arith, length-drop at p))

-- after a length byte and its label are the bytes after the label with its length byte
pub drop-label : (p : List ℕ) (at n : ℕ) → drop n (drop (at + 1) p) ≡ drop (at + (n + 1)) p
drop-label p at n =
    let place : at + 1 + n ≡ at + (n + 1) = omega arith in
    drop-drop n (at + 1) p ∙ ap (λ k. drop k p) place
