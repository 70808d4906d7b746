-- Where a name without pointers ends, one label further.
use Rattle.std.proofs.Common.{◌≡◌, ℕ, zero, suc, ◌+◌, ◌<◌, ◌≤◌, List, [], ◌∷◌, length, drop, get_or, Option, Some, None, refl, ap, sym, ◌∙◌, arith}
use Rattle.std.specs.Option.{option_map, option_and_then}
use Rattle.std.proofs.lemmas.Bool.{le-ltb, lt-ltb, false≢true}
use Rattle.std.proofs.lemmas.List.{drop_all, drop-drop}
use Rattle.cd_name.specs.NameSizes.{size_from, name_size, at_most_255}
use Rattle.cd_name.proofs.Bytes.{drop-byte}
use Rattle.cd_name.proofs.Labels.{labels-short}
use Rattle.cd_name.proofs.NameSizes.{AreLabelsAndRoot, size-root, size-long, size-label, size_is_exact}

-- two numbers of bytes more are one
option_map-twice : (f g h : ℕ → ℕ) → ((k : ℕ) → f (g k) ≡ h k) → (r : Option ℕ) → option_map f (option_map g r) ≡ option_map h r
option_map-twice f g h same None = refl
option_map-twice f g h same (Some k) = ap Some (same k)

-- no byte more
pub option_map-zero : (r : Option ℕ) → r ≡ option_map (λ k. 0 + k) r
option_map-zero None = refl
option_map-zero (Some k) = ap Some (omega arith)

-- after the rest of a label the name goes on
size-inside : (inside : ℕ) (bytes : List ℕ) → size_from inside bytes ≡ option_map (λ k. inside + k) (size_from 0 (drop inside bytes))
unfolding size_from
size-inside zero bytes = option_map-zero (size_from 0 bytes)
size-inside (suc n) [] = refl
size-inside (suc n) (b ∷ bytes) =
    ap (λ r. option_map suc r) (size-inside n bytes) ∙ option_map-twice suc (λ k. n + k) (λ k. suc n + k) (λ k. omega arith) (size_from 0 (drop n bytes))

-- a label at an offset
size-label_at : (p : List ℕ) (at n : ℕ) → get_or p at 0 ≡ n → at < length p → 0 < n → n ≤ 63 →
    size_from 0 (drop at p) ≡ option_map (λ k. n + 1 + k) (size_from 0 (drop (at + (n + 1)) p))
size-label_at p at n e m some few =
    let place : at + 1 + n ≡ at + (n + 1) = omega arith in
    ap (λ t. size_from 0 t) (drop-byte p at n e m) ∙ size-label n (drop (at + 1) p) some few ∙ ap (λ r. option_map suc r) (size-inside n (drop (at + 1) p))
    ∙ option_map-twice suc (λ k. n + k) (λ k. n + 1 + k) (λ k. omega arith) (size_from 0 (drop n (drop (at + 1) p)))
    ∙ ap (λ t. option_map (λ k. n + 1 + k) (size_from 0 t)) (drop-drop n (at + 1) p ∙ ap (λ j. drop j p) place)

-- the labels so far have so many bytes, and the name goes on after them
abbrev pub GoesOn : List ℕ → ℕ → Type 0
GoesOn p at = size_from 0 p ≡ option_map (λ k. at + k) (size_from 0 (drop at p))

-- it goes on after a label
pub goes_on : (p : List ℕ) (at n : ℕ) → GoesOn p at → get_or p at 0 ≡ n → at < length p → 0 < n → n ≤ 63 → GoesOn p (at + (n + 1))
goes_on p at n before e m some few =
    before ∙ ap (λ r. option_map (λ k. at + k) r) (size-label_at p at n e m some few)
    ∙ option_map-twice (λ k. at + k) (λ k. n + 1 + k) (λ k. at + (n + 1) + k) (λ k. omega arith) (size_from 0 (drop (at + (n + 1)) p))

-- it ends after a root
pub size_at_root : (p : List ℕ) (at : ℕ) → GoesOn p at → get_or p at 0 ≡ 0 → at < length p → at < 255 → Some (at + 1) ≡ name_size p
size_at_root p at before e m few =
    let is : size_from 0 p ≡ Some (at + 1) = before ∙ ap (λ t. option_map (λ k. at + k) (size_from 0 t)) (drop-byte p at 0 e m) ∙ ap (λ r. option_map (λ k. at + k) r) (size-root 0 (drop (at + 1) p) refl) in
    sym (ap (λ r. option_and_then at_most_255 r) is ∙ rw (le-ltb 255 (at + 1) (omega arith)) refl)

-- there is none where no name begins after the labels
no_size : (p : List ℕ) (at : ℕ) → GoesOn p at → size_from 0 (drop at p) ≡ None → None ≡ name_size p
no_size p at before none = sym (ap (λ r. option_and_then at_most_255 r) (before ∙ ap (λ r. option_map (λ k. at + k) r) none))

-- there is none after a length byte of 64 or more
pub no_size_at_long : (p : List ℕ) (at n : ℕ) → GoesOn p at → get_or p at 0 ≡ n → at < length p → 63 < n → None ≡ name_size p
no_size_at_long p at n before e m long = no_size p at before (ap (λ t. size_from 0 t) (drop-byte p at n e m) ∙ size-long n (drop (at + 1) p) long)

-- there is none after the last byte
pub no_size_at_end : (p : List ℕ) (at : ℕ) → GoesOn p at → length p ≤ at → None ≡ name_size p
unfolding size_from
no_size_at_end p at before end = no_size p at before (ap (λ t. size_from 0 t) (drop_all at p end))

-- a name has a byte
some_bytes : (bytes : List ℕ) (n : ℕ) → AreLabelsAndRoot 0 bytes n → 0 < n
some_bytes bytes zero r = absurd (false≢true (sym (labels-short 0 [] (omega arith)) ∙ r.1))
some_bytes bytes (suc n) r = omega arith

-- bytes after 255 others are too many
too_many : (at : ℕ) (bytes : List ℕ) (r : Option ℕ) → 255 ≤ at → size_from 0 bytes ≡ r → option_and_then at_most_255 (option_map (λ k. at + k) r) ≡ None
too_many at bytes None many is = refl
too_many at bytes (Some k) many is = rw (lt-ltb 255 (at + k) (omega (arith, some_bytes bytes k ((size_is_exact 0 bytes k).0 is)))) refl

-- there is none after labels of 255 bytes
pub no_size_past_255 : (p : List ℕ) (at : ℕ) → GoesOn p at → 255 ≤ at → None ≡ name_size p
no_size_past_255 p at before many = sym (ap (λ r. option_and_then at_most_255 r) before ∙ too_many at (drop at p) (size_from 0 (drop at p)) many refl)
