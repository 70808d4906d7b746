-- The numbers below a limit that some parts hold.
use Rattle.std.proofs.Common.{◌≡◌, ℕ, ◌+◌, ◌*◌, ◌%◌, ◌^◌, ◌<◌, true, false, List, [], ◌∷◌, ◌++◌, add-one, refl, sym, ap, ◌∙◌, arith}
use Rattle.std.specs.List.{range_with_len, sum_by}
use Rattle.std.specs.List.Sorted.{IsStrictlyIncreasing}
use Rattle.std.proofs.lemmas.List.{map-id, append-nil}
use Rattle.std.proofs.lemmas.List.FromFn.{map-range_with_len_more, get_or-range_with_len, length-range_with_len}
use Rattle.std.proofs.lemmas.List.Elements.{filter-append}
use Rattle.std.proofs.lemmas.List.Sums.{sum_by-append}
use Rattle.std.proofs.Math.Nat.{mod-eq_of_lt, one-mul, pow-suc}
use Rattle.std.proofs.Math.Pow.{pow-lt}
use Rattle.std.proofs.lemmas.List.Kept.{IsStrictlyIncreasing-filter}
use Rattle.cd_hints.specs.declared.settings.interval.Interval.{Interval}
use Rattle.cd_hints.specs.Listing.{is_listed, listed_below}

-- one more number stands at the end
range_more : (n : ℕ) → range_with_len 0 (n + 1) ≡ range_with_len 0 n ++ n ∷ []
range_more n = simp map-id at (map-range_with_len_more (λ k. k) 0 n n (omega arith))

-- the numbers of a range ascend
range_ascends : (n : ℕ) → IsStrictlyIncreasing (range_with_len 0 n)
range_ascends n k below =
    let next : k + 1 < n = omega (arith, below, length-range_with_len 0 n) in
    omega (arith, get_or-range_with_len 0 n k 0 (omega arith), get_or-range_with_len 0 n (k + 1) 0 next)

-- below 0 there is no number
pub listed_below_none : (parts : List Interval) → listed_below 0 parts ≡ []
unfolding listed_below
listed_below_none parts = refl

-- a number that the parts hold stands at the end
pub listed_below_holds : (n : ℕ) (parts : List Interval) → is_listed parts n ≡ true → listed_below (n + 1) parts ≡ listed_below n parts ++ n ∷ []
unfolding listed_below
listed_below_holds n parts holds = simp (range_more, filter-append, holds) refl

-- a number that they do not hold adds nothing
pub listed_below_skips : (n : ℕ) (parts : List Interval) → is_listed parts n ≡ false → listed_below (n + 1) parts ≡ listed_below n parts
unfolding listed_below
listed_below_skips n parts skips = simp (range_more, filter-append, skips, append-nil) refl

-- the numbers ascend, each once
pub listed_below_ascends : (n : ℕ) (parts : List Interval) → IsStrictlyIncreasing (listed_below n parts)
unfolding listed_below
listed_below_ascends n parts = IsStrictlyIncreasing-filter (is_listed parts) (range_with_len 0 n) (range_ascends n)

-- the bits of the numbers below a limit that the parts hold
abbrev bits_below : ℕ → List Interval → ℕ
bits_below n parts = sum_by (λ k. 2 ^ k) (listed_below n parts)

-- a number that the parts hold adds its bit, above those that are set
pub bits_hold : (bits n : ℕ) (parts : List Interval) → n < 16 → is_listed parts n ≡ true → bits ≡ bits_below n parts → bits < 2 ^ n →
    (bits + 1 * 2 ^ n % 65536 ≡ bits_below (n + 1) parts) × (bits + 1 * 2 ^ n % 65536 < 2 ^ (n + 1))
bits_hold bits n parts small holds is below =
    let fits : 2 ^ n < 65536 = pow-lt small in
    let bit : 1 * 2 ^ n % 65536 ≡ 2 ^ n = ap (λ m. m % 65536) (one-mul (2 ^ n)) ∙ mod-eq_of_lt fits in
    let double : 2 ^ (n + 1) ≡ 2 ^ n * 2 = ap (λ m. 2 ^ m) (add-one n) ∙ pow-suc 2 n in
    let total : bits_below (n + 1) parts ≡ bits_below n parts + (0 + 2 ^ n) =
    ap (sum_by (λ k. 2 ^ k)) (listed_below_holds n parts holds) ∙ sum_by-append (λ k. 2 ^ k) (listed_below n parts) (n ∷ []) in
    (omega arith, omega arith)

-- a number that they do not hold adds none
pub bits_skip : (bits n : ℕ) (parts : List Interval) → is_listed parts n ≡ false → bits ≡ bits_below n parts → bits < 2 ^ n →
    (bits ≡ bits_below (n + 1) parts) × (bits < 2 ^ (n + 1))
bits_skip bits n parts skips is below =
    let double : 2 ^ (n + 1) ≡ 2 ^ n * 2 = ap (λ m. 2 ^ m) (add-one n) ∙ pow-suc 2 n in
    (is ∙ sym (ap (sum_by (λ k. 2 ^ k)) (listed_below_skips n parts skips)), omega arith)
