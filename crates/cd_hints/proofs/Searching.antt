-- A number that a binary search does not find among ascending numbers is none of them.
use Rattle.std.proofs.Common.{◌≡◌, ℕ, ◌<◌, ◌≤◌, eqb, false, List, length, get_or, Err, arith, inl, inr}
use Rattle.std.proofs.lemmas.Bool.Decides.{nat_tests}
use Rattle.std.specs.List.{list_any}
use Rattle.std.specs.List.Sorted.{IsStrictlyIncreasing, IsBinarySearchResult}
use Rattle.std.specs.Ordering.{nat_cmp}
use Rattle.std.proofs.lemmas.Bool.{cases_lt}
use Rattle.std.proofs.lemmas.List.{get_or_default}
use Rattle.std.proofs.lemmas.List.Folds.{list_any_none}
use Rattle.std.proofs.lemmas.List.Kept.{AllPairs-from_increasing}
use Rattle.std.proofs.lemmas.List.Sorted.{searched}

-- each of some ascending numbers is at most each later one
never_falls : (xs : List ℕ) → IsStrictlyIncreasing xs → (i j : ℕ) → i ≤ j → j < length xs → get_or xs i 0 ≤ get_or xs j 0
never_falls xs up i j le within =
    elim (cases_lt i j) [
      | inl before ↦ (let below = AllPairs-from_increasing xs up i j 0 before within in omega arith)
      | inr after ↦ (let same : i ≡ j = omega arith in rw same (omega arith))
    ]

-- no number of an ascending list is the one that a binary search does not find
pub not_found : (xs : List ℕ) (x i : ℕ) → IsBinarySearchResult (λ y. nat_cmp y x) xs (Err i) → IsStrictlyIncreasing xs → list_any (λ t. eqb t x) xs ≡ false
not_found xs x i result up =
    let apart = searched xs x (Err i) result (never_falls xs up) in
    list_any_none (λ t. eqb t x) xs (λ k d within.
    let same : get_or xs k d ≡ get_or xs k 0 = get_or_default xs k d 0 within in
    elim (cases_lt k i) [
      | inl before ↦ (let below = apart.1 k before in grind (arith, nat_tests))
      | inr after ↦ (let above = apart.2 k after within in grind (arith, nat_tests))
    ])
