-- Scaffolding, which only contracts of private functions cite: lists of slots, under numbers by key.
use Rattle.std.specs.Prelude.{◌≡◌, ℕ, Bool, true, false, List, [], Option, Some, IsSome}
use Rattle.std.specs.List.{filter}
use Rattle.cd_chain.specs.Cells.{is_in}

-- Numbers of lists by key: the list of a key is the filter of these slots by the key, each slot stands in one, and there
-- are no others.
pub record AreByKey {K : Type 0} (number : K → Option ℕ) (list : ℕ → Option (List ℕ)) (has : K → ℕ → Bool)
    (eq : K → K → Bool) (slots : List ℕ) : Type 0 where
  pub lists : (k : K) (j : ℕ) → number k ≡ Some j → list j ≡ Some (filter (has k) slots)
  pub known : (k : K) (s : ℕ) → is_in s slots ≡ true → has k s ≡ true → IsSome (number k)
  pub apart : (k l : K) (j : ℕ) → number k ≡ Some j → number l ≡ Some j → eq k l ≡ true
  pub named : (j : ℕ) → IsSome (list j) → (k : K) × (number k ≡ Some j)

-- no list of a key is empty, but for keys that pass a test
pub record AreFilled {K : Type 0} (number : K → Option ℕ) (list : ℕ → Option (List ℕ)) (but : K → Bool) : Type 0 where
  pub each : (k : K) (j : ℕ) → number k ≡ Some j → but k ≡ false → list j ≡ Some [] → ⊥
