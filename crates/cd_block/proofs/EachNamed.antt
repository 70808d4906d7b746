-- What holds of each of some values, as a loop sees it.
use Rattle.std.proofs.Common.{ℕ, zero, suc, ◌+◌, ◌<◌, ◌≤◌, ◌≡◌, List, [], ◌∷◌, length, take, get_or, add-one, subst, arith}
use Rattle.std.specs.List.{AllByRecursion}
use Rattle.std.proofs.lemmas.List.{take_all}

-- one more value of which it holds
one_more : {T : Type 0} (P : T → Type 0) (xs : List T) (i : ℕ) (d : T) → i < length xs → P (get_or xs i d) → AllByRecursion P (take i xs) → AllByRecursion P (take (suc i) xs)
one_more P [] i d within here all = absurd (omega arith)
one_more P (x ∷ xs) zero d within here all = (here, tt)
one_more P (x ∷ xs) (suc i) d within here all = (all.0, one_more P xs i d (omega arith) here all.1)

-- the same, of the value that the loop took and at its next index
pub all_more : {T : Type 0} (P : T → Type 0) (xs : List T) (i : ℕ) (x : T) → i < length xs → x ≡ get_or xs i x → P x → AllByRecursion P (take i xs) → AllByRecursion P (take (i + 1) xs)
all_more P xs i x within is here all = rw add-one (one_more P xs i x within (subst P is here) all)

-- after the last value
pub all_end : {T : Type 0} (P : T → Type 0) (xs : List T) (i : ℕ) → length xs ≤ i → AllByRecursion P (take i xs) → AllByRecursion P xs
all_end P xs i past all = let whole : take i xs ≡ xs = take_all i xs past in rw whole at all
