-- Ascending numbers.
use Rattle.std.proofs.Common.{◌≡◌, ℕ, nat_lt, Bool, true, false, IsTrue, List, refl, sym, arith}
use Rattle.std.proofs.lemmas.Bool.{ltb-true}
use Rattle.std.specs.List.{IsAllAdjacentAnswer}
use Rattle.std.specs.List.Sorted.{IsStrictlyIncreasing}

-- an answer on each number and the next says whether the numbers ascend
pub ascends_decided : (xs : List ℕ) (r : Bool) → IsAllAdjacentAnswer (λ x y b. b ≡ nat_lt x y) xs r →
    (IsTrue r → IsStrictlyIncreasing xs) × (IsStrictlyIncreasing xs → IsTrue r)
ascends_decided xs true h = ((λ _ k l. ltb-true _ _ (sym (h k 0 l))), λ _. refl)
ascends_decided xs false h = ((λ t. absurd (cc)), λ up. absurd (grind (arith, up h.0 h.1, h.2 0)))
