-- Places one by one: what a read and a write of one place say of the list.
use Rattle.std.proofs.Common.{◌≡◌, ℕ, zero, suc, ◌<◌, ◌≤◌, List, [], ◌∷◌, length, set, get_or, Option, None, refl, ap, sym, ◌∙◌}
use Rattle.std.proofs.lemmas.List.{get_or_default, get_or_past}

-- what an index within the list gives
pub item_at : {X : Type 0} (xs : List (Option X)) (k : ℕ) (x : Option X) → x ≡ get_or xs k x → k < length xs → get_or xs k None ≡ x
item_at xs k x e lt = get_or_default xs k None x lt ∙ sym e

-- past the end nothing is held
pub nothing_at : {X : Type 0} (xs : List (Option X)) (k : ℕ) → length xs ≤ k → get_or xs k None ≡ None
nothing_at xs k le = get_or_past xs k None le

-- a place that is written twice has the second value
pub set_again : {X : Type 0} (xs : List X) (k : ℕ) (x y : X) → set (set xs k x) k y ≡ set xs k y
set_again [] zero x y = refl
set_again [] (suc k) x y = refl
set_again (z ∷ xs) zero x y = refl
set_again {X = X} (z ∷ xs) (suc k) x y = ap (λ (t : List X). z ∷ t) (set_again xs k x y)
