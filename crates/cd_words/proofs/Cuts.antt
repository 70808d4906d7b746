-- A list that is cut at the first element that passes a test.
use Rattle.std.proofs.Common.{◌≡◌, ℕ, ◌<◌, ◌≤◌, ltb, Bool, true, false, cond, List, length, Some, None, refl, arith}
use Rattle.std.specs.List.{All, position, position_or_len, list_any}
use Rattle.std.proofs.lemmas.Bool.{ltb-true, ltb-false}
use Rattle.std.proofs.lemmas.List.Elements.{All-from_get_or}
use Rattle.std.proofs.lemmas.List.Recursion.{or_at}
use Rattle.std.proofs.lemmas.List.Sums.{fails_before_first, passes_at_first}

-- the first place is there
pub found_place : {X : Type 0} (p : X → Bool) (xs : List X) (i : ℕ) → Some i ≡ position p xs → (position_or_len p xs ≡ i) × (i < length xs)
found_place {X} p xs i h = by (ltb (position_or_len p xs) (length xs)) refl h
  where
    by : (b : Bool) → ltb (position_or_len p xs) (length xs) ≡ b → Some i ≡ cond b (Some (position_or_len p xs)) None → (position_or_len p xs ≡ i) × (i < length xs)
    by true e h = let same : position_or_len p xs ≡ i = cc in (same, omega (arith, same, ltb-true _ _ e))
    by false e h = absurd (cc)

-- no element passes
pub no_place : {X : Type 0} (p : X → Bool) (xs : List X) → None ≡ position p xs → length xs ≤ position_or_len p xs
no_place {X} p xs h = by (ltb (position_or_len p xs) (length xs)) refl h
  where
    by : (b : Bool) → ltb (position_or_len p xs) (length xs) ≡ b → None ≡ cond b (Some (position_or_len p xs)) None → length xs ≤ position_or_len p xs
    by true e h = absurd (cc)
    by false e h = ltb-false _ _ e

-- no element before the first place passes
pub none_passes : {X : Type 0} (p : X → Bool) (xs : List X) (d : X) → length xs ≤ position_or_len p xs → All (λ x. p x ≡ false) xs
none_passes p xs d h = All-from_get_or (λ x. p x ≡ false) xs d (λ i below. fails_before_first p xs i d (omega arith))

-- where one passes, some does
pub some_passes : {X : Type 0} (p : X → Bool) (xs : List X) (d : X) → position_or_len p xs < length xs → list_any p xs ≡ true
some_passes p xs d h = or_at (list_any p) p refl (λ _ _. refl) xs (position_or_len p xs) d h (passes_at_first p xs d h)
