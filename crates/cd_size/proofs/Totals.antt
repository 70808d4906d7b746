-- Sums over lists, by recursion: of lists in turn, of what a filter keeps, and of a table's values.
use Rattle.std.proofs.Common.{◌≡◌, ℕ, ◌+◌, ◌≤◌, Bool, true, false, not, List, [], ◌∷◌, ◌++◌, map, refl, arith}
use Rattle.std.specs.Prelude.{if◌then◌else◌}
use Rattle.std.specs.List.{filter, flat_map, sum_by}
use Rattle.std.proofs.lemmas.List.Sums.{sum_by-cons}
use Rattle.cd_block.specs.Tables.{table_of}

-- the sum of a number of each value
abbrev pub total : {X : Type 0} → (X → ℕ) → List X → ℕ
total f [] = 0
total f (x ∷ xs) = f x + total f xs

-- it is the sum as std has it
pub sum_is_total : {X : Type 0} (f : X → ℕ) (xs : List X) → sum_by f xs ≡ total f xs
sum_is_total f [] = refl
sum_is_total f (x ∷ xs) = omega (arith, sum_by-cons f x xs, sum_is_total f xs)

-- lists in turn
pub total_append : {X : Type 0} (f : X → ℕ) (xs ys : List X) → total f (xs ++ ys) ≡ total f xs + total f ys
total_append f [] ys = omega arith
total_append f (x ∷ xs) ys = omega (arith, total_append f xs ys)

-- three lists in turn
pub total_three : {X : Type 0} (f : X → ℕ) (xs ys zs : List X) → total f (xs ++ ys ++ zs) ≡ total f xs + total f ys
    + total f zs
total_three f xs ys zs = omega (arith, total_append f (xs ++ ys) zs, total_append f xs ys)

-- four lists in turn
pub total_four : {X : Type 0} (f : X → ℕ) (xs ys zs vs : List X) →
    total f (xs ++ ys ++ zs ++ vs) ≡ total f xs + total f ys + total f zs + total f vs
total_four f xs ys zs vs = omega (arith, total_append f (xs ++ ys ++ zs) vs, total_three f xs ys zs)

-- five lists in turn
pub total_five : {X : Type 0} (f : X → ℕ) (xs ys zs vs ws : List X) →
    total f (xs ++ ys ++ zs ++ vs ++ ws) ≡ total f xs + total f ys + total f zs + total f vs + total f ws
total_five f xs ys zs vs ws = omega (arith, total_append f (xs ++ ys ++ zs ++ vs) ws, total_four f xs ys zs vs)

-- the lists of some values in turn
pub total_flat_map : {X Y : Type 0} (f : Y → ℕ) (g : X → List Y) (xs : List X) →
    total f (flat_map g xs) ≡ total (λ x. total f (g x)) xs
total_flat_map f g [] = refl
total_flat_map f g (x ∷ xs) = omega (arith, total_append f (g x) (flat_map g xs), total_flat_map f g xs)

-- values that are made of others
pub total_map : {X Y : Type 0} (f : Y → ℕ) (g : X → Y) (xs : List X) → total f (map g xs) ≡ total (λ x. f (g x)) xs
total_map f g [] = refl
total_map f g (x ∷ xs) = omega (arith, total_map f g xs)

-- a value that is kept or not
kept_or_not : {X : Type 0} (f : X → ℕ) (b : Bool) (x : X) (xs : List X) →
    total f (if b then x ∷ xs else xs) ≤ f x + total f xs
kept_or_not f true x xs = omega arith
kept_or_not f false x xs = omega arith

-- what a filter keeps
pub total_filter : {X : Type 0} (f : X → ℕ) (p : X → Bool) (xs : List X) → total f (filter p xs) ≤ total f xs
total_filter f p [] = omega arith
total_filter f p (x ∷ xs) = omega (arith, kept_or_not f (p x) x (filter p xs), total_filter f p xs)

-- the values of a table, each of which is used
pub total_table : {X : Type 0} (f : X → ℕ) (same : X → X → Bool) (xs : List X) → total f (table_of same xs) ≤ total f xs
total_table f same [] = omega arith
total_table f same (x ∷ xs) =
    omega (arith, total_filter f (λ w. not (same x w)) (table_of same xs), total_table f same xs)
