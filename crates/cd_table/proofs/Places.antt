-- A value keeps its place as a table grows, and different values have different places.
use Rattle.std.proofs.Common.{◌≡◌, ℕ, ◌+◌, Bool, true, false, not, cond, ◌||◌, List, [], ◌∷◌, ◌++◌, fold, nat_eq, Decides, refl, ap, sym, ◌∙◌, arith, if◌then◌else◌}
use Rattle.std.specs.List.{list_any, position_or_len}
use Rattle.std.proofs.lemmas.List.Sums.{prefix_len-le-length}
use Rattle.std.proofs.lemmas.Bool.Decides.{nat_tests}
use Rattle.cd_block.specs.Tables.{index_in}
use Rattle.cd_table.specs.Interning.{put}
use Rattle.cd_table.proofs.Distinct.{same-sym}

-- the index of a value is its place
pub index_is_place : {T : Type 0} (same : T → T → Bool) (table : List T) (x : T) → index_in same table x ≡ position_or_len (same x) table
index_is_place same table x = grind (arith, prefix_len-le-length (λ w. not (same x w)) table)

-- a value that a longer table has stands where it stood or would have been put
place_push : {T : Type 0} (p : T → Bool) (xs : List T) (y : T) → list_any p (xs ++ y ∷ []) ≡ true → position_or_len p (xs ++ y ∷ []) ≡ position_or_len p xs
place_push p [] y h = grind arith
place_push p (x ∷ xs) y h = grind (arith, place_push p xs y)

-- what a table has, it has when it is longer
any_push : {T : Type 0} (p : T → Bool) (xs : List T) (y : T) → list_any p xs ≡ true → list_any p (xs ++ y ∷ []) ≡ true
any_push p [] y h = grind arith
any_push p (x ∷ xs) y h = grind (arith, any_push p xs y)

-- what is put is there
any_own : {T : Type 0} (p : T → Bool) (xs : List T) (y : T) → p y ≡ true → list_any p (xs ++ y ∷ []) ≡ true
any_own p [] y h = grind arith
any_own p (x ∷ xs) y h = grind (arith, any_own p xs y h)

-- a value that a table has after a value was put stands where it stood or would have been put
place_put : {T : Type 0} (same : T → T → Bool) (p : T → Bool) (xs : List T) (x : T) → list_any p (put same xs x) ≡ true → position_or_len p (put same xs x) ≡ position_or_len p xs
place_put same p xs x =
    elim (list_any (same x) xs) as (λ b. list_any p (if b then xs else xs ++ x ∷ []) ≡ true → position_or_len p (if b then xs else xs ++ x ∷ []) ≡ position_or_len p xs) [
      | true ↦ λ _. refl
      | false ↦ place_push p xs x
    ]

-- what a table has, it has after a value was put
any_put : {T : Type 0} (same : T → T → Bool) (p : T → Bool) (xs : List T) (x : T) → list_any p xs ≡ true → list_any p (put same xs x) ≡ true
any_put same p xs x h =
    elim (list_any (same x) xs) as (λ b. list_any p (if b then xs else xs ++ x ∷ []) ≡ true) [ true ↦ h | false ↦ any_push p xs x h ]

-- a value that was put is there
any_put_own : {T : Type 0} (same : T → T → Bool) (xs : List T) (x : T) → same x x ≡ true → list_any (same x) (put same xs x) ≡ true
any_put_own same xs x itself =
    let P : Bool → Type 0 = λ b. list_any (same x) xs ≡ b → list_any (same x) (if b then xs else xs ++ x ∷ []) ≡ true in
    let cases : (b : Bool) → P b = λ b. elim b as P [ true ↦ λ h. h | false ↦ λ _. any_own (same x) xs x itself ] in
    cases (list_any (same x) xs) refl

-- what a table has, it has after many values were put
any_fold : {T : Type 0} (same : T → T → Bool) (p : T → Bool) (xs ys : List T) → list_any p xs ≡ true → list_any p (fold (put same) xs ys) ≡ true
any_fold same p xs [] h = h
any_fold same p xs (y ∷ ys) h = any_fold same p (put same xs y) ys (any_put same p xs y h)

-- a value keeps its place as many values are put
place_fold : {T : Type 0} (same : T → T → Bool) (p : T → Bool) (xs ys : List T) → list_any p xs ≡ true → position_or_len p (fold (put same) xs ys) ≡ position_or_len p xs
place_fold same p xs [] h = refl
place_fold same p xs (y ∷ ys) h =
    let more = any_put same p xs y h in
    place_fold same p (put same xs y) ys more ∙ place_put same p xs y more

-- where a value is put, it stands in the table at the end
pub place_stays : {T : Type 0} (same : T → T → Bool) (xs ys : List T) (x : T) → same x x ≡ true → position_or_len (same x) (fold (put same) (put same xs x) ys) ≡ position_or_len (same x) xs
place_stays same xs ys x itself =
    let own = any_put_own same xs x itself in
    place_fold same (same x) (put same xs x) ys own ∙ place_put same (same x) xs x own

-- a value that was put is in the table at the end
pub any_stays : {T : Type 0} (same : T → T → Bool) (xs ys : List T) (x : T) → same x x ≡ true → list_any (same x) (fold (put same) (put same xs x) ys) ≡ true
any_stays same xs ys x itself = any_fold same (same x) (put same xs x) ys (any_put_own same xs x itself)

-- the first place is no later one
zero_later : (n : ℕ) → nat_eq 0 (1 + n) ≡ false
zero_later n = grind (arith, nat_tests)

later_zero : (n : ℕ) → nat_eq (1 + n) 0 ≡ false
later_zero n = grind (arith, nat_tests)

-- later places are equal where the places before them are
both_later : (m n : ℕ) → nat_eq (1 + m) (1 + n) ≡ nat_eq m n
both_later m n = grind (arith, nat_tests)

-- where neither value is the first one, their places are equal where those among the others are
places_from : {T : Type 0} (same : T → T → Bool) → ((a b : T) → Decides (same a b) (a ≡ b)) → (x : T) (xs : List T) (a b : T) → ((list_any (same a) xs ≡ true) → (list_any (same b) xs ≡ true) → nat_eq (position_or_len (same a) xs) (position_or_len (same b) xs) ≡ same a b) → (p q : Bool) → same a x ≡ p → same b x ≡ q → (p || list_any (same a) xs) ≡ true → (q || list_any (same b) xs) ≡ true → nat_eq (cond (not p) (1 + position_or_len (same a) xs) 0) (cond (not q) (1 + position_or_len (same b) xs) 0) ≡ same a b
places_from same decides x xs a b others true true e f h k =
    let ax = (decides a x).0 e in
    let bx = (decides b x).0 f in
    sym ((decides a b).1 (ax ∙ sym bx))
places_from same decides x xs a b others true false e f h k =
    let ax = (decides a x).0 e in
    zero_later (position_or_len (same b) xs) ∙ sym (ap (λ y. same y b) ax ∙ same-sym same decides x b ∙ f)
places_from same decides x xs a b others false true e f h k =
    let bx = (decides b x).0 f in
    later_zero (position_or_len (same a) xs) ∙ sym (ap (λ y. same a y) bx ∙ e)
places_from same decides x xs a b others false false e f h k =
    both_later (position_or_len (same a) xs) (position_or_len (same b) xs) ∙ others h k

-- two values of a table have one place where they are equal
pub same_places : {T : Type 0} (same : T → T → Bool) → ((a b : T) → Decides (same a b) (a ≡ b)) → (xs : List T) (a b : T) → list_any (same a) xs ≡ true → list_any (same b) xs ≡ true → nat_eq (position_or_len (same a) xs) (position_or_len (same b) xs) ≡ same a b
same_places same decides [] a b h k = absurd cc
same_places same decides (x ∷ xs) a b h k =
    places_from same decides x xs a b (same_places same decides xs a b) (same a x) (same b x) refl refl h k
