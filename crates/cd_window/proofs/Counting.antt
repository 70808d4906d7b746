-- Sums over what is held, as events come and go.
use Rattle.std.proofs.Common.{◌≡◌, ℕ, ◌+◌, ◌<◌, ◌≢◌, List, [], ◌∷◌, ◌++◌, length, drop, set, get_or, Option, Some, None, ap, ◌∙◌, arith, length-set}
use Rattle.std.specs.List.{sum_by}
use Rattle.std.proofs.lemmas.List.{get_or-set_other}
use Rattle.std.proofs.lemmas.List.Sums.{sum_by-cons, sum_by-set, sum_by_push}
use Rattle.cd_window.specs.declared.held.Held.{Held}

-- without its first place a list has what is left of the sum
pub front_gone : {X : Type 0} (g : X → ℕ) (xs : List X) (d : X) → 0 < length xs → sum_by g (drop 1 xs) + g (get_or xs 0 d) ≡ sum_by g xs
front_gone g [] d lt = absurd (omega arith)
front_gone g (x ∷ xs) d lt = omega (arith, sum_by-cons g x xs)

-- a front that is popped alone goes from the one sum to the other
pub one_gone : {E R : Type 0} (g : Option (Held E) → ℕ) (f : R → ℕ) (hs : List (Option (Held E))) (h : Held E) (popped : List R) (r : R) (n : ℕ) →
    0 < length hs → get_or hs 0 None ≡ Some h → g (Some h) ≡ f r → sum_by g hs + sum_by f popped ≡ n → sum_by g (drop 1 hs) + sum_by f (popped ++ r ∷ []) ≡ n
one_gone {E} {R} g f hs h popped r n lt here same was =
    let a = front_gone g hs None lt in
    let b : g (get_or hs 0 None) ≡ g (Some h) = ap g here in
    let c = sum_by_push f popped r in
    omega arith

-- so does a front with its partner
pub pair_gone : {E R : Type 0} (g : Option (Held E) → ℕ) (f : R → ℕ) (hs : List (Option (Held E))) (h other : Held E) (place : ℕ) (popped : List R) (r : R) (n : ℕ) →
    0 < length hs → place < length hs → 0 ≢ place → get_or hs 0 None ≡ Some h → get_or hs place None ≡ Some other → g None ≡ 0 → g (Some h) + g (Some other) ≡ f r →
    sum_by g hs + sum_by f popped ≡ n → sum_by g (drop 1 (set hs place None)) + sum_by f (popped ++ r ∷ []) ≡ n
pair_gone {E} {R} g f hs h other place popped r n lt inside apart here there empty same was =
    let rest : List (Option (Held E)) = set hs place None in
    let s = sum_by-set g hs place None None inside in
    let a = front_gone g rest None (let l = length-set hs place None in omega arith) in
    let b : g (get_or rest 0 None) ≡ g (Some h) = ap g (get_or-set_other hs place 0 None None apart ∙ here) in
    let d : g (get_or hs place None) ≡ g (Some other) = ap g there in
    let c = sum_by_push f popped r in
    omega arith

-- an empty front is nothing in a sum
pub nothing_gone : {E : Type 0} (g : Option (Held E) → ℕ) (hs : List (Option (Held E))) → 0 < length hs → get_or hs 0 None ≡ None → g None ≡ 0 → sum_by g (drop 1 hs) ≡ sum_by g hs
nothing_gone g hs lt here empty =
    let a = front_gone g hs None lt in
    let b : g (get_or hs 0 None) ≡ g None = ap g here in
    omega arith

-- with another value of the same number at a place the sum is the same
pub same_sum : {X : Type 0} (g : X → ℕ) (xs : List X) (i : ℕ) (y d : X) → i < length xs → g y ≡ g (get_or xs i d) → sum_by g (set xs i y) ≡ sum_by g xs
same_sum g xs i y d lt same = let a = sum_by-set g xs i y d lt in omega arith
