-- The numbers that the parts of a list hold, by how far the parts reach from each.
use Rattle.std.proofs.Common.{◌≡◌, ℕ, ◌+◌, max, ltb, leb, Bool, true, false, ◌&&◌, ◌||◌, List, [], ◌∷◌, refl, arith}
use Rattle.std.specs.List.{list_any}
use Rattle.std.proofs.lemmas.Bool.Decides.{nat_tests}
use Rattle.cd_hints.specs.declared.settings.interval.Interval.{Interval}
use Rattle.cd_hints.specs.Listing.{is_listed}
use Rattle.cd_hints.specs.Reaches.{reaches_from}

-- a part begins below a number and does not end below another
abbrev pub reaches_from_below : ℕ → ℕ → Interval → Bool
reaches_from_below start n part = ltb part.least start && leb n part.most

-- some part passes one of two tests
any_of_two : (p q r : Interval → Bool) → ((part : Interval) → (p part || q part) ≡ r part) → (parts : List Interval) →
    (list_any p parts || list_any q parts) ≡ list_any r parts
any_of_two p q r each [] = refl
any_of_two p q r each (part ∷ parts) =
    rw (← each part, ← any_of_two p q r each parts) (by (p part) (q part) (list_any p parts) (list_any q parts))
  where
    by : (a b c d : Bool) → ((a || c) || (b || d)) ≡ ((a || b) || (c || d))
    by true b c d = refl
    by false true true d = refl
    by false true false d = refl
    by false false c d = refl

-- below 0 no part begins
pub none_below : (n : ℕ) (parts : List Interval) → ltb n 0 ≡ list_any (reaches_from_below 0 n) parts
none_below n [] = grind (arith, nat_tests)
none_below n (part ∷ parts) = rw (← none_below n parts) (grind (arith, nat_tests))

-- what the parts from one more number on reach
pub more_below : (start n : ℕ) (parts : List Interval) → (list_any (reaches_from_below start n) parts || list_any (reaches_from start n) parts) ≡ list_any (reaches_from_below (start + 1) n) parts
more_below start n parts = any_of_two (reaches_from_below start n) (reaches_from start n) (reaches_from_below (start + 1) n) (λ part. grind (arith, nat_tests)) parts

-- a number is listed where a part that begins at it or below reaches it
pub listed_is : (n : ℕ) (parts : List Interval) → list_any (reaches_from_below (n + 1) n) parts ≡ is_listed parts n
listed_is n [] = refl
listed_is n (part ∷ parts) = rw (listed_is n parts) (grind (arith, nat_tests))

-- a number below the greater of two
pub max_tells : (n a b : ℕ) → ltb n (max a b) ≡ (ltb n a || ltb n b)
max_tells n a b = grind (arith, nat_tests)
