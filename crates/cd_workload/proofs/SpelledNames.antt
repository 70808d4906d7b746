-- The names that are asked for are names, and short.
use Rattle.std.proofs.Common.{◌≡◌, ℕ, ◌+◌, ◌%◌, ◌≤◌, List, [], ◌∷◌, ◌++◌, codes, length, refl, ap, arith, append_assoc, length-append}
use Rattle.std.specs.Fmt.{decimal}
use Rattle.std.proofs.lemmas.Fmt.{length-decimal-le}
use Rattle.cd_name.specs.Names.{IsName}
use Rattle.cd_name.proofs.Spelled.{names_are_labels}
use Rattle.cd_workload.specs.Workload.{labels_with, name_with, name_of}

-- the number in a name has at most three digits
pub few_digits : (drawn : ℕ) → length (decimal (drawn % 1000)) ≤ 3
few_digits drawn = length-decimal-le 3 (drawn % 1000) (omega arith) (omega arith) (omega arith)

-- the domain and the root, after the first label
abbrev name_end : List ℕ
name_end = 7 ∷ 101 ∷ 120 ∷ 97 ∷ 109 ∷ 112 ∷ 108 ∷ 101 ∷ 0 ∷ []

-- the first label, with its length
abbrev first_label : List ℕ → List ℕ
first_label digits = length (104 ∷ digits) ∷ 104 ∷ digits

-- a name is its first label and its end
name_in_two : (digits : List ℕ) → name_with digits ≡ first_label digits ++ name_end
name_in_two digits = append_assoc (first_label digits) (7 ∷ codes "example" ++ []) (0 ∷ [])

-- how long a name is
name_long : (digits : List ℕ) → length (name_with digits) ≡ length digits + 11
name_long digits = omega (arith, ap length (name_in_two digits), length-append (first_label digits) name_end)

-- it is a name
pub name_is_name : (digits : List ℕ) → length digits ≤ 3 → IsName (name_with digits)
name_is_name digits few =
    (names_are_labels (name_with digits)).1 (
      labels_with digits,
      ((omega arith, omega (arith, few)), ((omega arith, omega arith), tt)),
      refl,
      omega (arith, few, name_long digits),
    )

-- the name of a lookup, by its digits
pub name_of-is : (drawn : ℕ) → name_with (decimal (drawn % 1000)) ≡ name_of drawn
unfolding name_of
name_of-is drawn = refl

-- it has at most 14 bytes
pub name_of-short : (drawn : ℕ) → length (name_of drawn) ≤ 14
unfolding name_of
name_of-short drawn = omega (arith, few_digits drawn, name_long (decimal (drawn % 1000)))
