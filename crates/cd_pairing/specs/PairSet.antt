-- The same matching as a set of pairs.
use Rattle.std.specs.Prelude.{◌≡◌, ℕ, ◌<◌, Bool, false, ◌||◌, ◌&&◌, nat_eq, nat_lt, List, Option, Some, None, IsTrue}
use Rattle.cd_pairing.specs.Matching.{partner, IsMatching}

-- whether these two positions stand together, in either order
abbrev pub stand_together : (ℕ → ℕ → Bool) → ℕ → ℕ → Bool
stand_together pairs i j = pairs i j || pairs j i

-- a set of compatible pairs, the earlier position first, with no position in two and no blocking pair
pub record IsPairSet (together : ℕ → ℕ → Bool) (count : ℕ) (pairs : ℕ → ℕ → Bool) : Type 0 where
  pub inside : (i j : ℕ) → IsTrue (pairs i j) → (i < j) × (j < count)
  pub compatible : (i j : ℕ) → IsTrue (pairs i j) → IsTrue (together i j)
  pub once : (i j k : ℕ) → IsTrue (stand_together pairs i j) → IsTrue (stand_together pairs i k) → j ≡ k
  pub stable : (i j : ℕ) → i < j → j < count → IsTrue (together i j) → pairs i j ≡ false →
      ((k : ℕ) → IsTrue (stand_together pairs i k) → j < k) → ((k : ℕ) → IsTrue (stand_together pairs j k) → i < k) → ⊥

-- whether this is the partner
abbrev pub is_partner : Option ℕ → ℕ → Bool
is_partner None j = false
is_partner (Some k) j = nat_eq k j

-- the pairs of a list of partners, the earlier position first
abbrev pub pairs_of : List (Option ℕ) → ℕ → ℕ → Bool
pairs_of partners i j = nat_lt i j && is_partner (partner partners i) j

-- the pairs of these partners are a set without a blocking pair, and every such set is that one
pub record HasTheOneSet (together : ℕ → ℕ → Bool) (count : ℕ) (partners : List (Option ℕ)) : Type 0 where
  pub holds : IsPairSet together count (pairs_of partners)
  pub same : (pairs : ℕ → ℕ → Bool) → IsPairSet together count pairs → (i j : ℕ) → pairs i j ≡ pairs_of partners i j

-- the pairs of a matching are the one set without a blocking pair
abbrev pub MatchingsAreSets : Type 0
MatchingsAreSets = (together : ℕ → ℕ → Bool) (count : ℕ) (partners : List (Option ℕ)) →
    IsMatching together count partners → HasTheOneSet together count partners
