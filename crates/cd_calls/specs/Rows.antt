-- Three slots of a store that stand in one list of each lane.
use Rattle.std.specs.Prelude.{◌≡◌, ℕ, [], ◌∷◌, Some, IsSome}
use Rattle.cd_chain.specs.Contents.{Contents, value_at, list_at}

-- the second of three slots is used, and the list of each lane has the three in order
pub record HasRow (it : Contents ℕ) (first second third x y z : ℕ) : Type 0 where
  pub in_first : list_at it 0 first ≡ Some (x ∷ y ∷ z ∷ [])
  pub in_second : list_at it 1 second ≡ Some (x ∷ y ∷ z ∷ [])
  pub in_third : list_at it 2 third ≡ Some (x ∷ y ∷ z ∷ [])
  pub used : IsSome (value_at it y)
  pub apart : y ≡ z → ⊥
