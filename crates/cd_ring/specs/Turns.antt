-- The answers of the coordinator's calls in turn, and what they say of jobs and results.
use Rattle.std.specs.Prelude.{◌≡◌, ℕ, List, [], ◌∷◌, ◌++◌, length, drop}
use mathlib.Core.Option.{some}
use lib.ListN.{get_elem?}

-- A job was posted, or a result was taken
pub data Turn (J D : Type 0) : Type 0 where
  posted : J → Turn J D
  took : D → Turn J D

-- the jobs posted, the first one first
abbrev pub jobs_of : {J D : Type 0} → List (Turn J D) → List J
jobs_of [] = []
jobs_of (posted x ∷ turns) = x ∷ jobs_of turns
jobs_of (took d ∷ turns) = jobs_of turns

-- the results taken, the first one first
abbrev pub results_of : {J D : Type 0} → List (Turn J D) → List D
results_of [] = []
results_of (posted x ∷ turns) = results_of turns
results_of (took d ∷ turns) = d ∷ results_of turns

module _ {J D : Type 0} (meets : J → D → Type 0) where
  -- the jobs out before and after these turns, as the clauses of `post` and `take` say of each
  abbrev pub Leaves : List J → List (Turn J D) → List J → Type 0
  Leaves out [] left = left ≡ out
  Leaves out (posted x ∷ turns) left = Leaves (out ++ x ∷ []) turns left
  Leaves out (took d ∷ turns) left = (x : J) × (xs : List J) × (out ≡ x ∷ xs) × meets x d × Leaves xs turns left

  -- the result taken n-th meets the job posted n-th, and the jobs out are those of which no result was taken
  abbrev pub InOrder : List (Turn J D) → List J → Type 0
  InOrder turns left = ((n : ℕ) (d : D) → get_elem? (results_of turns) n ≡ some d
      → (x : J) × (get_elem? (jobs_of turns) n ≡ some x) × meets x d)
      × (left ≡ drop (length (results_of turns)) (jobs_of turns))
