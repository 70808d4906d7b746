-- Doubly linked lists of slots.
use Rattle.std.specs.Prelude.{◌≡◌, ℕ, ◌<◌, if◌then◌else◌, eqb, List, [], ◌∷◌, Option, Some, None}
use Rattle.cd_chain.specs.declared.link.Link.{Link}
use Rattle.cd_chain.specs.Cells.{walk}

-- the slots but this one
abbrev pub without : ℕ → List ℕ → List ℕ
without s [] = []
without s (t ∷ ss) = if eqb s t then without s ss else t ∷ without s ss

-- Of slots that are linked as `at` says, each below n: these form the list k, behind b, from f to l. So the list can be
-- walked from f by `after`, and from l by `before`.
abbrev pub IsChain : (ℕ → Link) → ℕ → ℕ → Option ℕ → List ℕ → Option ℕ → Option ℕ → Type 0
IsChain at n k b [] f l = (f ≡ None) × (l ≡ b)
IsChain at n k b (s ∷ ss) f l =
    (f ≡ Some s) × (s < n) × ((at s).list ≡ Some k) × ((at s).before ≡ b) × IsChain at n k (Some s) ss (at s).after l

-- at most this many slots from this one on, each after the one before
abbrev pub walked_on : (ℕ → Link) → ℕ → Option ℕ → List ℕ
walked_on at n o = walk (λ s. (at s).after) n o

-- what a pointer becomes when s goes, of which the neighbour on that side is next
abbrev pub past : Option ℕ → ℕ → Option ℕ → Option ℕ
past next s None = None
past next s (Some t) = if eqb s t then next else Some t

-- what a pointer forwards becomes when s comes last
abbrev pub or_else : ℕ → Option ℕ → Option ℕ
or_else s None = Some s
or_else s (Some t) = Some t
