-- What a machine makes of the bytes that it is fed.
use Rattle.std.specs.Prelude.{◌≡◌, ℕ, List, [], ◌++◌, Option, None}

-- What is made of bytes. It is the same however they are cut into chunks.
pub record Behavior (R C : Type 0) : Type 0 where
  -- what they are refused for, where they are, whatever follows them
  pub refusal : List ℕ → Option R
  -- what they are refused for where nothing follows them
  pub at_end : List ℕ → Option R
  -- the output that is due once they were fed, whatever follows them
  pub ready : List ℕ → List ℕ
  -- all output of them, where nothing follows them
  pub whole : List ℕ → List ℕ
  -- what is counted in them
  pub counts : List ℕ → C

-- which histories a machine stands for, by all bytes fed and all output that was cleared
abbrev pub Histories : Type 1
Histories = List ℕ → List ℕ → Type 0

-- the first is a front of the second
abbrev pub IsFront : List ℕ → List ℕ → Type 0
IsFront front bytes = (rest : List ℕ) × (bytes ≡ front ++ rest)

-- Output that is due stays due and is a front of all output, and bytes that are refused are refused whatever
-- follows them.
pub record IsLawful {R C : Type 0} (b : Behavior R C) : Type 0 where
  -- What is due only grows.
  pub grows : (xs ys : List ℕ) → IsFront (b.ready xs) (b.ready (xs ++ ys))
  -- What is due is a front of all.
  pub within : (xs : List ℕ) → IsFront (b.ready xs) (b.whole xs)
  -- Bytes with a front that is refused are refused.
  pub stays : (xs ys : List ℕ) → b.refusal (xs ++ ys) ≡ None → b.refusal xs ≡ None
  -- Nothing is not refused.
  pub begins : b.refusal [] ≡ None
