-- Reading bytes from the front of a slice.
use Rattle.std.specs.Prelude.{◌≡◌, ℕ, ◌+◌, ◌<◌, ◌≤◌, List, length, drop}

-- what a cursor is at: how many bytes it took, and the bytes that are left
pub record Reading : Type 0 where
  pub taken : ℕ
  pub rest : List ℕ

-- at the front of some bytes
abbrev pub fresh : List ℕ → Reading
fresh bytes = record { taken = 0; rest = bytes }

-- The next `count` bytes are there, and are taken.
pub record Takes (old new : Reading) (count : ℕ) : Type 0 where
  pub enough : count ≤ length old.rest
  pub taken : new.taken ≡ old.taken + count
  pub rest : new.rest ≡ drop count old.rest

-- Fewer than `count` bytes are left, and none is taken.
pub record IsShort (old new : Reading) (count : ℕ) : Type 0 where
  pub few : length old.rest < count
  pub unchanged : new ≡ old
