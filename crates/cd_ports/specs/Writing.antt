-- What a sink means, and what one call of `write` answers.
use Rattle.std.specs.Prelude.{◌≡◌, ℕ, ◌≤◌, Bool, true, false, List, ◌++◌, take, MatchResult, IsErrOf, is_err, ◌||◌, ⊤}
use Rattle.std.specs.Io.KnownBytes.{Appends}
use Rattle.std.specs.declared.option.Option.{Option}
use Rattle.std.specs.declared.option.Option.TheVariants.{None, Some}
use Rattle.std.specs.declared.result.Result.{Result}
use Rattle.std.specs.declared.result.Result.TheVariants.{Ok, Err}
use Rattle.cd_ports.specs.declared.sink.SinkFault.{SinkFault}
use Rattle.cd_ports.specs.declared.sink.SinkFault.TheVariants.{Failed, NoMemory}
use Rattle.cd_ports.specs.Counter.{Rose}

-- what a sink means
pub record SinkMeaning : Type 0 where
  -- the bytes that it holds, where the sink tells them
  pub contents : Option (List ℕ)
  -- a count of faults, which never falls and rises at each failure
  pub faults : ℕ
  -- some call failed
  pub failed : Bool
  -- some call failed or found no memory
  pub refused : Bool

-- known contents grow by a prefix of these bytes
abbrev pub AppendsPrefix : Option (List ℕ) → Option (List ℕ) → List ℕ → Type 0
AppendsPrefix None new bs = ⊤
AppendsPrefix (Some xs) None bs = ⊥
AppendsPrefix (Some xs) (Some ys) bs = (n : ℕ) × (ys ≡ xs ++ take n bs)

-- the whole piece at `Ok`, a prefix of it otherwise
abbrev pub WritesPiece : Option (List ℕ) → Option (List ℕ) → {T : Type 0} → Result T SinkFault → List ℕ → Type 0
WritesPiece old new r piece = MatchResult r (λ _. Appends old new piece) (λ _. AppendsPrefix old new piece)

-- the answer is a failure, and no want of memory
abbrev pub is_failure : {T : Type 0} → Result T SinkFault → Bool
is_failure (Ok x) = false
is_failure (Err Failed) = true
is_failure (Err NoMemory) = false

-- the count doesn't fall, and a failure raises it
pub record SinkCause {T : Type 0} (before now : ℕ) (result : Result T SinkFault) : Type 0 where
  pub later : before ≤ now
  pub failed : IsErrOf result Failed → Rose before now

-- one write of a piece, in one call or in several
pub record WriteStep {T : Type 0} (old new : SinkMeaning) (result : Result T SinkFault) (piece : List ℕ) : Type 0 where
  pub bytes : WritesPiece old.contents new.contents result piece
  pub cause : SinkCause old.faults new.faults result
  pub failed : new.failed ≡ (old.failed || is_failure result)
  pub refused : new.refused ≡ (old.refused || is_err result)

-- Bytes that are written in some writes, between which memory may run out.
pub record OutputStep {T : Type 0} (old new : SinkMeaning) (result : Result T SinkFault) (output : List ℕ) : Type 0 where
  pub bytes : WritesPiece old.contents new.contents result output
  pub cause : SinkCause old.faults new.faults result
  pub failed : new.failed ≡ (old.failed || is_failure result)
  -- a sink that refuses a write stops the output
  pub refused : old.refused ≡ false → new.refused ≡ true → is_err result ≡ true
