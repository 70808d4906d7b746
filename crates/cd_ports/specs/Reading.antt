-- What a source means, and what one call of `read` answers.
use Rattle.std.specs.Prelude.{ℕ, ◌≤◌, Bool, false, ◌&&◌, nat_lt, nat_eq, List, length, OnErr}
use Rattle.std.specs.declared.option.Option.{Option}
use Rattle.std.specs.declared.result.Result.{Result}
use Rattle.std.specs.declared.result.Result.TheVariants.{Ok, Err}
use Rattle.cd_ports.specs.Counter.{Rose}

-- what a source means
pub record SourceMeaning : Type 0 where
  -- the bytes that are left, where the source tells them
  pub left : Option (List ℕ)
  -- a count of faults, which never falls and rises at each failure
  pub faults : ℕ
  -- the last call of `read` told the end
  pub ended : Bool
  -- some call failed
  pub failed : Bool
  -- how many calls of `read` there were
  pub calls : ℕ
  -- some byte was given after a failure
  pub late : Bool

-- `read` answered that nothing is left, for a buffer with room
abbrev pub tells_end : {E : Type 0} → Result ℕ E → List ℕ → Bool
tells_end (Ok n) buf = nat_eq n 0 && nat_lt 0 (length buf)
tells_end (Err e) buf = false

-- `read` gave a byte
abbrev pub gives_byte : {E : Type 0} → Result ℕ E → Bool
gives_byte (Ok n) = nat_lt 0 n
gives_byte (Err e) = false

-- the count doesn't fall, and a failure raises it
pub record HasCause {T E : Type 0} (before now : ℕ) (result : Result T E) : Type 0 where
  pub later : before ≤ now
  pub failed : OnErr result (Rose before now)
