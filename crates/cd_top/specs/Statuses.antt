-- How a run ends, and what its outputs hold then.
use Rattle.std.specs.Prelude.{◌≡◌, ℕ, ◌⊎◌, true, false, List}
use Rattle.cd_ports.specs.Reading.{SourceMeaning}
use Rattle.cd_ports.specs.Writing.{SinkMeaning}
use Rattle.cd_engine.specs.Compacting as compacting
use Rattle.cd_engine.specs.Endings as endings
use Rattle.cd_engine.specs.declared.ended.Ended.{Ended}
use Rattle.cd_engine.specs.declared.ended.Ended.TheVariants as ended
use Rattle.cd_top.specs.declared.status.Status.{Status}
use Rattle.cd_top.specs.declared.status.Status.TheVariants as status

-- the status of a run that ended so
abbrev pub status_of : Ended → Status
status_of ended.Done = status.Done
status_of (ended.BadCapture b) = status.BadCapture b
status_of (ended.BadFile b) = status.BadFile b
status_of ended.ReadFault = status.ReadFault
status_of ended.WriteFault = status.WriteFault
status_of ended.NoMemory = status.NoMemory
status_of ended.TooLong = status.TooLong

-- the status is that of an end of which P holds
pub record IsStatusOf (P : Ended → Type 0) (result : Status) : Type 0 where
  pub end : Ended
  pub is : result ≡ status_of end
  pub holds : P end

-- a write failed, or memory ran out
abbrev pub IsStopped : Status → Type 0
IsStopped result = IsStatusOf endings.IsStopped result

-- this status, unless a write failed or memory ran out
abbrev pub EndsAs : Status → Status → Type 0
EndsAs result s = (result ≡ s) ⊎ IsStopped result

-- The status comes exactly where P holds, unless a write failed or memory ran out.
pub record ComesExactly (result s : Status) (P : Type 0) : Type 0 where
  pub only : result ≡ s → P
  pub always : P → EndsAs result s

-- the run appended these bytes, or a prefix of them where a write failed or memory ran out
abbrev pub Writes : SinkMeaning → SinkMeaning → Status → List ℕ → Type 0
Writes old new result bytes = IsStatusOf (λ end. compacting.Writes old new end bytes) result

-- a sink that fails in the call, or refuses a chunk for want of memory, stops the run
pub record WriteOutranks (old new : SinkMeaning) (result : Status) : Type 0 where
  pub failed : old.failed ≡ false → new.failed ≡ true → IsStopped result
  pub refused : old.refused ≡ false → new.refused ≡ true → IsStopped result

-- a source that fails in the call ends the run, unless a write failed or memory ran out
abbrev pub ReadFaultIsTold : SourceMeaning → SourceMeaning → Status → Type 0
ReadFaultIsTold old new result = old.failed ≡ false → new.failed ≡ true → EndsAs result status.ReadFault

-- the exit status of the program
abbrev pub code_of : Status → ℕ
code_of status.Done = 0
code_of status.Usage = 1
code_of (status.BadCapture b) = 2
code_of (status.BadFile b) = 3
code_of status.ReadFault = 4
code_of status.WriteFault = 5
code_of status.NoMemory = 6
code_of status.TooLong = 7
