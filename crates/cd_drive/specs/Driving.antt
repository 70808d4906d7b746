-- What `drive` answers, reads and writes.
use Rattle.std.specs.Prelude.{◌≡◌, ℕ, ◌+◌, ◌-◌, ◌<◌, ◌≤◌, ◌⊎◌, Bool, nat_lt, List, [], ◌++◌, length, take}
use Rattle.std.specs.Prelude.{Option, Some, None, Result, Ok, Err, IfOk, ⊤, if◌then◌else◌}
use Rattle.std.specs.Io.KnownBytes.{Consumes}
use Rattle.cd_ports.specs.Reading.{SourceMeaning}
use Rattle.cd_ports.specs.Writing.{SinkMeaning, OutputStep}
use Rattle.cd_ports.specs.declared.sink.SinkFault.{SinkFault}
use Rattle.cd_ports.specs.declared.sink.SinkFault.TheVariants as fault
use Rattle.cd_drive.specs.Behaviors.{Behavior}
use Rattle.cd_drive.specs.declared.driving.Stop.{Stop}
use Rattle.cd_drive.specs.declared.driving.Stop.TheVariants as stop
use Rattle.cd_drive.specs.declared.driving.Driven.{Driven}

-- a refusal where there is one, else this
abbrev pub refused_or : {R : Type 0} → Option R → Stop R → Stop R
refused_or (Some refusal) other = stop.Refused refusal
refused_or None other = other

-- What ended the input of which these bytes were taken: a refusal of them, or of the first `max` where more were
-- taken; else the byte too many; else the end that the source told; else a fault of the source.
abbrev pub stopped_by : {R C : Type 0} → Behavior R C → ℕ → List ℕ → Bool → Stop R
stopped_by b max taken told_end =
    refused_or (b.refusal (take max taken))
    (if nat_lt max (length taken) then stop.TooLong
    else (if told_end then refused_or (b.at_end taken) stop.Done else stop.ReadFault))

-- the call took some bytes from the source, and P holds of them
abbrev pub Took : SourceMeaning → SourceMeaning → (List ℕ → Type 0) → Type 0
Took old new P = (taken : List ℕ) × Consumes old.left new.left taken × P taken

-- known contents grow by these bytes, and maybe by others after them
abbrev pub AppendsMore : Option (List ℕ) → Option (List ℕ) → List ℕ → Type 0
AppendsMore None new bytes = ⊤
AppendsMore (Some xs) None bytes = ⊥
AppendsMore (Some xs) (Some ys) bytes = (more : List ℕ) × (ys ≡ xs ++ bytes ++ more)

-- the source was not asked
pub record IsUnasked (old new : SourceMeaning) (taken : List ℕ) : Type 0 where
  pub source : new ≡ old
  pub none : taken ≡ []

-- The input was read in time, and no read came before the output that was due by then. The last read took `last`,
-- and those before it took `before`.
pub record ReadsInTime {R C : Type 0} (b : Behavior R C) (max : ℕ) (src_old src_new : SourceMeaning)
    (out_old out_new : SinkMeaning) (taken : List ℕ) : Type 0 where
  pub before : List ℕ
  pub last : List ℕ
  pub split : taken ≡ before ++ last
  -- The buffer of a read has at most 65,536 bytes.
  pub chunk : length last ≤ 65536
  -- Nothing ended the input before the last read.
  pub undecided : b.refusal before ≡ None
  pub within : length before ≤ max
  -- At most one byte more than wanted was taken.
  pub few : length taken ≤ max + 1
  -- Each read but the last took a byte.
  pub calls : src_new.calls ≤ src_old.calls + length before + 1
  -- What was due before the last read was written, whatever came of that read.
  pub written : IsUnasked src_old src_new taken ⊎ AppendsMore out_old.contents out_new.contents (b.ready before)

-- These bytes were taken, and the answer and the output are theirs.
pub record DrivesOn {R C : Type 0} (b : Behavior R C) (max : ℕ) (src_old src_new : SourceMeaning)
    (out_old out_new : SinkMeaning) (result : Result (Driven R C) SinkFault) (taken : List ℕ) : Type 0 where
  pub reads : ReadsInTime b max src_old src_new out_old out_new taken
  -- What ended the input is what the bytes taken say.
  pub stop : IfOk result (λ driven. driven.stop ≡ stopped_by b max taken src_new.ended)
  pub counts : IfOk result (λ driven. driven.counts ≡ b.counts (take max taken))
  -- All output was written, or a front of it at an `Err`. A fault of the sink outranks all else but want of memory: a
  -- sink that had not failed before the call has failed after it exactly where the answer says so.
  pub output : OutputStep out_old out_new result (b.whole (take max taken))
  -- What was due before the last 65,536 bytes was written in any case.
  pub early : 65536 < length taken →
      AppendsMore out_old.contents out_new.contents (b.ready (take (length taken - 65536) taken))

-- the drive took some bytes, and its answer and output are theirs
abbrev pub Drives : {R C : Type 0} → Behavior R C → ℕ → SourceMeaning → SourceMeaning → SinkMeaning → SinkMeaning →
    Result (Driven R C) SinkFault → Type 0
Drives b max src_old src_new out_old out_new result =
    Took src_old src_new (DrivesOn b max src_old src_new out_old out_new result)

-- the bytes are no more than wanted, and are not refused
pub record IsAccepted {R C : Type 0} (b : Behavior R C) (max : ℕ) (bytes : List ℕ) : Type 0 where
  pub few : length bytes ≤ max
  pub taken : b.refusal bytes ≡ None
  pub ended : b.at_end bytes ≡ None

-- the input was read to its end, or memory ran out
abbrev pub IsDone : {R C : Type 0} → Result (Driven R C) SinkFault → Type 0
IsDone (Ok driven) = driven.stop ≡ stop.Done
IsDone (Err e) = e ≡ fault.NoMemory

-- the call took these bytes, from a source that tells what is left
pub record IsTaken (old new : SourceMeaning) (taken : List ℕ) : Type 0 where
  pub left : List ℕ
  pub before : old.left ≡ Some (taken ++ left)
  pub now : new.left ≡ Some left

-- Where the source tells, the answer and the output are those of the bytes that it has lost.
abbrev pub DrivesTold : {R C : Type 0} → Behavior R C → ℕ → SourceMeaning → SourceMeaning → SinkMeaning → SinkMeaning →
    Result (Driven R C) SinkFault → Type 0
DrivesTold b max src_old src_new out_old out_new result =
    (taken : List ℕ) → IsTaken src_old src_new taken → DrivesOn b max src_old src_new out_old out_new result taken
