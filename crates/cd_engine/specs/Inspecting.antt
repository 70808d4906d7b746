-- What `inspect` answers, reads and writes.
use Rattle.std.specs.Prelude.{◌≡◌, ℕ, ◌-◌, ◌<◌, List, length, take}
use Rattle.cd_drive.specs.Driving.{Took, AppendsMore, IsTaken}
use Rattle.cd_inspection.specs.ReadCounting.{no_read_counts}
use Rattle.cd_inspection.specs.Rebuilding.{rebuilt_capture, AreRebuiltCountsOf}
use Rattle.cd_inspection.specs.declared.counting.ReadCounts.{ReadCounts}
use Rattle.cd_ports.specs.Reading.{SourceMeaning}
use Rattle.cd_ports.specs.Writing.{SinkMeaning}
use Rattle.cd_engine.specs.Checking.{judging_files}
use Rattle.cd_engine.specs.Compacting.{Writes}
use Rattle.cd_engine.specs.Endings.{StopsInTime, ended_in, IfStopped, EndsAs}
use Rattle.cd_engine.specs.declared.ended.Ended.{Ended}

-- These bytes were taken, and the answer, the counts and the capture are theirs.
pub record InspectsTaken (max : ℕ) (src_old src_new : SourceMeaning) (out_old out_new : SinkMeaning)
    (result : Ended × ReadCounts) (taken : List ℕ) : Type 0 where
  pub stops : StopsInTime judging_files max src_old src_new taken
  pub ending : EndsAs result.0 (ended_in judging_files max taken src_new.ended)
  -- All counts are 0 where a write failed or memory ran out.
  pub counts : IfStopped result.0 (result.1 ≡ no_read_counts) (AreRebuiltCountsOf (take max taken) result.1)
  pub capture : Writes out_old out_new result.0 (rebuilt_capture (take max taken))
  -- What is rebuilt of the blocks that were whole before the last 65,536 bytes was written in any case.
  pub early : 65536 < length taken →
      AppendsMore out_old.contents out_new.contents (rebuilt_capture (take (length taken - 65536) taken))

-- the call took some bytes, and its answer and output are theirs
abbrev pub Inspects : ℕ → SourceMeaning → SourceMeaning → SinkMeaning → SinkMeaning → Ended × ReadCounts → Type 0
Inspects max src_old src_new out_old out_new result =
    Took src_old src_new (InspectsTaken max src_old src_new out_old out_new result)

-- Where the source tells, the answer and the output are those of the bytes that it has lost.
abbrev pub InspectsTold : ℕ → SourceMeaning → SourceMeaning → SinkMeaning → SinkMeaning → Ended × ReadCounts → Type 0
InspectsTold max src_old src_new out_old out_new result =
    (taken : List ℕ) → IsTaken src_old src_new taken → InspectsTaken max src_old src_new out_old out_new result taken
