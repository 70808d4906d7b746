-- What `compact_plain` answers, reads and writes.
use Rattle.std.specs.Prelude.{◌≡◌, ℕ, ◌-◌, ◌<◌, ◌≤◌, true, false, List, length, take}
use Rattle.std.specs.Io.KnownBytes.{Appends}
use Rattle.cd_drive.specs.Driving.{Took, AppendsMore, IsTaken}
use Rattle.cd_hints.specs.declared.settings.Settings.{Settings}
use Rattle.cd_packet.specs.Capture.{IsWholeOrCut}
use Rattle.cd_capture.specs.Formats.{capture}
use Rattle.cd_ports.specs.Reading.{SourceMeaning}
use Rattle.cd_ports.specs.Writing.{SinkMeaning, AppendsPrefix}
use Rattle.cd_engine.specs.Compactions.{IsFileOf, IsClosedPartOf}
use Rattle.cd_engine.specs.Counting.{AreCountsOf, no_counts}
use Rattle.cd_engine.specs.Endings.{StopsInTime, judging_captures, ended_by, IfStopped, IsStopped, EndsAs}
use Rattle.cd_engine.specs.declared.counts.Counts.{Counts}
use Rattle.cd_engine.specs.declared.ended.Ended.{Ended}

-- these bytes were appended, or a prefix of them where a write failed or memory ran out
abbrev pub Writes : SinkMeaning → SinkMeaning → Ended → List ℕ → Type 0
Writes old new e bytes =
    IfStopped e (AppendsPrefix old.contents new.contents bytes) (Appends old.contents new.contents bytes)

-- these are the counts of the bytes, or all are 0 where a write failed or memory ran out
abbrev pub Tells : Settings → List ℕ → Ended → Counts → Type 0
Tells s bytes e counts = IfStopped e (counts ≡ no_counts) (AreCountsOf s bytes counts)

-- the bytes that are used of those taken: `max_input` at most
abbrev pub used_bytes : Settings → List ℕ → List ℕ
used_bytes s taken = take s.max_input taken

-- reading stops with the chunk that says how the capture ends
abbrev pub StopsReading : Settings → SourceMeaning → SourceMeaning → List ℕ → Type 0
StopsReading s src_old src_new taken = StopsInTime judging_captures s.max_input src_old src_new taken

-- These bytes were taken, and the answer, the counts and the output are theirs.
pub record CompactsTaken (s : Settings) (src_old src_new : SourceMeaning) (out_old out_new : SinkMeaning)
    (result : Ended × Counts) (taken : List ℕ) : Type 0 where
  pub stops : StopsReading s src_old src_new taken
  pub ending : EndsAs result.0 (ended_by s taken src_new.ended)
  pub counts : Tells s (used_bytes s taken) result.0 result.1
  pub file : (file : List ℕ) → IsFileOf s (used_bytes s taken) file → Writes out_old out_new result.0 file
  -- What was closed before the last 65,536 bytes was written in any case.
  pub early : 65536 < length taken → (front : List ℕ) →
      IsClosedPartOf s (take (length taken - 65536) taken) front →
      AppendsMore out_old.contents out_new.contents front

-- the call took some bytes, and its answer and output are theirs
abbrev pub Compacts : Settings → SourceMeaning → SourceMeaning → SinkMeaning → SinkMeaning → Ended × Counts → Type 0
Compacts s src_old src_new out_old out_new result =
    Took src_old src_new (CompactsTaken s src_old src_new out_old out_new result)

-- Where the source tells, the answer and the output are those of the bytes that it has lost.
abbrev pub CompactsTold : Settings → SourceMeaning → SourceMeaning → SinkMeaning → SinkMeaning → Ended × Counts → Type 0
CompactsTold s src_old src_new out_old out_new result =
    (taken : List ℕ) → IsTaken src_old src_new taken → CompactsTaken s src_old src_new out_old out_new result taken

-- a sink that fails in the call, or refuses a chunk for want of memory, stops the run
pub record WriteOutranks (old new : SinkMeaning) (result : Ended) : Type 0 where
  pub failed : old.failed ≡ false → new.failed ≡ true → IsStopped result
  pub refused : old.refused ≡ false → new.refused ≡ true → IsStopped result

-- The bytes are a capture that can be compacted: it ends between records or within one.
pub record IsServedCapture (s : Settings) (bytes : List ℕ) : Type 0 where
  pub few : length bytes ≤ s.max_input
  pub end : IsWholeOrCut (capture bytes).end
