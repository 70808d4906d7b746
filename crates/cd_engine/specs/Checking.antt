-- What `check` answers and reads.
use Rattle.std.specs.Prelude.{◌≡◌, ℕ, ◌≤◌, List, length, take}
use Rattle.cd_drive.specs.Driving.{Took, IsTaken}
use Rattle.cd_file.specs.KeptFile.{kept_file, kept_refusal_in, told_kept_refusal}
use Rattle.cd_file.specs.ReadFile.{Whole}
use Rattle.cd_file.specs.declared.refusal.BadFile.{BadFile}
use Rattle.cd_inspection.specs.ReadCounting.{no_read_counts, read_counts}
use Rattle.cd_inspection.specs.declared.counting.ReadCounts.{ReadCounts}
use Rattle.cd_ports.specs.Reading.{SourceMeaning}
use Rattle.cd_engine.specs.Endings.{Judging, StopsInTime, ended_in, IfStopped, EndsAs}
use Rattle.cd_engine.specs.declared.ended.Ended.{Ended}
use Rattle.cd_engine.specs.declared.ended.Ended.TheVariants as ended

-- how C-DNS files are judged: by the first refusal, that an index leads nowhere among them (RFC 8618 7.3)
abbrev pub judging_files : Judging BadFile
judging_files = record {
  refused = λ bytes. kept_refusal_in (kept_file bytes);
  refused_at_end = told_kept_refusal;
  ended_for = λ bad. ended.BadFile bad;
}

-- these are the counts of the blocks that the bytes hold, up to the first refusal
abbrev pub AreReadCountsOf : List ℕ → ReadCounts → Type 0
AreReadCountsOf bytes counts = counts ≡ read_counts (kept_file bytes).blocks

-- these are the counts of the bytes, or all are 0 where memory ran out
abbrev pub TellsRead : List ℕ → Ended → ReadCounts → Type 0
TellsRead bytes e counts = IfStopped e (counts ≡ no_read_counts) (AreReadCountsOf bytes counts)

-- These bytes were taken, and the answer and the counts are theirs.
pub record ChecksTaken (max : ℕ) (src_old src_new : SourceMeaning) (result : Ended × ReadCounts) (taken : List ℕ) : Type 0 where
  pub stops : StopsInTime judging_files max src_old src_new taken
  pub ending : EndsAs result.0 (ended_in judging_files max taken src_new.ended)
  pub counts : TellsRead (take max taken) result.0 result.1

-- the call took some bytes, and its answer is theirs
abbrev pub Checks : ℕ → SourceMeaning → SourceMeaning → Ended × ReadCounts → Type 0
Checks max src_old src_new result = Took src_old src_new (ChecksTaken max src_old src_new result)

-- Where the source tells, the answer is that of the bytes that it has lost.
abbrev pub ChecksTold : ℕ → SourceMeaning → SourceMeaning → Ended × ReadCounts → Type 0
ChecksTold max src_old src_new result =
    (taken : List ℕ) → IsTaken src_old src_new taken → ChecksTaken max src_old src_new result taken

-- The bytes are a whole file, of at most so many bytes.
pub record IsWholeFile (max : ℕ) (bytes : List ℕ) : Type 0 where
  pub few : length bytes ≤ max
  pub end : (kept_file bytes).end ≡ Whole
