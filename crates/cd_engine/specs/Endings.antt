-- What the bytes taken say of how a compaction or a check of them ends.
use Rattle.std.specs.Prelude.{◌≡◌, ℕ, ◌+◌, ◌≤◌, ◌⊎◌, Bool, nat_lt, List, ◌++◌, length, take, Option, Some, None, if◌then◌else◌, ⊤}
use Rattle.cd_drive.specs.declared.driving.Stop.{Stop}
use Rattle.cd_drive.specs.declared.driving.Stop.TheVariants as stop
use Rattle.cd_hints.specs.declared.settings.Settings.{Settings}
use Rattle.cd_ports.specs.Reading.{SourceMeaning}
use Rattle.cd_capture.specs.Reading.{refusal_of}
use Rattle.cd_engine.specs.Refusals.{refusal_at_end}
use Rattle.cd_packet.specs.declared.capture.BadCapture.{BadCapture}
use Rattle.cd_engine.specs.declared.ended.Ended.{Ended}
use Rattle.cd_engine.specs.declared.ended.Ended.TheVariants as ended

-- How bytes are judged: what they are refused for, and how it ends to be refused so.
pub record Judging (R : Type 0) : Type 0 where
  -- what bytes are refused for, whatever follows them
  pub refused : List ℕ → Option R
  -- what they are refused for where nothing follows them
  pub refused_at_end : List ℕ → Option R
  pub ended_for : R → Ended

-- by a refusal where there is one, else so
abbrev pub refused_as : {R : Type 0} → (R → Ended) → Option R → Ended → Ended
refused_as ended_for (Some refusal) other = ended_for refusal
refused_as ended_for None other = other

-- how it ends by what ended the input
abbrev pub ended_of : {R : Type 0} → (R → Ended) → Stop R → Ended
ended_of ended_for stop.Done = ended.Done
ended_of ended_for (stop.Refused refusal) = ended_for refusal
ended_of ended_for stop.TooLong = ended.TooLong
ended_of ended_for stop.ReadFault = ended.ReadFault

-- How it ends to take these bytes: by what the first `max` of them are refused for, else by the byte that is one too
-- many, else as they end where the source told its end, else by a fault of the source.
abbrev pub ended_in : {R : Type 0} → Judging R → ℕ → List ℕ → Bool → Ended
ended_in judging max taken told_end =
    refused_as judging.ended_for (judging.refused (take max taken))
    (if nat_lt max (length taken) then ended.TooLong
    else (if told_end then refused_as judging.ended_for (judging.refused_at_end taken) ended.Done else ended.ReadFault))

-- Reading stops with the chunk that says how the input ends, and at most one byte more than wanted was taken.
pub record StopsInTime {R : Type 0} (judging : Judging R) (max : ℕ) (src_old src_new : SourceMeaning) (taken : List ℕ) : Type 0 where
  pub before : List ℕ
  pub last : List ℕ
  pub split : taken ≡ before ++ last
  -- The buffer of a read has at most 65,536 bytes.
  pub chunk : length last ≤ 65536
  -- Nothing ended the input before the last read.
  pub undecided : judging.refused before ≡ None
  pub within : length before ≤ max
  pub few : length taken ≤ max + 1
  -- Each read but the last took a byte, and no read came after it.
  pub calls : src_new.calls ≤ src_old.calls + length before + 1

-- the first where a write failed or memory ran out, else the second
abbrev pub IfStopped : Ended → Type 0 → Type 0 → Type 0
IfStopped ended.WriteFault P Q = P
IfStopped ended.NoMemory P Q = P
IfStopped ended.Done P Q = Q
IfStopped (ended.BadCapture b) P Q = Q
IfStopped (ended.BadFile b) P Q = Q
IfStopped ended.ReadFault P Q = Q
IfStopped ended.TooLong P Q = Q

-- a write failed, or memory ran out
abbrev pub IsStopped : Ended → Type 0
IsStopped e = IfStopped e ⊤ ⊥

-- so, unless a write failed or memory ran out
abbrev pub EndsAs : Ended → Ended → Type 0
EndsAs result e = (result ≡ e) ⊎ IsStopped result

-- how captures are judged: by the refused place
abbrev pub judging_captures : Judging BadCapture
judging_captures = record {
  refused = refusal_of;
  refused_at_end = refusal_at_end;
  ended_for = λ bad. ended.BadCapture bad;
}

-- how a compaction ends that took these bytes
abbrev pub ended_by : Settings → List ℕ → Bool → Ended
ended_by s taken told_end = ended_in judging_captures s.max_input taken told_end
