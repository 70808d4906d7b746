-- What a run does over the bytes that it took.
use Rattle.std.specs.Prelude.{◌≡◌, ℕ, ◌<◌, ◌&&◌, nat_le, Bool, List, length, take, Option, None, option_map, if◌then◌else◌, ⊤}
use Rattle.cd_drive.specs.Driving.{IsTaken}
use Rattle.cd_engine.specs.Checking.{judging_files}
use Rattle.cd_engine.specs.Endings.{Judging, StopsInTime, ended_in, judging_captures}
use Rattle.cd_engine.specs.declared.ended.Ended.{Ended}
use Rattle.cd_engine.specs.declared.ended.Ended.TheVariants as ended
use Rattle.cd_ports.specs.Counter.{Rose}
use Rattle.cd_ports.specs.Reading.{SourceMeaning}
use Rattle.cd_words.specs.Commands.{SaysCommand}
use Rattle.cd_words.specs.declared.command.Command.{Command}
use Rattle.cd_words.specs.declared.command.Command.TheVariants.{Compact, Check, Inspect, Drill}

-- a command reads the source: each does but `drill`, which makes its own input
abbrev pub ReadsInput : Command → Type 0
ReadsInput (Compact settings) = ⊤
ReadsInput (Check max_input) = ⊤
ReadsInput (Inspect max_input) = ⊤
ReadsInput (Drill settings) = ⊥

-- how many bytes of the input a command uses at most
abbrev pub max_input_of : Command → ℕ
max_input_of (Compact settings) = settings.max_input
max_input_of (Check max_input) = max_input
max_input_of (Inspect max_input) = max_input
max_input_of (Drill settings) = 0

-- what a judging refuses bytes for, whatever follows them, as how it ends
abbrev pub refusal_by : {R : Type 0} → Judging R → List ℕ → Option Ended
refusal_by judging bytes = option_map judging.ended_for (judging.refused bytes)

-- what it refuses them for where nothing follows them
abbrev pub refusal_at_end_by : {R : Type 0} → Judging R → List ℕ → Option Ended
refusal_at_end_by judging bytes = option_map judging.ended_for (judging.refused_at_end bytes)

-- what bytes are refused for by a command, whatever follows them, as how it ends: as a capture, or as a C-DNS file
abbrev pub refused_for : Command → List ℕ → Option Ended
refused_for (Compact settings) bytes = refusal_by judging_captures bytes
refused_for (Check max_input) bytes = refusal_by judging_files bytes
refused_for (Inspect max_input) bytes = refusal_by judging_files bytes
refused_for (Drill settings) bytes = None

-- what they are refused for where nothing follows them
abbrev pub refused_at_end_for : Command → List ℕ → Option Ended
refused_at_end_for (Compact settings) bytes = refusal_at_end_by judging_captures bytes
refused_at_end_for (Check max_input) bytes = refusal_at_end_by judging_files bytes
refused_at_end_for (Inspect max_input) bytes = refusal_at_end_by judging_files bytes
refused_at_end_for (Drill settings) bytes = None

-- how a command judges bytes
abbrev pub judging_of : Command → Judging Ended
judging_of c = record { refused = refused_for c; refused_at_end = refused_at_end_for c; ended_for = λ e. e }

-- The words say this command, which reads, and the call took these bytes from a source that tells what is left.
pub record RunsOver (words : List (List ℕ)) (src_old src_new : SourceMeaning) (c : Command) (taken : List ℕ) : Type 0 where
  pub says : SaysCommand words c
  pub reads : ReadsInput c
  pub took : IsTaken src_old src_new taken

-- the bytes that are used of those taken: `max_input` at most
abbrev pub used_bytes : Command → List ℕ → List ℕ
used_bytes c taken = take (max_input_of c) taken

-- What the bytes used are refused for: whatever follows them; or, where these are all and the source told their end,
-- since nothing does.
abbrev pub refusal_used : Command → List ℕ → Bool → Option Ended
refusal_used c taken told_end =
    if nat_le (length taken) (max_input_of c) && told_end
    then refused_at_end_for c (used_bytes c taken)
    else refused_for c (used_bytes c taken)

-- a byte past `max_input` was taken, and those before it are not refused
pub record IsTooLong (c : Command) (taken : List ℕ) : Type 0 where
  pub more : max_input_of c < length taken
  pub accepted : refused_for c (used_bytes c taken) ≡ None

-- how it ends to take these bytes, where the source told their end or did not
abbrev pub ended_by : Command → List ℕ → Bool → Ended
ended_by c taken told_end = ended_in (judging_of c) (max_input_of c) taken told_end

-- reading stops with the chunk that says how the input ends
abbrev pub StopsReading : Command → SourceMeaning → SourceMeaning → List ℕ → Type 0
StopsReading c src_old src_new taken = StopsInTime (judging_of c) (max_input_of c) src_old src_new taken

-- Nothing ended the input: the bytes taken are neither refused nor too many, and the source neither told its end nor
-- failed.
pub record IsUnended (c : Command) (src_old src_new : SourceMeaning) (taken : List ℕ) : Type 0 where
  pub goes_on : ended_by c taken src_new.ended ≡ ended.ReadFault
  pub unfailed : ¬ (Rose src_old.faults src_new.faults)
