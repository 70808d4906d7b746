-- How a list of records is cut, record by record.
use Rattle.std.specs.Prelude.{◌≡◌, ℕ, List, [], ◌∷◌, ◌++◌, map, Option, Some, None}
use Rattle.std.specs.List.{All}
use Rattle.cd_hints.specs.Records.{RecordParts}
use Rattle.cd_record.specs.Blocks.{RunParts, run_parts, counted_run, IsCounted}
use Rattle.cd_record.specs.Runs.{Limits, IsAdmissible, AreRuns}
use Rattle.cd_record.specs.declared.block_records.BlockRecords.{BlockRecords}

-- what a cutter is at: its limits, how many ticks a second has, and the present run
pub record Present : Type 0 where
  pub limits : Limits
  pub ticks : ℕ
  pub run : List RecordParts

-- a run as a list of runs: none where it is empty
abbrev pub as_runs : List RecordParts → List (List RecordParts)
as_runs [] = []
as_runs (r ∷ run) = (r ∷ run) ∷ []

-- the run that an answer gives, as a list of runs, each with its statistics and its earliest time
abbrev pub given_runs : Option BlockRecords → List RunParts
given_runs None = []
given_runs (Some b) = run_parts b ∷ []

-- the records of each run
abbrev pub runs_in : List RunParts → List (List RecordParts)
runs_in given = map (λ run. run.records) given

-- these are the runs of some records, each with its own statistics and its own earliest time
pub record AreCountedRuns (limits : Limits) (ticks : ℕ) (records : List RecordParts) (given : List RunParts) : Type 0 where
  pub runs : AreRuns limits records (runs_in given)
  pub counted : All (IsCounted ticks) given

-- the present run with one more record
abbrev pub with_record : Present → RecordParts → List RecordParts
with_record present r = present.run ++ r ∷ []

-- the record joins the present run, which may stand in one block with it
pub record Joins (old : Present) (r : RecordParts) (new : Present) : Type 0 where
  pub admissible : IsAdmissible old.limits (with_record old r)
  pub present : new ≡ record old { run = with_record old r }

-- the present run is given, which may not stand in one block with the record, and the record begins the next
pub record Cuts (old : Present) (r : RecordParts) (given : RunParts) (new : Present) : Type 0 where
  pub not_admissible : ¬ (IsAdmissible old.limits (with_record old r))
  pub given_run : given ≡ counted_run old.ticks old.run
  pub present : new ≡ record old { run = r ∷ [] }

-- what a push does: the record joins the present run exactly where that may stand in one block with it
abbrev pub Pushes : Present → RecordParts → Option BlockRecords → Present → Type 0
Pushes old r None new = Joins old r new
Pushes old r (Some b) new = Cuts old r (run_parts b) new

-- Of the records pushed since the cutter was new or had finished, these runs were given: each with its own statistics and its own
-- earliest time, and with the present run they are the runs of those records. The present run is empty only before the first record.
pub record StandsFor (present : Present) (pushed : List RecordParts) (given : List RunParts) : Type 0 where
  pub runs : AreRuns present.limits pushed (runs_in given ++ as_runs present.run)
  pub counted : All (IsCounted present.ticks) given
  pub fresh : present.run ≡ [] → given ≡ []
