-- The one C-DNS file of a capture.
use Rattle.std.specs.Prelude.{◌≡◌, ℕ, ◌-◌, List, length, map, take, Option}
use Rattle.cd_block.specs.Tables.{indexed}
use Rattle.cd_block.specs.declared.block.Block.{Block}
use Rattle.cd_block.specs.declared.params.Params.{Params}
use Rattle.cd_file.specs.Files.{file_begun, file_of}
use Rattle.cd_hints.specs.Records.{RecordParts}
use Rattle.cd_hints.specs.declared.settings.Settings.{Settings}
use Rattle.cd_ident.specs.Events.{EventParts}
use Rattle.cd_pairing.specs.Pairing.{IsPairing}
use Rattle.cd_pairing.specs.Records.{records, released_records}
use Rattle.cd_record.specs.Blocks.{kept_block}
use Rattle.cd_record.specs.Runs.{limits_of, AreRuns}
use Rattle.cd_engine.specs.Events.{rules_of}
use Rattle.cd_engine.specs.Records.{windows_of, views_of, records_at}
use Rattle.cd_engine.specs.Refusals.{compacted_events}

-- the block of a run: what is kept of it, with each value once in its table
abbrev pub block_of : Params → List RecordParts → Block
block_of p run = indexed (kept_block p run)

-- the blocks of some runs
abbrev pub blocks_of : Params → List (List RecordParts) → List Block
blocks_of p runs = map (block_of p) runs

-- events, each with its partner in the one pairing, and their records, cut into runs
pub record Compaction (s : Settings) (events : List EventParts) : Type 0 where
  pub partners : List (Option ℕ)
  pub pairing : IsPairing (windows_of s) (views_of events) partners
  pub runs : List (List RecordParts)
  pub cut : AreRuns (limits_of s) (records_at events (records partners)) runs

-- this is the file of the capture in these bytes, or of the capture before the place that is refused
pub record IsFileOf (s : Settings) (bytes file : List ℕ) : Type 0 where
  pub compaction : Compaction s (compacted_events (rules_of s) bytes)
  pub same : file ≡ file_of s.params (blocks_of s.params compaction.runs)

-- the runs but the last
abbrev pub but_last : List (List RecordParts) → List (List RecordParts)
but_last runs = take (length runs - 1) runs

-- Events, each with its partner in the one pairing, and of their records those that no later event changes, cut into
-- runs. The last run may grow as more events come, and the others are closed.
pub record ReleasedRuns (s : Settings) (events : List EventParts) : Type 0 where
  pub partners : List (Option ℕ)
  pub pairing : IsPairing (windows_of s) (views_of events) partners
  pub runs : List (List RecordParts)
  pub cut : AreRuns (limits_of s)
      (records_at events (released_records (windows_of s) (views_of events) partners)) runs

-- this is the front of the file that is closed, however the bytes of the capture go on
pub record IsClosedPartOf (s : Settings) (bytes front : List ℕ) : Type 0 where
  pub released : ReleasedRuns s (compacted_events (rules_of s) bytes)
  pub same : front ≡ file_begun s.params (blocks_of s.params (but_last released.runs))
