-- The block of a run, with each value where it belongs (RFC 8618 7.3.2).
use Rattle.std.specs.Prelude.{◌≡◌, ℕ, List, [], map, filter, if◌then◌else◌, Option, Some}
use Rattle.std.specs.List.{All}
use Rattle.std.specs.Option.{option_map_or}
use Rattle.cd_block.specs.declared.hints.TheConstants as hint
use Rattle.cd_block.specs.declared.kept.KeptBlock.{KeptBlock}
use Rattle.cd_block.specs.declared.kept.KeptItem.{KeptItem}
use Rattle.cd_block.specs.declared.kept.KeptMalformed.{KeptMalformed}
use Rattle.cd_block.specs.declared.params.Params.{Params}
use Rattle.cd_block.specs.declared.stamp.Stamp.{Stamp}
use Rattle.cd_block.specs.declared.stats.Stats.{Stats}
use Rattle.cd_hints.specs.Hinted.{is_hinted}
use Rattle.cd_hints.specs.Items.{kept_item, kept_malformed}
use Rattle.cd_hints.specs.Records.{RecordParts, record_parts, HasKinds, is_item, is_malformed}
use Rattle.cd_record.specs.Earliest.{earliest_time}
use Rattle.cd_record.specs.Statistics.{statistics}
use Rattle.cd_record.specs.declared.block_records.BlockRecords.{BlockRecords}

-- a run with its statistics and its earliest time
pub record RunParts : Type 0 where
  pub records : List RecordParts
  pub stats : Stats
  pub earliest : Option Stamp

-- the records of a block as clauses see them
abbrev pub run_parts : BlockRecords → RunParts
run_parts b = record { records = map record_parts b.recs; stats = b.stats; earliest = b.earliest }

-- a run with its own statistics and its own earliest time
abbrev pub counted_run : ℕ → List RecordParts → RunParts
counted_run ticks run = record { records = run; stats = statistics run; earliest = earliest_time ticks run }

-- the statistics and the earliest time are those of the records
abbrev pub IsCounted : ℕ → RunParts → Type 0
IsCounted ticks run = run ≡ counted_run ticks run.records

-- each event has the kind that its record names
abbrev pub HaveKinds : List RecordParts → Type 0
HaveKinds run = All HasKinds run

-- the malformed records of a run, whole where their hint is set, and else none
abbrev pub kept_malformed_items : Params → List RecordParts → Stamp → List KeptMalformed
kept_malformed_items p run earliest = if is_hinted p.hints.other hint.OTHER_MALFORMED then map (kept_malformed p earliest) (filter is_malformed run) else []

-- the pairs, queries and responses of a run
abbrev pub kept_items : Params → List RecordParts → Stamp → List KeptItem
kept_items p run earliest = map (kept_item p earliest) (filter is_item run)

-- The block of a run. Where a run has no earliest time, none of its records is kept.
abbrev pub kept_block : Params → List RecordParts → KeptBlock
kept_block p run = record {
  earliest = earliest_time p.ticks run;
  params = 0;
  stats = Some (statistics run);
  items = option_map_or (kept_items p run) (earliest_time p.ticks run) [];
  malformed = option_map_or (kept_malformed_items p run) (earliest_time p.ticks run) [];
}
