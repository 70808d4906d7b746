-- What some records count, weigh, and their least tick, taken record by record.
use Rattle.std.specs.Prelude.{◌≡◌, ℕ, ◌+◌, ◌<◌, ◌≤◌, ◌^◌, min, Option, Some, None, List}
use Rattle.cd_block.specs.declared.stats.Stats.{Stats}
use Rattle.cd_hints.specs.Records.{RecordParts, pair, unmatched_query, unmatched_response, malformed, discarded}
use Rattle.cd_hints.specs.Options.{Admits}
use Rattle.cd_hints.specs.declared.settings.options.NumberOption.TheVariants.{Ticks, BlockItems, BlockBytes}
use Rattle.cd_record.specs.Blocks.{HaveKinds}
use Rattle.cd_record.specs.Earliest.{record_tick, earliest_tick}
use Rattle.cd_record.specs.Runs.{Limits, IsAdmissible, record_weight, run_weight}
use Rattle.cd_record.specs.Statistics.{statistics}
use Rattle.cd_record.specs.declared.tally.Tally.{Tally}

-- the tally of some records
abbrev pub tally_of : ℕ → List RecordParts → Tally
tally_of ticks run = record { stats = statistics run; weight = run_weight run; earliest = earliest_tick ticks run }

-- the statistics with one more record
abbrev pub stats_with : Stats → RecordParts → Stats
stats_with s (pair query response) = record s { processed = s.processed + 2; items = s.items + 1 }
stats_with s (unmatched_query e) = record s { processed = s.processed + 1; items = s.items + 1; unmatched_queries = s.unmatched_queries + 1 }
stats_with s (unmatched_response e) = record s { processed = s.processed + 1; items = s.items + 1; unmatched_responses = s.unmatched_responses + 1 }
stats_with s (malformed e) = record s { malformed = s.malformed + 1 }
stats_with s (discarded e) = record s { processed = s.processed + 1; discarded = s.discarded + 1 }

-- the lesser of two ticks, where both are there
abbrev pub earlier : Option ℕ → Option ℕ → Option ℕ
earlier None other = other
earlier (Some one) None = Some one
earlier (Some one) (Some other) = Some (min one other)

-- the tally with one more record
abbrev pub tally_with : ℕ → Tally → RecordParts → Tally
tally_with ticks t r = record { stats = stats_with t.stats r; weight = t.weight + record_weight r; earliest = earlier t.earliest (record_tick ticks r) }

-- each count has room for one more record
pub record HaveRoom (s : Stats) : Type 0 where
  pub processed : s.processed + 2 < 2 ^ 64
  pub items : s.items + 1 < 2 ^ 64
  pub unmatched_queries : s.unmatched_queries + 1 < 2 ^ 64
  pub unmatched_responses : s.unmatched_responses + 1 < 2 ^ 64
  pub discarded : s.discarded + 1 < 2 ^ 64
  pub malformed : s.malformed + 1 < 2 ^ 64

-- the tally has room for one more record
pub record HasRoom (t : Tally) (r : RecordParts) : Type 0 where
  pub counts : HaveRoom t.stats
  pub weight : t.weight + record_weight r < 2 ^ 64

-- records of this tally are within the limits
pub record IsWithin (limits : Limits) (t : Tally) : Type 0 where
  pub few_items : t.stats.items ≤ limits.items
  pub few_malformed : t.stats.malformed ≤ limits.items
  pub light : t.weight ≤ limits.weight

-- What holds of a cutter at all times: its limits and ticks are those of valid settings, and the present run may stand in one
-- block, has its kinds, and has this tally.
pub record IsSound (limits : Limits) (ticks : ℕ) (run : List RecordParts) (tally : Tally) : Type 0 where
  pub items : Admits BlockItems limits.items
  pub weight : Admits BlockBytes limits.weight
  pub seconds : Admits Ticks ticks
  pub admissible : IsAdmissible limits run
  pub kinds : HaveKinds run
  pub counted : tally ≡ tally_of ticks run
