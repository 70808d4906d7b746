-- Runs: the records of a block. A list of records is cut into runs from the left, each as long as it can be.
use Rattle.std.specs.Prelude.{◌≡◌, ◌≢◌, ℕ, ◌+◌, ◌≤◌, List, [], ◌∷◌, ◌++◌, take}
use Rattle.std.specs.List.{All, sum_by, count_by, flat_map}
use Rattle.cd_hints.specs.Records.{RecordParts, pair, unmatched_query, unmatched_response, malformed, discarded, is_item, is_malformed}
use Rattle.cd_hints.specs.declared.settings.Settings.{Settings}

-- the weight of a record: that of its events
abbrev pub record_weight : RecordParts → ℕ
record_weight (pair query response) = query.weight + response.weight
record_weight (unmatched_query e) = e.weight
record_weight (unmatched_response e) = e.weight
record_weight (malformed e) = e.weight
record_weight (discarded e) = e.weight

-- the weight of some records
abbrev pub run_weight : List RecordParts → ℕ
run_weight run = sum_by record_weight run

-- what a run is limited by
pub record Limits : Type 0 where
  -- the most items, and the most malformed messages
  pub items : ℕ
  -- the most weight
  pub weight : ℕ

-- the limits of these settings
abbrev pub limits_of : Settings → Limits
limits_of s = record { items = s.params.max_items; weight = s.block_bytes }

-- the records may stand in one block
pub record IsAdmissible (limits : Limits) (run : List RecordParts) : Type 0 where
  pub few_items : count_by is_item run ≤ limits.items
  pub few_malformed : count_by is_malformed run ≤ limits.items
  pub light : run_weight run ≤ limits.weight

-- each run is as long as it can be: with the first record of the next run it could not stand in one block
abbrev pub AreLongest : Limits → List (List RecordParts) → Type 0
AreLongest limits [] = Unit {0}
AreLongest limits (run ∷ []) = Unit {0}
AreLongest limits (run ∷ next ∷ runs) = ¬ (IsAdmissible limits (run ++ take 1 next)) × AreLongest limits (next ∷ runs)

-- these are the runs of some records
pub record AreRuns (limits : Limits) (records : List RecordParts) (runs : List (List RecordParts)) : Type 0 where
  -- together they are the records, in their order
  pub whole : records ≡ flat_map (λ run. run) runs
  pub not_empty : All (λ run. run ≢ []) runs
  pub admissible : All (IsAdmissible limits) runs
  pub long : AreLongest limits runs
