-- Records that are filed one by one.
use Rattle.std.specs.Prelude.{◌≡◌, ℕ, ◌+◌, Bool, List, [], ◌∷◌, ◌++◌, length, map, if◌then◌else◌}
use Rattle.std.specs.List.{concat}
use Rattle.cd_file.specs.Files.{block_spelling, file_begun, file_end}
use Rattle.cd_hints.specs.Lists.{dropped}
use Rattle.cd_hints.specs.Records.{RecordParts, is_item}
use Rattle.cd_hints.specs.declared.settings.Settings.{Settings}
use Rattle.cd_record.specs.Cutting.{as_runs}
use Rattle.cd_record.specs.Runs.{limits_of}
use Rattle.cd_engine.specs.Behaving.{is_admissible, cut_of}
use Rattle.cd_engine.specs.Compactions.{block_of, blocks_of}
use Rattle.cd_engine.specs.Counting.{is_pair, held_in_64, record_counts, held_record_counts, no_record_counts}
use Rattle.cd_engine.specs.declared.counts.RecordCounts.{RecordCounts}

-- what a filing shows: its settings, the run that may grow, the output that was not cleared, how many blocks it has,
-- and what is counted of the records
pub record Filed : Type 0 where
  pub settings : Settings
  pub present : List RecordParts
  pub output : List ℕ
  pub blocks : ℕ
  pub counts : RecordCounts

-- a filing of no record
abbrev pub nothing_filed : Settings → Filed
nothing_filed s = record {
  settings = s;
  present = [];
  output = file_begun s.params [];
  blocks = 0;
  counts = no_record_counts;
}

-- one more where this holds
abbrev pub one_if : Bool → ℕ
one_if holds = if holds then 1 else 0

-- the counts with one record more
abbrev pub counts_with : List ℕ → RecordCounts → RecordParts → RecordCounts
counts_with types c r = record {
  items = held_in_64 (c.items + one_if (is_item r));
  pairs = held_in_64 (c.pairs + one_if (is_pair r));
  dropped = held_in_64 (c.dropped + dropped types r);
}

-- a run as a block at the end of the output
abbrev pub with_block : Filed → List RecordParts → Filed
with_block f run = record f {
  output = f.output ++ block_spelling (block_of f.settings.params run);
  blocks = held_in_64 (f.blocks + 1);
}

-- one record more: it joins the run where they may stand in one block, and else closes it
abbrev pub filed_more : Filed → RecordParts → Filed
filed_more f r =
    let counted : Filed = record f { counts = counts_with f.settings.params.rr_types f.counts r } in
    if is_admissible (limits_of f.settings) (f.present ++ r ∷ [])
    then record counted { present = f.present ++ r ∷ [] }
    else record (with_block counted f.present) { present = r ∷ [] }

-- The filing stands for these records, and this output was cleared.
pub record FilingStands (f : Filed) (rs : List RecordParts) (cleared : List ℕ) : Type 0 where
  pub present : f.present ≡ (cut_of (limits_of f.settings) rs).present
  pub output : cleared ++ f.output ≡
      file_begun f.settings.params (blocks_of f.settings.params (cut_of (limits_of f.settings) rs).closed)
  pub blocks : f.blocks ≡ held_in_64 (length (cut_of (limits_of f.settings) rs).closed)
  pub counts : f.counts ≡ held_record_counts (record_counts f.settings.params.rr_types rs)

-- the bytes that end a file: the present run as a block, where it has a record, and the end
abbrev pub ending_of : Filed → List ℕ
ending_of f = concat (map block_spelling (blocks_of f.settings.params (as_runs f.present))) ++ file_end

-- how many blocks there are with the present run, where it has a record
abbrev pub blocks_at_end : Filed → ℕ
blocks_at_end f = held_in_64 (f.blocks + length (as_runs f.present))

-- the present run as a block at the end of the output, where it has a record
abbrev pub with_last : Filed → Filed
with_last f = record f {
  present = [];
  output = f.output ++ concat (map block_spelling (blocks_of f.settings.params (as_runs f.present)));
  blocks = blocks_at_end f;
}
