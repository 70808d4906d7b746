-- What `drill` prints: what a compaction of its workload counts, and what is rebuilt of the file.
use Rattle.std.specs.Prelude.{◌≡◌, ℕ, List, ◌++◌, codes, length}
use Rattle.cd_engine.specs.Compactions.{IsFileOf}
use Rattle.cd_engine.specs.Counting.{AreCountsOf}
use Rattle.cd_engine.specs.declared.counts.Counts.{Counts}
use Rattle.cd_hints.specs.Settings.{default_settings}
use Rattle.cd_inspection.specs.Rebuilding.{AreRebuiltCountsOf}
use Rattle.cd_inspection.specs.declared.counting.ReadCounts.{ReadCounts}
use Rattle.cd_words.specs.declared.drill.DrillSettings.{DrillSettings}
use Rattle.cd_workload.specs.Workload.{workload, file_sum}
use Rattle.cd_top.specs.Reports.{count_line}

-- The lines of a drill: so many lookups, the counts of their compaction, its file, and how many packets are rebuilt of it.
abbrev pub summary : ℕ → Counts → List ℕ → ReadCounts → List ℕ
summary lookups counts file rebuilt =
    count_line (codes "lookups") lookups ++ count_line (codes "items") counts.items
    ++ count_line (codes "pairs") counts.pairs ++ count_line (codes "blocks") counts.blocks
    ++ count_line (codes "file-bytes") (length file) ++ count_line (codes "file-sum") (file_sum file)
    ++ count_line (codes "packets") rebuilt.packets

-- This is what a drill prints under these settings: the summary of its workload, compacted with the default settings.
pub record IsSummary (settings : DrillSettings) (text : List ℕ) : Type 0 where
  pub file : List ℕ
  pub is_file : IsFileOf default_settings (workload settings.count settings.seed) file
  pub counts : Counts
  pub are_counts : AreCountsOf default_settings (workload settings.count settings.seed) counts
  pub rebuilt : ReadCounts
  pub are_rebuilt : AreRebuiltCountsOf file rebuilt
  pub same : text ≡ summary settings.count counts file rebuilt
