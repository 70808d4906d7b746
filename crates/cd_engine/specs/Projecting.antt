-- What is kept in the file of a capture is what is rebuilt of it (RFC 8618 7.3).
use Rattle.std.specs.Prelude.{◌≡◌, ℕ, List, ◌++◌, length}
use Rattle.std.specs.List.{flat_map, sum_by}
use Rattle.cd_block.specs.declared.params.Params.{Params}
use Rattle.cd_hints.specs.Records.{RecordParts}
use Rattle.cd_hints.specs.Validity.{IsValid}
use Rattle.cd_hints.specs.declared.settings.Settings.{Settings}
use Rattle.cd_inspection.specs.Rebuilding.{block_records, packet_count, rebuilt_capture, AreRebuiltCountsOf}
use Rattle.cd_inspection.specs.declared.counting.ReadCounts.{ReadCounts}
use Rattle.cd_message.specs.MessageLaws.{AreBytes}
use Rattle.cd_pcap.specs.Writing.{written_header}
use Rattle.cd_rebuild.specs.Rebuilding.{bare_count, not_udp_count, too_long_count}
use Rattle.cd_record.specs.Blocks.{kept_block}
use Rattle.cd_engine.specs.Compactions.{IsFileOf}
use Rattle.cd_engine.specs.ReadBack.{ParamsInRange}

-- The capture of what is kept of some runs: its header, and of each run the records of the packets of its block.
abbrev pub capture_of_runs : Params → List (List RecordParts) → List ℕ
capture_of_runs p runs = written_header ++ flat_map (λ run. block_records p (kept_block p run)) runs

-- what is counted of the blocks of some runs, and of what is rebuilt of them
abbrev pub counts_of_runs : Params → List (List RecordParts) → ReadCounts
counts_of_runs p runs = record {
  blocks = length runs;
  items = sum_by (λ run. length (kept_block p run).items) runs;
  malformed = sum_by (λ run. length (kept_block p run).malformed) runs;
  packets = sum_by (λ run. packet_count p (kept_block p run)) runs;
  bare = sum_by (λ run. bare_count (kept_block p run)) runs;
  not_udp = sum_by (λ run. not_udp_count (kept_block p run)) runs;
  too_long = sum_by (λ run. too_long_count p.ticks (kept_block p run)) runs;
}

-- Of the file of a capture of bytes, under valid settings, the capture of what is kept of the runs is rebuilt.
abbrev pub WhatIsKeptIsRebuilt : Type 0
WhatIsKeptIsRebuilt = (s : Settings) (bytes file : List ℕ) → IsValid s → ParamsInRange s.params → AreBytes bytes →
    (is : IsFileOf s bytes file) →
    rebuilt_capture file ≡ capture_of_runs s.params is.compaction.runs

-- Its counts are those of what is kept of the runs.
abbrev pub WhatIsKeptIsCounted : Type 0
WhatIsKeptIsCounted = (s : Settings) (bytes file : List ℕ) → IsValid s → ParamsInRange s.params → AreBytes bytes →
    (is : IsFileOf s bytes file) →
    AreRebuiltCountsOf file (counts_of_runs s.params is.compaction.runs)
