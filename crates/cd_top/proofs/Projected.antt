-- What is rebuilt of the file that a run of `compact` writes.
use Rattle.std.proofs.Common.{◌≡◌, ℕ, List, take, arith, inl, inr}
use Rattle.std.proofs.lemmas.Bool.{cases_lt}
use Rattle.std.proofs.lemmas.List.{get_or-take, get_or_past, length-take}
use Rattle.cd_engine.specs.Compactions.{IsFileOf}
use Rattle.cd_engine.specs.Projecting.{WhatIsKeptIsRebuilt, capture_of_runs}
use Rattle.cd_engine.specs.ReadBack.{ParamsInRange}
use Rattle.cd_hints.specs.declared.settings.Settings.{Settings}
use Rattle.cd_inspection.specs.Rebuilding.{rebuilt_capture}
use Rattle.cd_message.specs.MessageLaws.{AreBytes}
use Rattle.cd_ports.specs.Reading.{SourceMeaning}
use Rattle.cd_words.specs.Laws.{CommandsAreValid}
use Rattle.cd_words.specs.declared.command.Command.TheVariants.{Compact}
use Rattle.cd_top.specs.Run.{RunsOver, used_bytes}

-- the first of some bytes are bytes
first_bytes : (n : ℕ) (bytes : List ℕ) → AreBytes bytes → AreBytes (take n bytes)
first_bytes n bytes are i =
    elim (cases_lt i n) [
      | inl within ↦ omega (arith, get_or-take n bytes i 0 within, are i)
      | inr past ↦
          let none = get_or_past (take n bytes) i 0 (omega (arith, past, length-take n bytes)) in
          omega (arith, none)
    ]

-- of the file of the bytes used is rebuilt what the settings that the words say keep
pub projected : WhatIsKeptIsRebuilt → CommandsAreValid → (words : List (List ℕ)) (so sn : SourceMeaning) (s : Settings) (taken file : List ℕ) →
    RunsOver words so sn (Compact s) taken → ParamsInRange s.params → AreBytes taken → (is : IsFileOf s (used_bytes (Compact s) taken) file) →
    rebuilt_capture file ≡ capture_of_runs s.params is.compaction.runs
projected kept valid words so sn s taken file over ranges bytes is =
    kept s (take s.max_input taken) file (valid words (Compact s) over.says) ranges (first_bytes s.max_input taken bytes) is
