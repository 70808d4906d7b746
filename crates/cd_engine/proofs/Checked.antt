-- What a check answers, by what a drive answers.
use Rattle.std.proofs.Common.{◌≡◌, ℕ, ◌≤◌, ◌<◌, List, [], length, take, Result, Ok, Err, refl, ap, ◌∙◌, arith, inl, inr, subst}
use Rattle.std.specs.Prelude.{◌^◌}
use Rattle.std.proofs.lemmas.List.{length-take}
use Rattle.cd_drive.specs.Driving.{Drives, DrivesOn, DrivesTold}
use Rattle.cd_drive.specs.declared.driving.Driven.{Driven}
use Rattle.cd_file.specs.declared.refusal.BadFile.{BadFile}
use Rattle.cd_inspection.specs.Growing.{nothing_unrefused}
use Rattle.cd_inspection.specs.Inspecting.{inspecting}
use Rattle.cd_inspection.specs.ReadCounting.{counting, no_read_counts, CountsAreOfBlocks}
use Rattle.cd_inspection.specs.declared.counting.ReadCounts.{ReadCounts}
use Rattle.cd_ports.specs.Reading.{SourceMeaning}
use Rattle.cd_ports.specs.Writing.{SinkMeaning}
use Rattle.cd_ports.specs.declared.sink.SinkFault.{SinkFault}
use Rattle.cd_engine.specs.Checking.{judging_files, AreReadCountsOf, ChecksTaken, Checks, ChecksTold}
use Rattle.cd_engine.specs.Endings.{ended_of}
use Rattle.cd_engine.specs.declared.ended.Ended.{Ended}
use Rattle.cd_engine.specs.declared.ended.Ended.TheVariants as ended
use Rattle.cd_engine.proofs.RunsEnd.{AreRefusals, ended_stop, reads_on, goes_on, consumes_none, none_taken, stops_unasked}

-- how a check ends by a refusal
abbrev pub ended_bad : BadFile → Ended
ended_bad bad = ended.BadFile bad

-- each refusal of a file ends a check so
pub are_refusals : AreRefusals ended_bad
are_refusals bad = tt

-- how a drive ends a check, with what counts
abbrev pub answer_of : Result (Driven BadFile ReadCounts) SinkFault → Ended × ReadCounts
answer_of (Ok driven) = (ended_of ended_bad driven.stop, driven.counts)
answer_of (Err e) = (ended.NoMemory, no_read_counts)

-- what is used is short
few_taken : (max : ℕ) (taken : List ℕ) → max ≤ 2 ^ 48 → length (take max taken) < 2 ^ 64
few_taken max taken small = omega (arith, small, length-take max taken)

-- what a drive did is what a check does
checks_on : CountsAreOfBlocks → (max : ℕ) → max ≤ 2 ^ 48 → (so sn : SourceMeaning) (ko kn : SinkMeaning) (r : Result (Driven BadFile ReadCounts) SinkFault)
    (taken : List ℕ) → DrivesOn (inspecting counting) max so sn ko kn r taken → ChecksTaken max so sn (answer_of r) taken
checks_on law max small so sn ko kn (Ok driven) taken h = record {
  stops = reads_on (inspecting counting) ended_bad max so sn ko kn taken h.reads;
  ending = inl (ap (ended_of ended_bad) h.stop ∙ ended_stop (inspecting counting) ended_bad max taken sn.ended);
  counts =
      goes_on ended_bad are_refusals (driven.counts ≡ no_read_counts) (AreReadCountsOf (take max taken) driven.counts) driven.stop
      (h.counts ∙ law (take max taken) (few_taken max taken small));
}
checks_on law max small so sn ko kn (Err e) taken h = record {
  stops = reads_on (inspecting counting) ended_bad max so sn ko kn taken h.reads;
  ending = inr tt;
  counts = refl;
}

pub checks_driven : CountsAreOfBlocks → (max : ℕ) → max ≤ 2 ^ 48 → (so sn : SourceMeaning) (ko kn : SinkMeaning) (r : Result (Driven BadFile ReadCounts) SinkFault) →
    Drives (inspecting counting) max so sn ko kn r → Checks max so sn (answer_of r)
checks_driven law max small so sn ko kn r h = (h.0, h.1, checks_on law max small so sn ko kn r h.0 h.2)

pub told_driven : CountsAreOfBlocks → (max : ℕ) → max ≤ 2 ^ 48 → (so sn : SourceMeaning) (ko kn : SinkMeaning) (r : Result (Driven BadFile ReadCounts) SinkFault) →
    DrivesTold (inspecting counting) max so sn ko kn r → ChecksTold max so sn (answer_of r)
told_driven law max small so sn ko kn r h = λ taken is. checks_on law max small so sn ko kn r taken (h taken is)

-- where memory runs out before the first read, nothing was taken
nothing_taken : (max : ℕ) (so : SourceMeaning) → ChecksTaken max so so (ended.NoMemory, no_read_counts) []
nothing_taken max so = record {
  stops = stops_unasked judging_files nothing_unrefused max so;
  ending = inr tt;
  counts = refl;
}

pub unread : (max : ℕ) (so : SourceMeaning) → Checks max so so (ended.NoMemory, no_read_counts)
unread max so = ([], consumes_none so.left, nothing_taken max so)

pub unread_told : (max : ℕ) (so : SourceMeaning) → ChecksTold max so so (ended.NoMemory, no_read_counts)
unread_told max so = λ taken is.
    let P : List ℕ → Type 0 = λ t. ChecksTaken max so so (ended.NoMemory, no_read_counts) t in
    subst P (none_taken so taken is) (nothing_taken max so)
