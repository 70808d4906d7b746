-- What an inspection answers, by what a drive answers.
use Rattle.std.proofs.Common.{◌≡◌, ℕ, ◌-◌, ◌<◌, ◌≤◌, List, [], length, take, Result, Ok, Err, refl, ap, ◌∙◌, arith, inl, inr, subst}
use Rattle.std.specs.Prelude.{◌^◌}
use Rattle.std.specs.Io.KnownBytes.{Appends}
use Rattle.std.proofs.lemmas.List.{length-take}
use Rattle.cd_drive.specs.Driving.{AppendsMore, Drives, DrivesOn, DrivesTold, IsAccepted}
use Rattle.cd_drive.specs.declared.driving.Driven.{Driven}
use Rattle.cd_file.specs.declared.refusal.BadFile.{BadFile}
use Rattle.cd_inspection.specs.Growing.{nothing_unrefused}
use Rattle.cd_inspection.specs.Inspecting.{inspecting}
use Rattle.cd_inspection.specs.ReadCounting.{no_read_counts}
use Rattle.cd_inspection.specs.Rebuilding.{rebuilding, rebuilt_capture, AreRebuiltCountsOf, CapturesAreRebuilt, RebuiltCountsAreTold}
use Rattle.cd_inspection.specs.declared.counting.ReadCounts.{ReadCounts}
use Rattle.cd_ports.specs.Reading.{SourceMeaning}
use Rattle.cd_ports.specs.Writing.{SinkMeaning, AppendsPrefix}
use Rattle.cd_ports.specs.declared.sink.SinkFault.{SinkFault}
use Rattle.cd_ports.specs.declared.sink.SinkFault.TheVariants as fault
use Rattle.cd_engine.specs.Checking.{judging_files, IsWholeFile}
use Rattle.cd_engine.specs.Endings.{ended_of}
use Rattle.cd_engine.specs.Inspecting.{InspectsTaken, Inspects, InspectsTold}
use Rattle.cd_engine.specs.declared.ended.Ended.TheVariants as ended
use Rattle.cd_engine.proofs.Checked.{ended_bad, are_refusals}
use Rattle.cd_engine.proofs.RunsEnd.{ended_stop, reads_on, goes_on, consumes_none, none_taken, stops_unasked}
use Rattle.cd_engine.proofs.Written.{answer_of, writes_at, appends_none}

module _ (captures : CapturesAreRebuilt) (told : RebuiltCountsAreTold) (max : ℕ) (small : max ≤ 2 ^ 48) where
  -- what is used is short
  few_used : (taken : List ℕ) → length (take max taken) < 2 ^ 62
  few_used taken = omega (arith, small, length-take max taken)

  module _ (so sn : SourceMeaning) (ko kn : SinkMeaning) where
    -- what was rebuilt early was written
    early_on : (r : Result (Driven BadFile ReadCounts) SinkFault) (taken : List ℕ) → DrivesOn (inspecting rebuilding) max so sn ko kn r taken →
        65536 < length taken → AppendsMore ko.contents kn.contents (rebuilt_capture (take (length taken - 65536) taken))
    early_on r taken h many =
        let P : List ℕ → Type 0 = λ t. AppendsMore ko.contents kn.contents t in
        subst P (captures (take (length taken - 65536) taken)) (h.early many)

    -- what a drive did is what an inspection does
    inspects_on : (r : Result (Driven BadFile ReadCounts) SinkFault) (taken : List ℕ) → DrivesOn (inspecting rebuilding) max so sn ko kn r taken →
        InspectsTaken max so sn ko kn (answer_of ended_bad no_read_counts r) taken
    inspects_on (Ok driven) taken h =
        let used : List ℕ = take max taken in
        let P : List ℕ → Type 0 = λ t. Appends ko.contents kn.contents t in
        record {
          stops = reads_on (inspecting rebuilding) ended_bad max so sn ko kn taken h.reads;
          ending = inl (ap (ended_of ended_bad) h.stop ∙ ended_stop (inspecting rebuilding) ended_bad max taken sn.ended);
          counts = goes_on ended_bad are_refusals (driven.counts ≡ no_read_counts) (AreRebuiltCountsOf used driven.counts) driven.stop
              (h.counts ∙ told used (few_used taken));
          capture = writes_at ended_bad are_refusals ko kn driven.stop (rebuilt_capture used) (subst P (captures used) h.output.bytes);
          early = early_on (Ok driven) taken h;
        }
    inspects_on (Err fault.Failed) taken h =
        let P : List ℕ → Type 0 = λ t. AppendsPrefix ko.contents kn.contents t in
        record {
          stops = reads_on (inspecting rebuilding) ended_bad max so sn ko kn taken h.reads;
          ending = inr tt;
          counts = refl;
          capture = subst P (captures (take max taken)) h.output.bytes;
          early = early_on (Err fault.Failed) taken h;
        }
    inspects_on (Err fault.NoMemory) taken h =
        let P : List ℕ → Type 0 = λ t. AppendsPrefix ko.contents kn.contents t in
        record {
          stops = reads_on (inspecting rebuilding) ended_bad max so sn ko kn taken h.reads;
          ending = inr tt;
          counts = refl;
          capture = subst P (captures (take max taken)) h.output.bytes;
          early = early_on (Err fault.NoMemory) taken h;
        }

    pub inspects_driven : (r : Result (Driven BadFile ReadCounts) SinkFault) → Drives (inspecting rebuilding) max so sn ko kn r →
        Inspects max so sn ko kn (answer_of ended_bad no_read_counts r)
    inspects_driven r h = (h.0, h.1, inspects_on r h.0 h.2)

    pub told_driven : (r : Result (Driven BadFile ReadCounts) SinkFault) → DrivesTold (inspecting rebuilding) max so sn ko kn r →
        InspectsTold max so sn ko kn (answer_of ended_bad no_read_counts r)
    told_driven r h = λ taken is. inspects_on r taken (h taken is)

-- a whole file is accepted
pub whole_accepted : (max : ℕ) (bytes : List ℕ) → IsWholeFile max bytes → IsAccepted (inspecting rebuilding) max bytes
whole_accepted max bytes h = record { few = h.few; taken = rw h.end refl; ended = rw h.end refl }

-- where memory runs out before the first read, nothing was taken
nothing_taken : (max : ℕ) (so : SourceMeaning) (ko : SinkMeaning) → InspectsTaken max so so ko ko (ended.NoMemory, no_read_counts) []
nothing_taken max so ko = record {
  stops = stops_unasked judging_files nothing_unrefused max so;
  ending = inr tt;
  counts = refl;
  capture = appends_none ko.contents (rebuilt_capture (take max []));
  early = λ many. absurd (omega (arith, many));
}

pub unread : (max : ℕ) (so : SourceMeaning) (ko : SinkMeaning) → Inspects max so so ko ko (ended.NoMemory, no_read_counts)
unread max so ko = ([], consumes_none so.left, nothing_taken max so ko)

pub unread_told : (max : ℕ) (so : SourceMeaning) (ko : SinkMeaning) → InspectsTold max so so ko ko (ended.NoMemory, no_read_counts)
unread_told max so ko = λ taken is.
    let P : List ℕ → Type 0 = λ t. InspectsTaken max so so ko ko (ended.NoMemory, no_read_counts) t in
    subst P (none_taken so taken is) (nothing_taken max so ko)
