-- What a compaction answers, by what a drive answers.
use Rattle.std.proofs.Common.{◌≡◌, ℕ, ◌-◌, ◌<◌, List, [], length, take, Result, Ok, Err, refl, ap, sym, ◌∙◌, arith, inl, inr, subst}
use Rattle.std.specs.Io.KnownBytes.{Appends}
use Rattle.cd_drive.specs.Driving.{AppendsMore, Drives, DrivesOn, DrivesTold, IsAccepted}
use Rattle.cd_drive.specs.declared.driving.Driven.{Driven}
use Rattle.cd_drive.specs.declared.driving.Stop.{Stop}
use Rattle.cd_hints.specs.Validity.{IsValid}
use Rattle.cd_hints.specs.declared.settings.Settings.{Settings}
use Rattle.cd_packet.specs.declared.capture.BadCapture.{BadCapture}
use Rattle.cd_ports.specs.Reading.{SourceMeaning}
use Rattle.cd_ports.specs.Writing.{SinkMeaning, AppendsPrefix}
use Rattle.cd_ports.specs.declared.sink.SinkFault.{SinkFault}
use Rattle.cd_ports.specs.declared.sink.SinkFault.TheVariants as fault
use Rattle.cd_engine.specs.Behaving.{compacting}
use Rattle.cd_engine.specs.Compacting.{Tells, used_bytes, CompactsTaken, Compacts, CompactsTold, IsServedCapture}
use Rattle.cd_engine.specs.Compactions.{IsClosedPartOf}
use Rattle.cd_engine.specs.Counting.{AreCountsOf, no_counts}
use Rattle.cd_engine.specs.Endings.{ended_of, judging_captures}
use Rattle.cd_engine.specs.declared.counts.Counts.{Counts}
use Rattle.cd_engine.specs.declared.ended.Ended.{Ended}
use Rattle.cd_engine.specs.declared.ended.Ended.TheVariants as ended
use Rattle.cd_engine.proofs.OneFile.{file_is_whole, front_is_closed_part, counts_hold}
use Rattle.cd_engine.proofs.Refusing.{served_unrefused}
use Rattle.cd_engine.proofs.RunsEnd.{AreRefusals, ended_stop, reads_on, goes_on, consumes_none, none_taken, stops_unasked}
use Rattle.cd_engine.proofs.Written.{answer_of as answer_by, writes_at, appends_none}
use Rattle.cd_engine.specs.CapturesGo.{nothing_unrefused}

-- how a compaction ends by a refusal
abbrev pub ended_bad : BadCapture → Ended
ended_bad bad = ended.BadCapture bad

-- each refusal of a capture ends a compaction so
pub are_refusals : AreRefusals ended_bad
are_refusals bad = tt

-- the counts are told
tells_at : (s : Settings) (bytes : List ℕ) (e : Stop BadCapture) (counts : Counts) → AreCountsOf s bytes counts → Tells s bytes (ended_of ended_bad e) counts
tells_at s bytes e counts h = goes_on ended_bad are_refusals (counts ≡ no_counts) (AreCountsOf s bytes counts) e h

-- how a drive ends a compaction, with what counts
abbrev pub answer_of : Result (Driven BadCapture Counts) SinkFault → Ended × Counts
answer_of r = answer_by ended_bad no_counts r

-- what was closed early was written
early_on : (s : Settings) (so sn : SourceMeaning) (ko kn : SinkMeaning) (r : Result (Driven BadCapture Counts) SinkFault)
    (taken : List ℕ) → DrivesOn (compacting s) s.max_input so sn ko kn r taken → 65536 < length taken → (front : List ℕ) →
    IsClosedPartOf s (take (length taken - 65536) taken) front → AppendsMore ko.contents kn.contents front
early_on s so sn ko kn r taken h many front is =
    let P : List ℕ → Type 0 = λ t. AppendsMore ko.contents kn.contents t in
    subst P (sym (front_is_closed_part s (take (length taken - 65536) taken) front is)) (h.early many)

-- what a drive did is what a compaction does
pub compacts_on : (s : Settings) → IsValid s → (so sn : SourceMeaning) (ko kn : SinkMeaning) (r : Result (Driven BadCapture Counts) SinkFault)
    (taken : List ℕ) → DrivesOn (compacting s) s.max_input so sn ko kn r taken → CompactsTaken s so sn ko kn (answer_of r) taken
compacts_on s valid so sn ko kn (Ok driven) taken h =
    let used : List ℕ = used_bytes s taken in
    let P : Counts → Type 0 = λ c. AreCountsOf s used c in
    let Q : List ℕ → Type 0 = λ t. Appends ko.contents kn.contents t in
    record {
      stops = reads_on (compacting s) ended_bad s.max_input so sn ko kn taken h.reads;
      ending = inl (ap (ended_of ended_bad) h.stop ∙ ended_stop (compacting s) ended_bad s.max_input taken sn.ended);
      counts = tells_at s used driven.stop driven.counts (subst P (sym h.counts) (counts_hold s used valid));
      file = λ file is. writes_at ended_bad are_refusals ko kn driven.stop file (subst Q (sym (file_is_whole s used file is)) h.output.bytes);
      early = λ many front is. early_on s so sn ko kn (Ok driven) taken h many front is;
    }
compacts_on s valid so sn ko kn (Err fault.Failed) taken h =
    let Q : List ℕ → Type 0 = λ t. AppendsPrefix ko.contents kn.contents t in
    record {
      stops = reads_on (compacting s) ended_bad s.max_input so sn ko kn taken h.reads;
      ending = inr tt;
      counts = refl;
      file = λ file is. subst Q (sym (file_is_whole s (used_bytes s taken) file is)) h.output.bytes;
      early = λ many front is. early_on s so sn ko kn (Err fault.Failed) taken h many front is;
    }
compacts_on s valid so sn ko kn (Err fault.NoMemory) taken h =
    let Q : List ℕ → Type 0 = λ t. AppendsPrefix ko.contents kn.contents t in
    record {
      stops = reads_on (compacting s) ended_bad s.max_input so sn ko kn taken h.reads;
      ending = inr tt;
      counts = refl;
      file = λ file is. subst Q (sym (file_is_whole s (used_bytes s taken) file is)) h.output.bytes;
      early = λ many front is. early_on s so sn ko kn (Err fault.NoMemory) taken h many front is;
    }

pub compacts_driven : (s : Settings) → IsValid s → (so sn : SourceMeaning) (ko kn : SinkMeaning) (r : Result (Driven BadCapture Counts) SinkFault) →
    Drives (compacting s) s.max_input so sn ko kn r → Compacts s so sn ko kn (answer_of r)
compacts_driven s valid so sn ko kn r h = (h.0, h.1, compacts_on s valid so sn ko kn r h.0 h.2)

pub told_driven : (s : Settings) → IsValid s → (so sn : SourceMeaning) (ko kn : SinkMeaning) (r : Result (Driven BadCapture Counts) SinkFault) →
    DrivesTold (compacting s) s.max_input so sn ko kn r → CompactsTold s so sn ko kn (answer_of r)
told_driven s valid so sn ko kn r h = λ taken is. compacts_on s valid so sn ko kn r taken (h taken is)

-- a capture that can be compacted is accepted
pub served_accepted : (s : Settings) (bytes : List ℕ) → IsServedCapture s bytes → IsAccepted (compacting s) s.max_input bytes
served_accepted s bytes h =
    let k = served_unrefused bytes h.end in
    record { few = h.few; taken = k.now; ended = k.at_end }

-- where memory runs out before the first read, nothing was taken
nothing_taken : (s : Settings) (so : SourceMeaning) (ko : SinkMeaning) → CompactsTaken s so so ko ko (ended.NoMemory, no_counts) []
nothing_taken s so ko = record {
  stops = stops_unasked judging_captures nothing_unrefused s.max_input so;
  ending = inr tt;
  counts = refl;
  file = λ file is. appends_none ko.contents file;
  early = λ many front is. absurd (omega (arith, many));
}

pub unread : (s : Settings) (so : SourceMeaning) (ko : SinkMeaning) → Compacts s so so ko ko (ended.NoMemory, no_counts)
unread s so ko = ([], consumes_none so.left, nothing_taken s so ko)

pub unread_told : (s : Settings) (so : SourceMeaning) (ko : SinkMeaning) → CompactsTold s so so ko ko (ended.NoMemory, no_counts)
unread_told s so ko = λ taken is.
    let P : List ℕ → Type 0 = λ t. CompactsTaken s so so ko ko (ended.NoMemory, no_counts) t in
    subst P (none_taken so taken is) (nothing_taken s so ko)
