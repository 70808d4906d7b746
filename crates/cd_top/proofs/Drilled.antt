-- What is made, counted and printed by a drill.
use Rattle.std.proofs.Common.{◌≡◌, ℕ, Bool, ◌<◌, List, [], ◌++◌, length, take, Option, Some, None, refl, ap, sym, ◌∙◌, inl, inr, subst}
use Rattle.std.specs.Io.KnownBytes.{Appends}
use Rattle.std.specs.Prelude.{IfOk}
use Rattle.std.specs.declared.result.Result.{Result}
use Rattle.std.specs.declared.result.Result.TheVariants.{Ok, Err}
use Rattle.std.proofs.lemmas.Bool.{cases_lt, lt-ltb}
use Rattle.std.proofs.lemmas.List.{append-nil, take_all}
use Rattle.cd_drive.specs.Driving.{IsTaken}
use Rattle.cd_engine.proofs.OneFile.{file_is_whole, counts_only}
use Rattle.cd_engine.specs.Checking.{judging_files}
use Rattle.cd_engine.specs.Compacting as compacting
use Rattle.cd_engine.specs.Compacting.{CompactsTold, CompactsTaken}
use Rattle.cd_engine.specs.Compactions.{IsFileOf}
use Rattle.cd_engine.specs.Counting.{AreCountsOf, no_counts}
use Rattle.cd_engine.specs.Endings as endings
use Rattle.cd_engine.specs.Endings.{Judging, IfStopped, ended_in, refused_as, judging_captures}
use Rattle.cd_engine.specs.Inspecting.{InspectsTold, InspectsTaken}
use Rattle.cd_engine.specs.Laws.{EachCaptureHasOneFile}
use Rattle.cd_engine.specs.declared.counts.Counts.{Counts}
use Rattle.cd_engine.specs.declared.ended.Ended.{Ended}
use Rattle.cd_engine.specs.declared.ended.Ended.TheVariants as ended
use Rattle.cd_hints.specs.Settings.{default_settings}
use Rattle.cd_hints.specs.Validity.{IsValid}
use Rattle.cd_hints.specs.declared.settings.Settings.{Settings}
use Rattle.cd_inspection.specs.ReadCounting.{no_read_counts}
use Rattle.cd_inspection.specs.Rebuilding.{AreRebuiltCountsOf}
use Rattle.cd_inspection.specs.declared.counting.ReadCounts.{ReadCounts}
use Rattle.cd_ports.specs.Memory.{fresh_source, fresh_sink}
use Rattle.cd_ports.specs.Reading.{SourceMeaning}
use Rattle.cd_ports.specs.Writing.{SinkMeaning, AppendsPrefix}
use Rattle.cd_words.specs.declared.drill.DrillSettings.{DrillSettings}
use Rattle.cd_workload.specs.Workload.{workload}
use Rattle.cd_top.specs.Drilling.{IsSummary, summary}
use Rattle.cd_top.specs.Statuses.{status_of, EndsAs, Writes}
use Rattle.cd_top.specs.declared.status.Status.{Status}
use Rattle.cd_top.specs.declared.status.Status.TheVariants as status
use Rattle.cd_top.proofs.Mapping.{has_end, stopped_so}
use Rattle.cd_top.proofs.Telling.{done_goes, writes_so}

-- a source of bytes that has none left has lost them all
all_taken : (src_old src_new : SourceMeaning) (bytes rest : List ℕ) → src_old ≡ fresh_source bytes → src_new.left ≡ Some rest → rest ≡ [] → IsTaken src_old src_new bytes
all_taken src_old src_new bytes rest fresh now none = record {
  left = [];
  before = ap (λ (s : SourceMeaning). s.left) fresh ∙ ap (λ t. Some t) (sym (append-nil bytes));
  now = now ∙ ap (λ t. Some t) none;
}

-- no refusal ends a command as done, nor does an end that is another
late_undone : {R : Type 0} (f : R → Ended) → ((r : R) → f r ≡ ended.Done → ⊥) → (o : Option R) (x : Ended) → (x ≡ ended.Done → ⊥) → refused_as f o x ≡ ended.Done → ⊥
late_undone f refuses None x other same = other same
late_undone f refuses (Some r) x other same = refuses r same

-- a byte too many ends a command that does not refuse those before it
ends_late : {R : Type 0} (judging : Judging R) (max : ℕ) (bytes : List ℕ) (told_end : Bool) → max < length bytes →
    ended_in judging max bytes told_end ≡ refused_as judging.ended_for (judging.refused (take max bytes)) ended.TooLong
ends_late judging max bytes told_end more = rw (lt-ltb max (length bytes) more) refl

-- a command that is done has used all bytes taken
all_used : {R : Type 0} (judging : Judging R) (max : ℕ) (bytes : List ℕ) (told_end : Bool) (e : Ended) → ((r : R) → judging.ended_for r ≡ ended.Done → ⊥) →
    e ≡ ended.Done → endings.EndsAs e (ended_in judging max bytes told_end) → take max bytes ≡ bytes
all_used judging max bytes told_end e refuses is (inr halt) = absurd (done_goes e is halt)
all_used judging max bytes told_end e refuses is (inl same) = elim (cases_lt max (length bytes)) [
  | inl more ↦
      absurd (late_undone judging.ended_for refuses (judging.refused (take max bytes)) ended.TooLong (λ x. cc)
      (sym (ends_late judging max bytes told_end more) ∙ sym same ∙ is))
  | inr few ↦ take_all max bytes few
]

-- what a sink holds that held nothing is what was appended
grown : (old new : Option (List ℕ)) (held bytes : List ℕ) → old ≡ Some [] → new ≡ Some held → Appends old new bytes → held ≡ bytes
grown None new held bytes none now h = absurd cc
grown (Some xs) None held bytes none now h = absurd h
grown (Some xs) (Some ys) held bytes none now h = sym (some_same ys held now) ∙ h ∙ ap (λ t. t ++ bytes) (some_same xs [] none)
  where
    some_same : (a b : List ℕ) → Some a ≡ Some b → a ≡ b
    some_same a b same = cc

module _ (s t : Settings) (same : s ≡ t) (bytes rest : List ℕ) (src_old src_new : SourceMeaning) (out_old out_new : SinkMeaning) (x : Ended × Counts)
    (fresh : src_old ≡ fresh_source bytes) (now : src_new.left ≡ Some rest) (none : rest ≡ []) (done : x.0 ≡ ended.Done)
    (told : CompactsTold s src_old src_new out_old out_new x) where
  -- a compaction of a capture in memory that is done took all of it
  taken_all : CompactsTaken s src_old src_new out_old out_new x bytes
  taken_all = told bytes (all_taken src_old src_new bytes rest fresh now none)

  used_all : take s.max_input bytes ≡ bytes
  used_all = all_used judging_captures s.max_input bytes src_new.ended x.0 (λ b is. cc) done taken_all.ending

  -- so its counts are those of the capture
  pub counts_made : AreCountsOf t bytes x.1
  counts_made =
      let E : Ended → Type 0 = λ e. IfStopped e (x.1 ≡ no_counts) (AreCountsOf s (take s.max_input bytes) x.1) in
      let P : List ℕ → Type 0 = λ b. AreCountsOf s b x.1 in
      let S : Settings → Type 0 = λ u. AreCountsOf u bytes x.1 in
      subst S same (subst P used_all (subst E done taken_all.counts))

  -- and a sink that held nothing holds its file
  pub file_made : EachCaptureHasOneFile → (held : List ℕ) → IsValid s → out_old ≡ fresh_sink → out_new.contents ≡ Some held → IsFileOf t bytes held
  file_made law held valid empty holds =
      let one = law s bytes valid in
      let P : List ℕ → Type 0 = λ b. IsFileOf s b one.file in
      let E : Ended → Type 0 = λ e. compacting.Writes out_old out_new e one.file in
      let F : List ℕ → Type 0 = λ f. IsFileOf s bytes f in
      let S : Settings → Type 0 = λ u. IsFileOf u bytes held in
      let written : Appends out_old.contents out_new.contents one.file = subst E done (taken_all.file one.file (subst P (sym used_all) one.holds)) in
      let is : held ≡ one.file = grown out_old.contents out_new.contents held one.file (ap (λ (k : SinkMeaning). k.contents) empty) holds written in
      subst S same (subst F (sym is) one.holds)

-- an inspection of a file in memory that is done counts what is rebuilt of all of it
pub rebuilt_counted : (max : ℕ) (bytes rest : List ℕ) (src_old src_new : SourceMeaning) (out_old out_new : SinkMeaning) (x : Ended × ReadCounts) →
    src_old ≡ fresh_source bytes → src_new.left ≡ Some rest → rest ≡ [] → x.0 ≡ ended.Done → InspectsTold max src_old src_new out_old out_new x →
    AreRebuiltCountsOf bytes x.1
rebuilt_counted max bytes rest src_old src_new out_old out_new x fresh now none done told =
    let taken : InspectsTaken max src_old src_new out_old out_new x bytes = told bytes (all_taken src_old src_new bytes rest fresh now none) in
    let used : take max bytes ≡ bytes = all_used judging_files max bytes src_new.ended x.0 (λ b is. cc) done taken.ending in
    let E : Ended → Type 0 = λ e. IfStopped e (x.1 ≡ no_read_counts) (AreRebuiltCountsOf (take max bytes) x.1) in
    let P : List ℕ → Type 0 = λ b. AreRebuiltCountsOf b x.1 in
    subst P used (subst E done taken.counts)

-- the text of these is what a drill prints
summarised : (settings : DrillSettings) (capture held file : List ℕ) (counts : Counts) (rebuilt : ReadCounts) (text : List ℕ) →
    capture ≡ workload settings.count settings.seed → file ≡ held → IsFileOf default_settings capture held → AreCountsOf default_settings capture counts →
    AreRebuiltCountsOf file rebuilt → text ≡ summary settings.count counts file rebuilt → IsSummary settings text
summarised settings capture held file counts rebuilt text is held_is is_file are_counts are_rebuilt same =
    let F : List ℕ → Type 0 = λ b. IsFileOf default_settings b file in
    let H : List ℕ → Type 0 = λ f. IsFileOf default_settings capture f in
    let C : List ℕ → Type 0 = λ b. AreCountsOf default_settings b counts in
    record {
      file = file;
      is_file = subst F is (subst H (sym held_is) is_file);
      counts = counts;
      are_counts = subst C is are_counts;
      rebuilt = rebuilt;
      are_rebuilt = are_rebuilt;
      same = same;
    }

-- so is that of a result, where there is one
pub summary_is : {T E : Type 0} (settings : DrillSettings) (capture held file : List ℕ) (counts : Counts) (rebuilt : ReadCounts) (r : Result T E) (text_of : T → List ℕ) →
    capture ≡ workload settings.count settings.seed → file ≡ held → IsFileOf default_settings capture held → AreCountsOf default_settings capture counts →
    AreRebuiltCountsOf file rebuilt → IfOk r (λ t. text_of t ≡ summary settings.count counts file rebuilt) → IfOk r (λ t. IsSummary settings (text_of t))
summary_is settings capture held file counts rebuilt (Ok t) text_of is held_is is_file are_counts are_rebuilt same =
    summarised settings capture held file counts rebuilt (text_of t) is held_is is_file are_counts are_rebuilt same
summary_is settings capture held file counts rebuilt (Err e) text_of is held_is is_file are_counts are_rebuilt same = tt

-- a drill has one summary
summaries_are_one : (settings : DrillSettings) (a b : List ℕ) → IsSummary settings a → IsSummary settings b → a ≡ b
summaries_are_one settings a b first second =
    let bytes : List ℕ = workload settings.count settings.seed in
    let files : first.file ≡ second.file =
    file_is_whole default_settings bytes first.file first.is_file ∙ sym (file_is_whole default_settings bytes second.file second.is_file) in
    let counts : first.counts ≡ second.counts =
    counts_only default_settings bytes first.counts first.are_counts ∙ sym (counts_only default_settings bytes second.counts second.are_counts) in
    let P : List ℕ → Type 0 = λ f. AreRebuiltCountsOf f first.rebuilt in
    let rebuilt : first.rebuilt ≡ second.rebuilt = subst P files first.are_rebuilt ∙ sym second.are_rebuilt in
    first.same
    ∙ ap (λ c. summary settings.count c first.file first.rebuilt) counts
    ∙ ap (λ f. summary settings.count second.counts f first.rebuilt) files
    ∙ ap (λ r. summary settings.count second.counts second.file r) rebuilt
    ∙ sym second.same

-- the summary that was written whole is what a drill writes, whatever becomes of the report
pub summary_written : (settings : DrillSettings) (old new : SinkMeaning) (r : Status) (bytes made text : List ℕ) → bytes ≡ made → IsSummary settings made →
    Appends old.contents new.contents bytes → EndsAs r status.Done → IsSummary settings text → Writes old new r text
summary_written settings old new r bytes made text are own written ends is =
    let P : List ℕ → Type 0 = λ t. Appends old.contents new.contents t in
    writes_so old new r ended.Done text (λ halt. halt) ends (subst P (are ∙ summaries_are_one settings made text own is) written)

-- one of which a prefix was written is too, where the run is stopped
pub summary_begun : (settings : DrillSettings) (old new : SinkMeaning) (e : Ended) (bytes made text : List ℕ) → endings.IsStopped e → bytes ≡ made →
    IsSummary settings made → AppendsPrefix old.contents new.contents bytes → IsSummary settings text → Writes old new (status_of e) text
summary_begun settings old new e bytes made text halt are own written is =
    let P : List ℕ → Type 0 = λ t. AppendsPrefix old.contents new.contents t in
    has_end (λ f. compacting.Writes old new f text) (status_of e) e refl
    (stopped_so e _ _ halt (subst P (are ∙ summaries_are_one settings made text own is) written))
