-- What a run answers whose words say a command that reads, by how its bytes are judged.
use Rattle.std.proofs.Common.{◌≡◌, ℕ, Bool, List, Option, Some, None, refl, sym, ◌∙◌, inl, inr, subst}
use Rattle.std.specs.Prelude.{take, option_map}
use Rattle.cd_drive.specs.Driving.{Took, IsTaken}
use Rattle.cd_engine.specs.Checking.{judging_files}
use Rattle.cd_engine.specs.Endings as endings
use Rattle.cd_engine.specs.Endings.{Judging, StopsInTime, IfStopped, ended_in, refused_as, judging_captures}
use Rattle.cd_engine.specs.declared.ended.Ended.{Ended}
use Rattle.cd_engine.specs.declared.ended.Ended.TheVariants as ended
use Rattle.cd_hints.specs.declared.settings.Settings.{Settings}
use Rattle.cd_ports.specs.Counter.{Rose}
use Rattle.cd_ports.specs.Reading.{SourceMeaning}
use Rattle.cd_ports.specs.Writing.{SinkMeaning}
use Rattle.cd_words.specs.Commands.{SaysCommand}
use Rattle.cd_words.specs.Laws.{CommandsAreOne}
use Rattle.cd_words.specs.declared.command.Command.{Command}
use Rattle.cd_words.specs.declared.command.Command.TheVariants.{Compact, Check, Inspect}
use Rattle.cd_top.specs.Reports.{TellsReport, TellsEnd}
use Rattle.cd_top.specs.Run.{IsUnended, StopsReading, ended_by, refusal_by, refusal_at_end_by}
use Rattle.cd_top.specs.Statuses.{status_of, EndsAs}
use Rattle.cd_top.specs.declared.status.Status.{Status}
use Rattle.cd_top.proofs.Mapping.{at_stop}
use Rattle.cd_top.proofs.Telling.{told_ends_as, reports_as}
use Rattle.cd_top.proofs.Unread.{consumed_is_taken}

-- a refusal told as an end is that end
told_as_end : {R : Type 0} (f : R → Ended) (o : Option R) (x : Ended) → refused_as (λ e. e) (option_map f o) x ≡ refused_as f o x
told_as_end f None x = refl
told_as_end f (Some r) x = refl

-- a judging that tells each refusal as an end
abbrev as_ends : {R : Type 0} → Judging R → Judging Ended
as_ends judging = record { refused = refusal_by judging; refused_at_end = refusal_at_end_by judging; ended_for = λ e. e }

-- bytes end by it as by the judging
ends_same : {R : Type 0} (judging : Judging R) (max : ℕ) (taken : List ℕ) (told_end : Bool) →
    ended_in (as_ends judging) max taken told_end ≡ ended_in judging max taken told_end
ends_same judging max taken told_end =
    rw (told_as_end judging.ended_for (judging.refused (take max taken)), told_as_end judging.ended_for (judging.refused_at_end taken)) refl

-- and reading stops in time by it
stops_same : {R : Type 0} (judging : Judging R) (max : ℕ) (so sn : SourceMeaning) (taken : List ℕ) →
    StopsInTime judging max so sn taken → StopsInTime (as_ends judging) max so sn taken
stops_same judging max so sn taken h = record {
  before = h.before;
  last = h.last;
  split = h.split;
  chunk = h.chunk;
  undecided = rw h.undecided refl;
  within = h.within;
  few = h.few;
  calls = h.calls;
}

-- The command uses so many bytes at most, and judges them so.
pub record JudgesBy {R : Type 0} (judging : Judging R) (max : ℕ) (c : Command) : Type 0 where
  pub ends : (taken : List ℕ) (told_end : Bool) → ended_by c taken told_end ≡ ended_in judging max taken told_end
  pub stops : (so sn : SourceMeaning) (taken : List ℕ) → StopsInTime judging max so sn taken → StopsReading c so sn taken

pub compact_judges : (s : Settings) → JudgesBy judging_captures s.max_input (Compact s)
compact_judges s = record {
  ends = λ taken told_end. ends_same judging_captures s.max_input taken told_end;
  stops = λ so sn taken h. stops_same judging_captures s.max_input so sn taken h;
}

pub check_judges : (max : ℕ) → JudgesBy judging_files max (Check max)
check_judges max = record {
  ends = λ taken told_end. ends_same judging_files max taken told_end;
  stops = λ so sn taken h. stops_same judging_files max so sn taken h;
}

pub inspect_judges : (max : ℕ) → JudgesBy judging_files max (Inspect max)
inspect_judges max = record {
  ends = λ taken told_end. ends_same judging_files max taken told_end;
  stops = λ so sn taken h. stops_same judging_files max so sn taken h;
}

-- the words say a command that reads, and are said to say one
module _ {R C : Type 0} (judging : Judging R) (max : ℕ) (form : C → Status → List ℕ) (one : CommandsAreOne) (words : List (List ℕ))
    (c d : Command) (judges : JudgesBy judging max c) (said : SaysCommand words c) where
  -- the run ends as the bytes taken say
  pub read_ends : (so sn : SourceMeaning) (old new : SinkMeaning) (e : Ended) (counts : C) (taken : List ℕ) (r : Status) → TellsEnd form old new r e counts →
      endings.EndsAs e (ended_in judging max taken sn.ended) → SaysCommand words d → EndsAs r (status_of (ended_by d taken sn.ended))
  read_ends so sn old new e counts taken r h ending says =
      let P : Command → Type 0 = λ x. EndsAs r (status_of (ended_by x taken sn.ended)) in
      let Q : Ended → Type 0 = λ x. EndsAs r (status_of x) in
      subst P (one words c d said says)
      (subst Q (sym (judges.ends taken sn.ended)) (told_ends_as form old new r e (ended_in judging max taken sn.ended) counts h ending))

  -- the report says what was counted in the bytes that are used; the counts are those of a command
  pub read_reports : (Are : Command → Type 0) (P : Type 0) (so sn : SourceMeaning) (old new : SinkMeaning) (e : Ended) (found counts none : C)
      (taken : List ℕ) (r : Status) → (P → Are c → found ≡ counts) → TellsEnd form old new r e found → endings.EndsAs e (ended_in judging max taken sn.ended) →
      IfStopped e (found ≡ none) P → SaysCommand words d → Are d →
      TellsReport old new r (status_of (ended_by d taken sn.ended)) (form counts (status_of (ended_by d taken sn.ended)))
  read_reports Are P so sn old new e found counts none taken r only h ending holds says are =
      let same : c ≡ d = one words c d said says in
      let T : Ended → Type 0 = λ x. TellsReport old new r (status_of x) (form counts (status_of x)) in
      let U : Command → Type 0 = λ x. T (ended_by x taken sn.ended) in
      let here : Are c = subst Are (sym same) are in
      subst U same
      (subst T (sym (judges.ends taken sn.ended))
      (reports_as form old new r e (ended_in judging max taken sn.ended) found counts none P (λ there. only there here) h ending holds))

  -- where nothing ended the input nothing is reported
  pub read_unended : (so sn : SourceMeaning) (old new : SinkMeaning) (e : Ended) (counts : C) (taken : List ℕ) (r : Status) → TellsEnd form old new r e counts →
      endings.EndsAs e (ended_in judging max taken sn.ended) → SaysCommand words d → IsUnended d so sn taken → (e ≡ ended.ReadFault → Rose so.faults sn.faults) → new ≡ old
  read_unended so sn old new e counts taken r h ending says unended cause =
      let U : Command → Type 0 = λ x. ended_by x taken sn.ended ≡ ended.ReadFault in
      let goes_on : ended_in judging max taken sn.ended ≡ ended.ReadFault =
      sym (judges.ends taken sn.ended) ∙ subst U (one words d c says said) unended.goes_on in
      elim ending [
        | inl is ↦ absurd (unended.unfailed (cause (is ∙ goes_on)))
        | inr halt ↦ (at_stop e _ _ halt h).1
      ]

  -- some bytes were taken, and reading stops in time
  pub read_takes : (so sn : SourceMeaning) (P : List ℕ → Type 0) (bytes : List ℕ) → ((taken : List ℕ) → P taken → StopsInTime judging max so sn taken) →
      SaysCommand words d → so.left ≡ Some bytes → Took so sn P → (taken : List ℕ) × IsTaken so sn taken × StopsReading d so sn taken
  read_takes so sn P bytes stops says told took =
      let Q : Command → Type 0 = λ x. StopsReading x so sn took.0 in
      (took.0, consumed_is_taken so sn bytes took.0 told took.1, subst Q (one words c d said says) (judges.stops so sn took.0 (stops took.0 took.2)))
