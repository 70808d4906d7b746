-- What a cutter stands for, as records are pushed and it finishes.
use Rattle.std.proofs.Common.{◌≡◌, ◌↔◌, List, [], ◌∷◌, ◌++◌, IsNone, IfSome, Option, Some, None, refl, ap, sym, ◌∙◌, subst}
use Rattle.std.specs.List.{All}
use Rattle.std.proofs.lemmas.List.{append-nil, map-append}
use Rattle.std.proofs.lemmas.List.Elements.{All-nil, All-push}
use Rattle.cd_hints.specs.Records.{RecordParts}
use Rattle.cd_record.specs.declared.block_records.BlockRecords.{BlockRecords}
use Rattle.cd_record.specs.Runs.{Limits, IsAdmissible, AreRuns}
use Rattle.cd_record.specs.Blocks.{RunParts, run_parts, counted_run, IsCounted}
use Rattle.cd_record.specs.Cutting.{Present, StandsFor, Joins, Cuts, Pushes, AreCountedRuns, with_record, as_runs, given_runs, runs_in}
use Rattle.cd_record.proofs.RunLists.{filled_push, AreRuns_none, AreRuns_first, AreRuns_joined, AreRuns_cut}

-- the runs with a record that joins the present one
joined_runs : (limits : Limits) (run : List RecordParts) (r : RecordParts) (pushed : List RecordParts) (runs : List (List RecordParts)) →
    IsAdmissible limits (run ++ r ∷ []) → (run ≡ [] → runs ≡ []) → AreRuns limits pushed (runs ++ as_runs run) → AreRuns limits (pushed ++ r ∷ []) (runs ++ as_runs (run ++ r ∷ []))
joined_runs limits [] r pushed runs fits fresh before =
    let none : runs ≡ [] = fresh refl in
    let empty : pushed ≡ [] = (subst (λ (rs : List (List RecordParts)). AreRuns limits pushed (rs ++ [])) none before).whole in
    rw (none, empty) (AreRuns_first limits r fits)
joined_runs limits (first ∷ run) r pushed runs fits fresh before = AreRuns_joined limits pushed runs (first ∷ run) r (λ e. cc) fits before

-- the runs with a record that begins the next
cut_runs : (limits : Limits) (run : List RecordParts) (r : RecordParts) (pushed : List RecordParts) (runs : List (List RecordParts)) → IsAdmissible limits (r ∷ []) →
    ¬ (IsAdmissible limits (run ++ r ∷ [])) → AreRuns limits pushed (runs ++ as_runs run) → AreRuns limits (pushed ++ r ∷ []) ((runs ++ run ∷ []) ++ (r ∷ []) ∷ [])
cut_runs limits [] r pushed runs alone full before = absurd (full alone)
cut_runs limits (first ∷ run) r pushed runs alone full before = AreRuns_cut limits pushed runs (first ∷ run) r alone full before

-- a cutter with no record
pub StandsFor_fresh : (present : Present) → present.run ≡ [] → StandsFor present [] []
StandsFor_fresh present empty = record {
  runs = subst (λ (run : List RecordParts). AreRuns present.limits [] (as_runs run)) (sym empty) (AreRuns_none present.limits);
  counted = All-nil (IsCounted present.ticks);
  fresh = λ e. refl;
}

-- a record joins the present run
pub StandsFor_joined : (old new : Present) (r : RecordParts) (pushed : List RecordParts) (runs : List RunParts) → Joins old r new → StandsFor old pushed runs →
    StandsFor new (pushed ++ r ∷ []) (runs ++ [])
StandsFor_joined old new r pushed runs joins before =
    let after : StandsFor (record old { run = with_record old r }) (pushed ++ r ∷ []) runs = record {
      runs = joined_runs old.limits old.run r pushed (runs_in runs) joins.admissible (λ e. ap runs_in (before.fresh e)) before.runs;
      counted = before.counted;
      fresh = λ e. absurd (filled_push old.run r e);
    } in
    rw (joins.present, append-nil runs) after

-- a record begins the next run
pub StandsFor_cut : (old new : Present) (r : RecordParts) (given : RunParts) (pushed : List RecordParts) (runs : List RunParts) → IsAdmissible old.limits (r ∷ []) →
    Cuts old r given new → StandsFor old pushed runs → StandsFor new (pushed ++ r ∷ []) (runs ++ given ∷ [])
StandsFor_cut old new r given pushed runs alone cuts before =
    let all : runs_in runs ++ old.run ∷ [] ≡ runs_in (runs ++ counted_run old.ticks old.run ∷ []) =
    sym (map-append (λ (run : RunParts). run.records) runs (counted_run old.ticks old.run ∷ [])) in
    let after : StandsFor (record old { run = r ∷ [] }) (pushed ++ r ∷ []) (runs ++ counted_run old.ticks old.run ∷ []) = record {
      runs = subst (λ (rs : List (List RecordParts)). AreRuns old.limits (pushed ++ r ∷ []) (rs ++ (r ∷ []) ∷ [])) all
          (cut_runs old.limits old.run r pushed (runs_in runs) alone cuts.not_admissible before.runs);
      counted = All-push (IsCounted old.ticks) runs (counted_run old.ticks old.run) before.counted refl;
      fresh = λ e. absurd (filled_push [] r e);
    } in
    rw (cuts.present, cuts.given_run) after

-- one push
pub StandsFor_push : (old new : Present) (r : RecordParts) (given : Option BlockRecords) (pushed : List RecordParts) (runs : List RunParts) →
    IsAdmissible old.limits (r ∷ []) → Pushes old r given new → StandsFor old pushed runs → StandsFor new (pushed ++ r ∷ []) (runs ++ given_runs given)
StandsFor_push old new r None pushed runs alone joins before = StandsFor_joined old new r pushed runs joins before
StandsFor_push old new r (Some b) pushed runs alone cuts before = StandsFor_cut old new r (run_parts b) pushed runs alone cuts before

-- the present run, as the answer of a cutter that finishes gives it
as_runs_given : (run : List RecordParts) (given : Option BlockRecords) → IsNone given ↔ (run ≡ []) → IfSome given (λ b. (run_parts b).records ≡ run) →
    as_runs run ≡ runs_in (given_runs given)
as_runs_given [] None none same = refl
as_runs_given [] (Some b) none same = absurd (let e : IsNone (Some b) = none.1 refl in cc)
as_runs_given (r ∷ run) None none same = absurd (let e : r ∷ run ≡ [] = none.0 refl in cc)
as_runs_given (r ∷ run) (Some b) none same = ap (λ (one : List RecordParts). one ∷ []) (sym same)

-- the runs given, with the one that the present run gives
finished_runs : (present : Present) (given : Option BlockRecords) (pushed : List RecordParts) (runs : List RunParts) → as_runs present.run ≡ runs_in (given_runs given) →
    StandsFor present pushed runs → AreRuns present.limits pushed (runs_in (runs ++ given_runs given))
finished_runs present given pushed runs last before =
    subst (AreRuns present.limits pushed)
    (ap (λ (back : List (List RecordParts)). runs_in runs ++ back) last ∙ sym (map-append (λ (run : RunParts). run.records) runs (given_runs given)))
    before.runs

-- with the present run the runs given are those of the records pushed
pub AreRuns_finish : (present : Present) (given : Option BlockRecords) (pushed : List RecordParts) (runs : List RunParts) → IsNone given ↔ (present.run ≡ []) →
    IfSome given (λ b. run_parts b ≡ counted_run present.ticks present.run) → StandsFor present pushed runs →
    AreCountedRuns present.limits present.ticks pushed (runs ++ given_runs given)
AreRuns_finish present None pushed runs none same before = record {
  runs = finished_runs present None pushed runs (as_runs_given present.run None none tt) before;
  counted = subst (All (IsCounted present.ticks)) (sym (append-nil runs)) before.counted;
}
AreRuns_finish present (Some b) pushed runs none same before =
    let records : (run_parts b).records ≡ present.run = ap (λ (run : RunParts). run.records) same in
    record {
      runs = finished_runs present (Some b) pushed runs (as_runs_given present.run (Some b) none records) before;
      counted = All-push (IsCounted present.ticks) runs (run_parts b) before.counted (same ∙ ap (counted_run present.ticks) (sym records));
    }
