-- Records of which each may stand in a block alone are cut into runs in exactly one way.
use Rattle.std.proofs.Common.{◌≡◌, ◌≢◌, List, [], ◌∷◌, ◌++◌, refl, sym, ◌∙◌, subst, append_assoc, inl, inr}
use Rattle.std.specs.List.{All}
use Rattle.std.proofs.lemmas.List.{append-nil}
use Rattle.std.proofs.lemmas.List.Elements.{All-head, All-tail}
use Rattle.cd_hints.specs.Records.{RecordParts}
use Rattle.cd_record.specs.Blocks.{RunParts, counted_run}
use Rattle.cd_record.specs.Cutting.{Present, StandsFor, as_runs, runs_in}
use Rattle.cd_record.specs.Laws.{IsAdmissibleAlone, RunsAreOne}
use Rattle.cd_record.specs.Runs.{Limits, IsAdmissible, AreRuns}
use Rattle.cd_record.proofs.Fronts.{GoesOn, fronts_of_one, same, first_shorter, second_shorter, IsAdmissible_front, admissible_or_not}
use Rattle.cd_record.proofs.Histories.{StandsFor_fresh, StandsFor_joined, StandsFor_cut}
use Rattle.cd_record.proofs.RunLists.{records_of}

-- what a cutter keeps that counts no ticks
abbrev present_with : Limits → List RecordParts → Present
present_with limits run = record { limits = limits; ticks = 0; run = run }

-- the runs of some records, with the present one after the others
record Cut (limits : Limits) (records : List RecordParts) : Type 0 where
  runs : List RunParts
  run : List RecordParts
  stands : StandsFor (present_with limits run) records runs

-- one more record
cut_more : (limits : Limits) (records : List RecordParts) (r : RecordParts) → IsAdmissible limits (r ∷ []) → Cut limits records → Cut limits (records ++ r ∷ [])
cut_more limits records r alone before =
    let old : Present = present_with limits before.run in
    elim (admissible_or_not limits (before.run ++ r ∷ [])) [
      | inl fits ↦ record {
        runs = before.runs ++ [];
        run = before.run ++ r ∷ [];
        stands = StandsFor_joined old (present_with limits (before.run ++ r ∷ [])) r records before.runs (record { admissible = fits; present = refl }) before.stands;
      }
      | inr full ↦ record {
        runs = before.runs ++ counted_run 0 before.run ∷ [];
        run = r ∷ [];
        stands = StandsFor_cut old (present_with limits (r ∷ [])) r (counted_run 0 before.run) records before.runs alone
            (record { not_admissible = full; given_run = refl; present = refl }) before.stands;
      }
    ]

-- all further records
cut_rest : (limits : Limits) (rest records : List RecordParts) → All (IsAdmissibleAlone limits) rest → Cut limits records → Cut limits (records ++ rest)
cut_rest limits [] records alone before = rw append-nil before
cut_rest limits (r ∷ rest) records alone before =
    let more : Cut limits (records ++ r ∷ []) = cut_more limits records r (All-head (IsAdmissibleAlone limits) r rest alone) before in
    subst (λ (all : List RecordParts). Cut limits all) (append_assoc records (r ∷ []) rest)
    (cut_rest limits rest (records ++ r ∷ []) (All-tail (IsAdmissibleAlone limits) r rest alone) more)

-- runs after the first are those of the records after it
AreRuns_rest : (limits : Limits) (records run : List RecordParts) (runs : List (List RecordParts)) → AreRuns limits records (run ∷ runs) → AreRuns limits (records_of runs) runs
AreRuns_rest limits records run [] all = record {
  whole = refl;
  not_empty = All-tail (λ (one : List RecordParts). one ≢ []) run [] all.not_empty;
  admissible = All-tail (IsAdmissible limits) run [] all.admissible;
  long = tt;
}
AreRuns_rest limits records run (next ∷ runs) all = record {
  whole = refl;
  not_empty = All-tail (λ (one : List RecordParts). one ≢ []) run (next ∷ runs) all.not_empty;
  admissible = All-tail (IsAdmissible limits) run (next ∷ runs) all.admissible;
  long = all.long.1;
}

-- runs that are none have no records, and runs that are some have one
some_records : (limits : Limits) (run : List RecordParts) (runs : List (List RecordParts)) → AreRuns limits [] (run ∷ runs) → ⊥
some_records limits [] runs all = All-head (λ (one : List RecordParts). one ≢ []) [] runs all.not_empty refl
some_records limits (r ∷ run) runs all = (let e = all.whole in cc)

-- the first record after a run that is followed by others could not stand in one block with it
not_longer : (limits : Limits) (records run longer : List RecordParts) (runs : List (List RecordParts)) (after : List RecordParts) → AreRuns limits records (run ∷ runs) →
    GoesOn run longer (records_of runs) after → ¬ (IsAdmissible limits longer)
not_longer limits records run longer [] after all on fits = (let e = on.after in cc)
not_longer limits records run longer ([] ∷ runs) after all on fits =
    All-head (λ (one : List RecordParts). one ≢ []) [] runs (All-tail (λ (one : List RecordParts). one ≢ []) run ([] ∷ runs) all.not_empty) refl
not_longer limits records run longer ((r ∷ next) ∷ runs) after all on fits =
    let first : r ≡ on.first = (let e = on.after in cc) in
    let split : longer ≡ (run ++ r ∷ []) ++ on.rest = on.longer ∙ rw first (sym (append_assoc run (on.first ∷ []) on.rest)) in
    all.long.0 (IsAdmissible_front limits (run ++ r ∷ []) on.rest (subst (IsAdmissible limits) split fits))

-- records have one list of runs at most
one_cut : (limits : Limits) (records : List RecordParts) (runs others : List (List RecordParts)) → AreRuns limits records runs → AreRuns limits records others → runs ≡ others
one_cut limits records [] [] all also = refl
one_cut limits records [] (other ∷ others) all also = absurd (some_records limits other others (subst (λ (rs : List RecordParts). AreRuns limits rs (other ∷ others)) all.whole also))
one_cut limits records (run ∷ runs) [] all also = absurd (some_records limits run runs (subst (λ (rs : List RecordParts). AreRuns limits rs (run ∷ runs)) also.whole all))
one_cut limits records (run ∷ runs) (other ∷ others) all also =
    elim (fronts_of_one run other (records_of runs) (records_of others) (sym all.whole ∙ also.whole)) [
      | same equal after ↦
          let rest : AreRuns limits (records_of runs) others = subst (λ (rs : List RecordParts). AreRuns limits rs others) (sym after) (AreRuns_rest limits records other others also) in
          let same_rest : runs ≡ others = one_cut limits (records_of runs) runs others (AreRuns_rest limits records run runs all) rest in
          cc
      | first_shorter on ↦ absurd (not_longer limits records run other runs (records_of others) all on (All-head (IsAdmissible limits) other others also.admissible))
      | second_shorter on ↦ absurd (not_longer limits records other run others (records_of runs) also on (All-head (IsAdmissible limits) run runs all.admissible))
    ]

-- the runs are those of a cutter that takes the records one by one, and there are no others
pub cut_in_one_way : RunsAreOne
cut_in_one_way limits records alone =
    let cut : Cut limits records = cut_rest limits records [] alone (record { runs = []; run = []; stands = StandsFor_fresh (present_with limits []) refl }) in
    record {
      runs = runs_in cut.runs ++ as_runs cut.run;
      holds = cut.stands.runs;
      only = λ other holds. one_cut limits records other (runs_in cut.runs ++ as_runs cut.run) holds cut.stands.runs;
    }
