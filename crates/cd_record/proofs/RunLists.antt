-- The runs of a list of records, with one more record at its end.
use Rattle.std.proofs.Common.{◌≡◌, ◌≢◌, List, [], ◌∷◌, ◌++◌, take, refl, ap, sym, ◌∙◌, subst, append_assoc}
use Rattle.std.specs.List.{All, flat_map}
use Rattle.std.proofs.lemmas.List.{append-nil}
use Rattle.std.proofs.lemmas.List.Concat.{flat_map-append}
use Rattle.std.proofs.lemmas.List.Elements.{All-nil, All-cons, All-head, All-tail, All-push}
use Rattle.cd_hints.specs.Records.{RecordParts}
use Rattle.cd_record.specs.Runs.{Limits, IsAdmissible, AreLongest, AreRuns}

-- the records of some runs
abbrev pub records_of : List (List RecordParts) → List RecordParts
records_of runs = flat_map (λ run. run) runs

-- what holds of each element of a list holds of each of a front
pub All_front : {X : Type 0} (P : X → Type 0) (xs ys : List X) → All P (xs ++ ys) → All P xs
All_front P [] ys each = All-nil P
All_front P (x ∷ xs) ys each = All-cons P x xs (All-head P x (xs ++ ys) each) (All_front P xs ys (All-tail P x (xs ++ ys) each))

-- the last run stands after the records of the others
pub records_of_last : (runs : List (List RecordParts)) (run : List RecordParts) → records_of (runs ++ run ∷ []) ≡ records_of runs ++ run
records_of_last runs run = flat_map-append (λ r. r) runs (run ∷ []) ∙ ap (λ (back : List RecordParts). records_of runs ++ back) (append-nil run)

-- a list with one more element is not empty
pub filled_push : {X : Type 0} (xs : List X) (x : X) → xs ++ x ∷ [] ≢ []
filled_push [] x e = cc
filled_push (first ∷ xs) x e = cc

-- whatever comes after it, a run that is not empty keeps its first record
take_first : (run more : List RecordParts) → run ≢ [] → take 1 run ≡ take 1 (run ++ more)
take_first [] more filled = absurd (filled refl)
take_first (r ∷ run) more filled = refl

-- runs are long whatever follows the first record of the last
AreLong_same_start : (limits : Limits) (runs : List (List RecordParts)) (run other : List RecordParts) → take 1 run ≡ take 1 other →
    AreLongest limits (runs ++ run ∷ []) → AreLongest limits (runs ++ other ∷ [])
AreLong_same_start limits [] run other same long = tt
AreLong_same_start limits (first ∷ []) run other same long =
    (λ h. long.0 (subst (λ (start : List RecordParts). IsAdmissible limits (first ++ start)) (sym same) h), tt)
AreLong_same_start limits (first ∷ second ∷ runs) run other same long = (long.0, AreLong_same_start limits (second ∷ runs) run other same long.1)

-- runs with one more are long, where the last could not stand in one block with its first record
AreLong_push : (limits : Limits) (runs : List (List RecordParts)) (run next : List RecordParts) → ¬ (IsAdmissible limits (run ++ take 1 next)) →
    AreLongest limits (runs ++ run ∷ []) → AreLongest limits ((runs ++ run ∷ []) ++ next ∷ [])
AreLong_push limits [] run next full long = (full, tt)
AreLong_push limits (first ∷ []) run next full long = (long.0, (full, tt))
AreLong_push limits (first ∷ second ∷ runs) run next full long = (long.0, AreLong_push limits (second ∷ runs) run next full long.1)

-- no records have no runs
pub AreRuns_none : (limits : Limits) → AreRuns limits [] []
AreRuns_none limits = record {
  whole = refl;
  not_empty = All-nil (λ (run : List RecordParts). run ≢ []);
  admissible = All-nil (IsAdmissible limits);
  long = tt;
}

-- a record that may stand in a block alone is one run
pub AreRuns_first : (limits : Limits) (r : RecordParts) → IsAdmissible limits (r ∷ []) → AreRuns limits (r ∷ []) ((r ∷ []) ∷ [])
AreRuns_first limits r alone = record {
  whole = refl;
  not_empty = All-push (λ (run : List RecordParts). run ≢ []) [] (r ∷ []) (All-nil (λ (run : List RecordParts). run ≢ [])) (filled_push [] r);
  admissible = All-push (IsAdmissible limits) [] (r ∷ []) (All-nil (IsAdmissible limits)) alone;
  long = tt;
}

-- a record that may stand in one block with the last run joins it
pub AreRuns_joined : (limits : Limits) (records : List RecordParts) (runs : List (List RecordParts)) (run : List RecordParts) (r : RecordParts) → run ≢ [] →
    IsAdmissible limits (run ++ r ∷ []) → AreRuns limits records (runs ++ run ∷ []) → AreRuns limits (records ++ r ∷ []) (runs ++ (run ++ r ∷ []) ∷ [])
AreRuns_joined limits records runs run r filled fits before = record {
  whole =
      ap (λ (front : List RecordParts). front ++ r ∷ []) (before.whole ∙ records_of_last runs run)
      ∙ append_assoc (records_of runs) run (r ∷ []) ∙ sym (records_of_last runs (run ++ r ∷ []));
  not_empty = let P : List RecordParts → Type 0 = λ one. one ≢ [] in
      All-push P runs (run ++ r ∷ []) (All_front P runs (run ∷ []) before.not_empty) (filled_push run r);
  admissible = All-push (IsAdmissible limits) runs (run ++ r ∷ []) (All_front (IsAdmissible limits) runs (run ∷ []) before.admissible) fits;
  long = AreLong_same_start limits runs run (run ++ r ∷ []) (take_first run (r ∷ []) filled) before.long;
}

-- a record that may not stand in one block with the last run begins the next
pub AreRuns_cut : (limits : Limits) (records : List RecordParts) (runs : List (List RecordParts)) (run : List RecordParts) (r : RecordParts) →
    IsAdmissible limits (r ∷ []) → ¬ (IsAdmissible limits (run ++ r ∷ [])) → AreRuns limits records (runs ++ run ∷ []) →
    AreRuns limits (records ++ r ∷ []) ((runs ++ run ∷ []) ++ (r ∷ []) ∷ [])
AreRuns_cut limits records runs run r alone full before = record {
  whole = ap (λ (front : List RecordParts). front ++ r ∷ []) before.whole ∙ sym (records_of_last (runs ++ run ∷ []) (r ∷ []));
  not_empty = All-push (λ (one : List RecordParts). one ≢ []) (runs ++ run ∷ []) (r ∷ []) before.not_empty (filled_push [] r);
  admissible = All-push (IsAdmissible limits) (runs ++ run ∷ []) (r ∷ []) before.admissible alone;
  long = AreLong_push limits runs run (r ∷ []) full before.long;
}
