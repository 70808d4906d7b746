-- Records are cut into the runs of `runs_of`, and into no others.
use Rattle.std.proofs.Common.{◌≡◌, ◌-◌, true, false, ◌&&◌, cond, List, [], ◌∷◌, ◌++◌, length, take, refl, ap, sym, ◌∙◌, subst, arith, append_assoc, length-append, inl, inr}
use Rattle.std.specs.List.{All, fold, count_by}
use Rattle.std.specs.Prelude.{nat_le}
use Rattle.std.proofs.lemmas.Bool.{cases_Bool, and_parts, and_from, leb-true, le-leb, both_ways}
use Rattle.std.proofs.lemmas.List.{append-nil, map-append, take_at}
use Rattle.std.proofs.lemmas.List.Elements.{All-nil, All-cons, All-head, All-tail, All-append, All-same}
use Rattle.std.proofs.lemmas.List.Sums.{sum_by-append}
use Rattle.cd_hints.specs.Records.{RecordParts, is_item, is_malformed}
use Rattle.cd_record.proofs.Fronts.{IsAdmissible_front}
use Rattle.cd_record.proofs.Histories.{StandsFor_fresh, StandsFor_joined, StandsFor_cut}
use Rattle.cd_record.proofs.OneCut.{cut_in_one_way}
use Rattle.cd_record.proofs.RunLists.{records_of}
use Rattle.cd_record.specs.Blocks.{RunParts, counted_run}
use Rattle.cd_record.specs.Cutting.{Present, StandsFor, as_runs, runs_in}
use Rattle.cd_record.specs.Laws.{IsAdmissibleAlone}
use Rattle.cd_record.specs.Runs.{Limits, IsAdmissible, AreRuns, record_weight, run_weight}
use Rattle.cd_engine.specs.Behaving.{CutRecords, is_admissible, cut_more, cut_of, runs_of}
use Rattle.cd_engine.specs.Compactions.{but_last}

-- what the test tells
pub admissible_told : (limits : Limits) (run : List RecordParts) → is_admissible limits run ≡ true → IsAdmissible limits run
unfolding is_admissible
admissible_told limits run e =
    let items = and_parts (nat_le (count_by is_item run) limits.items) (nat_le (count_by is_malformed run) limits.items && nat_le (run_weight run) limits.weight) e in
    let others = and_parts (nat_le (count_by is_malformed run) limits.items) (nat_le (run_weight run) limits.weight) items.1 in
    record { few_items = leb-true _ _ items.0; few_malformed = leb-true _ _ others.0; light = leb-true _ _ others.1 }

-- and what it tells where it fails
pub inadmissible_told : (limits : Limits) (run : List RecordParts) → is_admissible limits run ≡ false → ¬ (IsAdmissible limits run)
unfolding is_admissible
inadmissible_told limits run e h =
    both_ways (is_admissible limits run) e
    (and_from (nat_le (count_by is_item run) limits.items) (nat_le (count_by is_malformed run) limits.items && nat_le (run_weight run) limits.weight)
    (le-leb _ _ h.few_items)
    (and_from (nat_le (count_by is_malformed run) limits.items) (nat_le (run_weight run) limits.weight) (le-leb _ _ h.few_malformed) (le-leb _ _ h.light)))

-- records after others that may stand in one block with them may stand in one block
IsAdmissible_back : (limits : Limits) (front back : List RecordParts) → IsAdmissible limits (front ++ back) → IsAdmissible limits back
IsAdmissible_back limits front back fits = record {
  few_items = omega (arith, fits.few_items, sum_by-append (λ (r : RecordParts). cond (is_item r) 1 0) front back);
  few_malformed = omega (arith, fits.few_malformed, sum_by-append (λ (r : RecordParts). cond (is_malformed r) 1 0) front back);
  light = omega (arith, fits.light, sum_by-append record_weight front back);
}

-- each record of a run may stand in a block alone
run_alone : (limits : Limits) (run : List RecordParts) → IsAdmissible limits run → All (IsAdmissibleAlone limits) run
run_alone limits [] fits = All-nil (IsAdmissibleAlone limits)
run_alone limits (r ∷ run) fits =
    All-cons (IsAdmissibleAlone limits) r run (IsAdmissible_front limits (r ∷ []) run fits)
    (run_alone limits run (IsAdmissible_back limits (r ∷ []) run fits))

-- each record of some runs may
runs_alone : (limits : Limits) (runs : List (List RecordParts)) → All (IsAdmissible limits) runs → All (IsAdmissibleAlone limits) (records_of runs)
runs_alone limits [] fit = All-nil (IsAdmissibleAlone limits)
runs_alone limits (run ∷ runs) fit =
    All-append (IsAdmissibleAlone limits) run (records_of runs) (run_alone limits run (All-head (IsAdmissible limits) run runs fit))
    (runs_alone limits runs (All-tail (IsAdmissible limits) run runs fit))

-- where records have runs, each may stand in a block alone
pub records_alone : (limits : Limits) (records : List RecordParts) (runs : List (List RecordParts)) → AreRuns limits records runs →
    All (IsAdmissibleAlone limits) records
records_alone limits records runs cut = All-same (IsAdmissibleAlone limits) records (records_of runs) cut.whole (runs_alone limits runs cut.admissible)

-- a cutter of this present run that counts no ticks
abbrev pub present_with : Limits → List RecordParts → Present
present_with limits run = record { limits = limits; ticks = 0; run = run }

-- the cut stands for these records
record CutStands (limits : Limits) (records : List RecordParts) (cut : CutRecords) : Type 0 where
  given : List RunParts
  closed : runs_in given ≡ cut.closed
  stands : StandsFor (present_with limits cut.present) records given

-- no record is cut
none_cut : (limits : Limits) → CutStands limits [] (record { closed = []; present = [] })
none_cut limits = record { given = []; closed = refl; stands = StandsFor_fresh (present_with limits []) refl }

-- one record more
one_more : (limits : Limits) (records : List RecordParts) (cut : CutRecords) (r : RecordParts) → IsAdmissible limits (r ∷ []) →
    CutStands limits records cut → CutStands limits (records ++ r ∷ []) (cut_more limits cut r)
one_more limits records cut r alone before =
    let old : Present = present_with limits cut.present in
    let run : List RecordParts = cut.present ++ r ∷ [] in
    elim (cases_Bool (is_admissible limits run)) [
      | inl fits ↦ rw fits (record {
        given = before.given ++ [];
        closed = ap runs_in (append-nil before.given) ∙ before.closed;
        stands = StandsFor_joined old (present_with limits run) r records before.given
            (record { admissible = admissible_told limits run fits; present = refl }) before.stands;
      })
      | inr full ↦ rw full (record {
        given = before.given ++ counted_run 0 cut.present ∷ [];
        closed = map-append (λ (one : RunParts). one.records) before.given (counted_run 0 cut.present ∷ [])
            ∙ ap (λ (t : List (List RecordParts)). t ++ cut.present ∷ []) before.closed;
        stands = StandsFor_cut old (present_with limits (r ∷ [])) r (counted_run 0 cut.present) records before.given alone
            (record { not_admissible = inadmissible_told limits run full; given_run = refl; present = refl }) before.stands;
      })
    ]

-- some records more
further : (limits : Limits) (rest records : List RecordParts) (cut : CutRecords) → All (IsAdmissibleAlone limits) rest →
    CutStands limits records cut → CutStands limits (records ++ rest) (fold (cut_more limits) cut rest)
further limits [] records cut alone before = rw append-nil before
further limits (r ∷ rest) records cut alone before =
    let next : CutRecords = cut_more limits cut r in
    let more : CutStands limits (records ++ r ∷ []) next = one_more limits records cut r (All-head (IsAdmissibleAlone limits) r rest alone) before in
    let P : List RecordParts → Type 0 = λ all. CutStands limits all (fold (cut_more limits) next rest) in
    subst P (append_assoc records (r ∷ []) rest)
    (further limits rest (records ++ r ∷ []) next (All-tail (IsAdmissibleAlone limits) r rest alone) more)

-- all records
cut_stands : (limits : Limits) (records : List RecordParts) → All (IsAdmissibleAlone limits) records → CutStands limits records (cut_of limits records)
unfolding cut_of
cut_stands limits records alone = further limits records [] (record { closed = []; present = [] }) alone (none_cut limits)

-- the runs of records of which each may stand in a block alone
pub runs_hold : (limits : Limits) (records : List RecordParts) → All (IsAdmissibleAlone limits) records → AreRuns limits records (runs_of limits records)
runs_hold limits records alone =
    let cut : CutRecords = cut_of limits records in
    let h = cut_stands limits records alone in
    let P : List (List RecordParts) → Type 0 = λ closed. AreRuns limits records (closed ++ as_runs cut.present) in
    subst P h.closed h.stands.runs

-- records have no other runs
pub runs_only : (limits : Limits) (records : List RecordParts) (runs : List (List RecordParts)) → AreRuns limits records runs →
    runs ≡ runs_of limits records
runs_only limits records runs h =
    let alone = records_alone limits records runs h in
    let one = cut_in_one_way limits records alone in
    one.only runs h ∙ sym (one.only (runs_of limits records) (runs_hold limits records alone))

-- the runs but the last are those that are closed
but_last_closed : (closed : List (List RecordParts)) (present : List RecordParts) → (present ≡ [] → closed ≡ []) →
    but_last (closed ++ as_runs present) ≡ closed
but_last_closed closed [] fresh = rw (fresh refl) refl
but_last_closed closed (r ∷ present) fresh =
    let last : List (List RecordParts) = (r ∷ present) ∷ [] in
    let count : length (closed ++ last) - 1 ≡ length closed = omega (arith, length-append closed last) in
    ap (λ n. take n (closed ++ last)) count ∙ take_at closed last (length closed) refl

-- and so of any runs of some records
pub closed_only : (limits : Limits) (records : List RecordParts) (runs : List (List RecordParts)) → AreRuns limits records runs →
    but_last runs ≡ (cut_of limits records).closed
closed_only limits records runs h =
    let k = cut_stands limits records (records_alone limits records runs h) in
    ap but_last (runs_only limits records runs h)
    ∙ but_last_closed (cut_of limits records).closed (cut_of limits records).present (λ e. sym k.closed ∙ ap runs_in (k.stands.fresh e))
