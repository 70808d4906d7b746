-- The runs that are closed, as more records come.
use Rattle.std.proofs.Common.{◌≡◌, List, [], ◌∷◌, ◌++◌, refl, ap, sym, ◌∙◌, append_assoc, inl, inr}
use Rattle.std.specs.List.{fold}
use Rattle.std.proofs.lemmas.Bool.{cases_Bool}
use Rattle.std.proofs.lemmas.List.{append-nil}
use Rattle.std.proofs.lemmas.List.Sums.{fold-append}
use Rattle.cd_hints.specs.Records.{RecordParts}
use Rattle.cd_record.specs.Cutting.{as_runs}
use Rattle.cd_record.specs.Runs.{Limits}
use Rattle.cd_engine.specs.Behaving.{CutRecords, is_admissible, cut_more, cut_of, runs_of}

-- some runs, and maybe others after them
abbrev pub RunsGoOn : List (List RecordParts) → List (List RecordParts) → Type 0
RunsGoOn now later = (rest : List (List RecordParts)) × (later ≡ now ++ rest)

-- one record more
closed_more : (limits : Limits) (cut : CutRecords) (r : RecordParts) → RunsGoOn cut.closed (cut_more limits cut r).closed
closed_more limits cut r =
    elim (cases_Bool (is_admissible limits (cut.present ++ r ∷ []))) [
      | inl fits ↦ ([], rw fits (sym (append-nil cut.closed)))
      | inr full ↦ (cut.present ∷ [], rw full refl)
    ]

-- some records more
closed_further : (limits : Limits) (cut : CutRecords) (rs : List RecordParts) → RunsGoOn cut.closed (fold (cut_more limits) cut rs).closed
closed_further limits cut [] = ([], sym (append-nil cut.closed))
closed_further limits cut (r ∷ rs) =
    let one = closed_more limits cut r in
    let others = closed_further limits (cut_more limits cut r) rs in
    (one.0 ++ others.0, others.1 ∙ ap (λ t. t ++ others.0) one.1 ∙ append_assoc cut.closed one.0 others.0)

-- what is closed stays as more records come
pub closed_go_on : (limits : Limits) (rs more : List RecordParts) → RunsGoOn (cut_of limits rs).closed (cut_of limits (rs ++ more)).closed
unfolding cut_of
closed_go_on limits rs more =
    let start : CutRecords = record { closed = []; present = [] } in
    let k = closed_further limits (fold (cut_more limits) start rs) more in
    (k.0, ap (λ (c : CutRecords). c.closed) (fold-append (cut_more limits) start rs more) ∙ k.1)

-- and stands before the other runs
pub runs_go_on : (limits : Limits) (rs more : List RecordParts) → RunsGoOn (cut_of limits rs).closed (runs_of limits (rs ++ more))
runs_go_on limits rs more =
    let k = closed_go_on limits rs more in
    let last : List (List RecordParts) = as_runs (cut_of limits (rs ++ more)).present in
    (k.0 ++ last, ap (λ t. t ++ last) k.1 ∙ append_assoc (cut_of limits rs).closed k.0 last)
