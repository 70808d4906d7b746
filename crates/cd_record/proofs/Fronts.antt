-- Fronts of lists, and of records that may stand in one block.
use Rattle.std.proofs.Common.{◌≡◌, cond, List, [], ◌∷◌, ◌++◌, refl, sym, arith, ◌⊎◌, inl, inr}
use Rattle.std.proofs.lemmas.Bool.{cases_lt}
use Rattle.std.specs.List.{count_by}
use Rattle.std.proofs.lemmas.List.Sums.{sum_by-append}
use Rattle.cd_hints.specs.Records.{RecordParts, is_item, is_malformed}
use Rattle.cd_record.specs.Runs.{Limits, IsAdmissible, record_weight, run_weight}

-- of two fronts of one list, one goes on where the other ends, before what is left after that
pub record GoesOn {X : Type 0} (short long after_short after_long : List X) : Type 0 where
  pub first : X
  pub rest : List X
  pub longer : long ≡ short ++ first ∷ rest
  pub after : after_short ≡ first ∷ (rest ++ after_long)

-- two fronts of one list are one front, or one of them goes on where the other ends
pub data FrontsOfOne {X : Type 0} (xs ys after_xs after_ys : List X) : Type 0 where
  same : xs ≡ ys → after_xs ≡ after_ys → FrontsOfOne xs ys after_xs after_ys
  first_shorter : GoesOn xs ys after_xs after_ys → FrontsOfOne xs ys after_xs after_ys
  second_shorter : GoesOn ys xs after_ys after_xs → FrontsOfOne xs ys after_xs after_ys

pub fronts_of_one : {X : Type 0} (xs ys after_xs after_ys : List X) → xs ++ after_xs ≡ ys ++ after_ys → FrontsOfOne xs ys after_xs after_ys
fronts_of_one [] [] after_xs after_ys whole = same refl whole
fronts_of_one [] (y ∷ ys) after_xs after_ys whole = first_shorter (record { first = y; rest = ys; longer = refl; after = whole })
fronts_of_one (x ∷ xs) [] after_xs after_ys whole = second_shorter (record { first = x; rest = xs; longer = refl; after = sym whole })
fronts_of_one {X} (x ∷ xs) (y ∷ ys) after_xs after_ys whole =
    let head : x ≡ y = cc in
    let tail : xs ++ after_xs ≡ ys ++ after_ys = cc in
    elim (fronts_of_one xs ys after_xs after_ys tail) [
      | same equal after ↦ same (cc) after
      | first_shorter on ↦ let longer = on.longer in first_shorter (record { first = on.first; rest = on.rest; longer = cc; after = on.after })
      | second_shorter on ↦ let longer = on.longer in second_shorter (record { first = on.first; rest = on.rest; longer = cc; after = on.after })
    ]

-- a front of records that may stand in one block may stand in one block
pub IsAdmissible_front : (limits : Limits) (front back : List RecordParts) → IsAdmissible limits (front ++ back) → IsAdmissible limits front
IsAdmissible_front limits front back fits = record {
  few_items = omega (arith, fits.few_items, sum_by-append (λ (r : RecordParts). cond (is_item r) 1 0) front back);
  few_malformed = omega (arith, fits.few_malformed, sum_by-append (λ (r : RecordParts). cond (is_malformed r) 1 0) front back);
  light = omega (arith, fits.light, sum_by-append record_weight front back);
}

-- records may stand in one block, or they may not
pub admissible_or_not : (limits : Limits) (run : List RecordParts) → IsAdmissible limits run ⊎ ¬ (IsAdmissible limits run)
admissible_or_not limits run =
    elim (cases_lt limits.items (count_by is_item run)) [
      | inl many ↦ inr (λ h. let few = h.few_items in omega arith)
      | inr few_items ↦ elim (cases_lt limits.items (count_by is_malformed run)) [
        | inl many ↦ inr (λ h. let few = h.few_malformed in omega arith)
        | inr few_malformed ↦ elim (cases_lt limits.weight (run_weight run)) [
          | inl heavy ↦ inr (λ h. let light = h.light in omega arith)
          | inr light ↦ inl (record { few_items = few_items; few_malformed = few_malformed; light = light })
        ]
      ]
    ]
