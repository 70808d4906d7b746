-- What is kept of a run, record by record.
use Rattle.std.proofs.Common.{◌≡◌, ◌∙◌, ℕ, ◌<◌, ◌≤◌, min, Option, Some, None, List, [], ◌∷◌, length, map, get_or, sym, ap, subst, arith}
use Rattle.std.specs.List.{All, AllByRecursion, filter_map, cons_option, reduce, fold}
use Rattle.std.specs.Option.{IfSome, option_map}
use Rattle.std.proofs.lemmas.List.{get_or-map, length-map}
use Rattle.std.proofs.lemmas.Nat.{div-add-mod'}
use Rattle.std.proofs.lemmas.List.Elements.{All-from_recursion}
use Rattle.cd_block.specs.declared.stamp.Stamp.{Stamp}
use Rattle.cd_hints.specs.Records.{RecordParts, pair, unmatched_query, unmatched_response, malformed, discarded, record_parts, main_event, IsItem, IsMalformed}
use Rattle.cd_hints.specs.Ticks.{stamp_tick, IsAtOrBefore}
use Rattle.cd_hints.specs.declared.record.Rec.{Rec}
use Rattle.cd_record.specs.Earliest.{IsEarly, IsEarlyForEach}
use Rattle.cd_record.specs.Earliest.{record_tick, earliest_time, stamp_of}

-- what holds of each record of a run holds of the one at an index
pub record_at : (P : RecordParts → Type 0) (recs : List Rec) (i : ℕ) (rec : Rec) → i < length recs → rec ≡ get_or recs i rec →
    All P (map record_parts recs) → P (record_parts rec)
record_at P recs i rec within is all =
    let short : i < length (map record_parts recs) = rw length-map within in
    let at : get_or (map record_parts recs) i (record_parts rec) ≡ record_parts rec = get_or-map record_parts recs i rec (record_parts rec) within ∙ ap record_parts (sym is) in
    subst P at (all i (record_parts rec) short)

-- a stamp that is early for an item is at or before the item's time
pub early_item : (ticks : ℕ) (s : Stamp) (r : RecordParts) → IsItem r → IsEarly ticks s r → IsAtOrBefore ticks s (main_event r).time
early_item ticks s (pair query response) item early = early
early_item ticks s (unmatched_query e) item early = early
early_item ticks s (unmatched_response e) item early = early
early_item ticks s (malformed e) item early = absurd (cc item)
early_item ticks s (discarded e) item early = absurd (cc item)

-- a stamp that is early for a malformed record is at or before its time
pub early_malformed : (ticks : ℕ) (s : Stamp) (r : RecordParts) → IsMalformed r → IsEarly ticks s r → IsAtOrBefore ticks s (main_event r).time
early_malformed ticks s (pair query response) is early = absurd (cc is)
early_malformed ticks s (unmatched_query e) is early = absurd (cc is)
early_malformed ticks s (unmatched_response e) is early = absurd (cc is)
early_malformed ticks s (malformed e) is early = early
early_malformed ticks s (discarded e) is early = absurd (cc is)

-- the least of some numbers is below each of them
least_below : (a : ℕ) (xs : List ℕ) → (fold min a xs ≤ a) × AllByRecursion (λ x. fold min a xs ≤ x) xs
least_below a [] = (omega arith, tt)
least_below a (x ∷ xs) =
    let rest = least_below (min a x) xs in
    (omega (arith, rest.0), (omega (arith, rest.0), rest.1))

-- what holds of each of some values holds of the first, where it is there, and of the others
first_of_values : (P : ℕ → Type 0) (o : Option ℕ) (xs : List ℕ) → AllByRecursion P (cons_option o xs) → IfSome o P × AllByRecursion P xs
first_of_values P None xs all = (tt, all)
first_of_values P (Some x) xs all = all

-- what holds of each value that the items of a list give holds of what each item gives
values_of_items : (P : ℕ → Type 0) (h : RecordParts → Option ℕ) (run : List RecordParts) → AllByRecursion P (filter_map h run) →
    AllByRecursion (λ r. IfSome (h r) P) run
values_of_items P h [] all = tt
values_of_items P h (r ∷ run) all =
    let parts = first_of_values P (h r) (filter_map h run) all in
    (parts.0, values_of_items P h run parts.1)

-- the stamp of the least of some ticks is at or before each
stamp_below : (ticks : ℕ) (s : Stamp) (xs : List ℕ) → Some s ≡ option_map (stamp_of ticks) (reduce min xs) → AllByRecursion (λ x. stamp_tick ticks s ≤ x) xs
stamp_below ticks s [] e = tt
stamp_below ticks s (x ∷ xs) e =
    let is : s ≡ stamp_of ticks (fold min x xs) = cc in
    let tick : stamp_tick ticks s ≡ fold min x xs = rw is (div-add-mod' (fold min x xs) ticks) in
    let P : ℕ → Type 0 = λ m. (m ≤ x) × AllByRecursion (λ y. m ≤ y) xs in
    subst P (sym tick) (least_below x xs)

-- the earliest time of a run is at or before the time of each of its records
pub earliest_is_early : (ticks : ℕ) (s : Stamp) (run : List RecordParts) → Some s ≡ earliest_time ticks run → IsEarlyForEach ticks s run
earliest_is_early ticks s run e =
    All-from_recursion _ run (values_of_items _ (record_tick ticks) run (stamp_below ticks s (filter_map (record_tick ticks) run) e))
