-- The tally of a run, record by record.
use Rattle.std.proofs.Common.{◌≡◌, ℕ, ◌+◌, ◌<◌, ◌≤◌, ◌^◌, ◌↔◌, min, Option, Some, None, cond, List, [], ◌∷◌, ◌++◌, length, refl, sym, ap, arith, add-zero, append-nil}
use Rattle.std.specs.List.{reduce, filter_map, sum_by, count_by}
use Rattle.std.proofs.lemmas.List.Elements.{filter_map-append, All-push, All-nil}
use Rattle.std.proofs.lemmas.List.Sums.{fold_push, sum_by-cons, count_by-le-length}
use Rattle.cd_hints.specs.Records.{RecordParts, pair, unmatched_query, unmatched_response, malformed, discarded, is_item, is_malformed, HasKinds}
use Rattle.cd_record.specs.Earliest.{record_tick, earliest_tick}
use Rattle.cd_record.specs.Runs.{Limits, IsAdmissible, record_weight, run_weight}
use Rattle.cd_record.specs.Statistics.{statistics, processed_messages, is_unmatched_query, is_unmatched_response, is_discarded}
use Rattle.cd_record.specs.Tallies.{tally_of, tally_with, stats_with, earlier, HasRoom, IsWithin, IsSound}
use Rattle.cd_record.specs.declared.tally.Tally.{Tally}

-- the statistics of a run with one more record
stats_push : (run : List RecordParts) (r : RecordParts) → stats_with (statistics run) r ≡ statistics (run ++ r ∷ [])
stats_push run (pair query response) = simp (fold_push, add-zero)
stats_push run (unmatched_query e) = simp (fold_push, add-zero)
stats_push run (unmatched_response e) = simp (fold_push, add-zero)
stats_push run (malformed e) = simp (fold_push, add-zero)
stats_push run (discarded e) = simp (fold_push, add-zero)

-- the least of some numbers with one more, where it is there
least_push : (xs : List ℕ) (y : Option ℕ) → earlier (reduce min xs) y ≡ reduce min (xs ++ filter_map (λ z. z) (y ∷ []))
least_push [] None = refl
least_push [] (Some y) = refl
least_push (x ∷ xs) None = ap (λ (l : List ℕ). reduce min (x ∷ l)) (sym (append-nil xs))
least_push (x ∷ xs) (Some y) = ap (λ (m : ℕ). Some m) (sym (fold_push min x xs y))

-- the least tick of a run with one more record
earliest_push : (ticks : ℕ) (run : List RecordParts) (r : RecordParts) →
    earlier (earliest_tick ticks run) (record_tick ticks r) ≡ earliest_tick ticks (run ++ r ∷ [])
earliest_push ticks run r = rw filter_map-append (least_push _ _)

-- the tally of a run with one more record
pub tally_push : (ticks : ℕ) (run : List RecordParts) (r : RecordParts) → tally_with ticks (tally_of ticks run) r ≡ tally_of ticks (run ++ r ∷ [])
tally_push ticks run r = rw (stats_push, earliest_push) (simp fold_push)

-- a record has two messages at most, and two only where it is an item
messages_le : (r : RecordParts) → processed_messages r ≤ 1 + count_by is_item (r ∷ [])
messages_le (pair query response) = omega arith
messages_le (unmatched_query e) = omega arith
messages_le (unmatched_response e) = omega arith
messages_le (malformed e) = omega arith
messages_le (discarded e) = omega arith

-- so a run has no more messages than records and items
processed_le : (run : List RecordParts) → sum_by processed_messages run ≤ length run + count_by is_item run
processed_le [] = omega arith
processed_le (r ∷ run) =
    omega (arith, sum_by-cons processed_messages r run, sum_by-cons (λ x. cond (is_item x) 1 0) r run, messages_le r, processed_le run)

-- the tally of a run of few items has room for one more record, where the weight is not too much
pub room_of : (ticks : ℕ) (run : List RecordParts) (r : RecordParts) → length run < 2 ^ 63 → count_by is_item run ≤ 100000 →
    run_weight run + record_weight r < 2 ^ 64 → HasRoom (tally_of ticks run) r
room_of ticks run r short few light = record {
  counts = record {
    processed = omega (arith, processed_le run);
    items = omega arith;
    unmatched_queries = omega (arith, count_by-le-length is_unmatched_query run);
    unmatched_responses = omega (arith, count_by-le-length is_unmatched_response run);
    discarded = omega (arith, count_by-le-length is_discarded run);
    malformed = omega (arith, count_by-le-length is_malformed run);
  };
  weight = light;
}

-- a run is within the limits where its tally is
pub admissible_within : (limits : Limits) (ticks : ℕ) (run : List RecordParts) → IsAdmissible limits run ↔ IsWithin limits (tally_of ticks run)
admissible_within limits ticks run = (
  λ h. record { few_items = h.few_items; few_malformed = h.few_malformed; light = h.light },
  λ h. record { few_items = h.few_items; few_malformed = h.few_malformed; light = h.light },
)

-- a run with no record is sound
pub sound_empty : (limits : Limits) (ticks : ℕ) (run : List RecordParts) (tally : Tally) → IsSound limits ticks run tally →
    IsSound limits ticks [] (tally_of ticks [])
sound_empty limits ticks run tally sound = record {
  items = sound.items;
  weight = sound.weight;
  seconds = sound.seconds;
  admissible = record { few_items = omega arith; few_malformed = omega arith; light = omega arith };
  kinds = All-nil HasKinds;
  counted = refl;
}

-- a run of one record that may stand alone is sound
pub sound_first : (limits : Limits) (ticks : ℕ) (run : List RecordParts) (tally : Tally) (r : RecordParts) → IsSound limits ticks run tally →
    HasKinds r → IsAdmissible limits (r ∷ []) → IsSound limits ticks (r ∷ []) (tally_of ticks (r ∷ []))
sound_first limits ticks run tally r sound kinds alone = record {
  items = sound.items;
  weight = sound.weight;
  seconds = sound.seconds;
  admissible = alone;
  kinds = All-push HasKinds [] r (All-nil HasKinds) kinds;
  counted = refl;
}

-- a sound run has room for a record that may stand alone
pub sound_room : (limits : Limits) (ticks : ℕ) (run : List RecordParts) (tally : Tally) (r : RecordParts) → IsSound limits ticks run tally →
    IsAdmissible limits (r ∷ []) → length run < 2 ^ 63 → HasRoom tally r
sound_room limits ticks run tally r sound alone short =
    rw sound.counted (room_of ticks run r short (omega (arith, sound.admissible.few_items, sound.items.most))
    (omega (arith, sound.admissible.light, sound.weight.most, alone.light)))

-- the tally of a sound run with one more record is within the limits exactly where the records may stand in one block
pub sound_within : (limits : Limits) (ticks : ℕ) (run : List RecordParts) (tally : Tally) (r : RecordParts) → IsSound limits ticks run tally →
    IsAdmissible limits (run ++ r ∷ []) ↔ IsWithin limits (tally_with ticks tally r)
sound_within limits ticks run tally r sound = rw (sound.counted, tally_push) (admissible_within limits ticks (run ++ r ∷ []))

-- a run stays sound with a record that is within the limits
pub sound_push : (limits : Limits) (ticks : ℕ) (run : List RecordParts) (tally : Tally) (r : RecordParts) → IsSound limits ticks run tally →
    HasKinds r → IsWithin limits (tally_with ticks tally r) → IsSound limits ticks (run ++ r ∷ []) (tally_with ticks tally r)
sound_push limits ticks run tally r sound kinds within = record {
  items = sound.items;
  weight = sound.weight;
  seconds = sound.seconds;
  admissible = (sound_within limits ticks run tally r sound).1 within;
  kinds = All-push HasKinds run r sound.kinds kinds;
  counted = rw sound.counted (tally_push ticks run r);
}
