-- Each event stands in at most one record, so sums over the records of some events are at most those over the events.
use Rattle.std.proofs.Common.{◌≡◌, ℕ, zero, suc, ◌+◌, ◌<◌, ◌≤◌, Bool, true, false, cond, List, [], ◌∷◌, ◌++◌, length, set, Option, Some, None, refl, ap, sym, ◌∙◌, subst, arith, inl, inr, ltb}
use Rattle.std.specs.Prelude.{slice_get, option_and_then}
use Rattle.std.specs.List.{sum_by, filter_map}
use Rattle.std.specs.Option.{option_map}
use Rattle.std.proofs.lemmas.Bool.{lt-ltb, le-ltb}
use Rattle.std.proofs.lemmas.List.{append-nil, length-map, length-set}
use Rattle.std.proofs.lemmas.List.Sums.{sum_by-cons, sum_by_push}
use Rattle.cd_hints.specs.Records.{RecordParts, pair, unmatched_query, unmatched_response, malformed, discarded}
use Rattle.cd_hints.specs.declared.settings.Settings.{Settings}
use Rattle.cd_ident.specs.Events.{EventParts}
use Rattle.cd_ident.specs.Keys.{view_of_parts}
use Rattle.cd_ident.specs.declared.event.Kind.{Kind}
use Rattle.cd_ident.specs.declared.event.Kind.TheVariants.{Query, Response, Malformed, Discarded}
use Rattle.cd_pairing.proofs.Finding.{exists, seek, nobody}
use Rattle.cd_pairing.proofs.Joining.{join_none, join_some, joined}
use Rattle.cd_pairing.proofs.Records.{records-append}
use Rattle.cd_pairing.proofs.Unique.{unique}
use Rattle.cd_pairing.specs.Matching.{partner, IsMatching}
use Rattle.cd_pairing.specs.Pairing.{are_compatible}
use Rattle.cd_pairing.specs.Records as positions
use Rattle.cd_pairing.specs.Records.{Record, records_from, records}
use Rattle.cd_engine.specs.Behaving.{partners_of, all_records}
use Rattle.cd_engine.specs.Records.{windows_of, views_of, single_of_kind, single_record, pair_of_kind, pair_record, record_at, records_at}

-- what a number for each position sums to over a record
abbrev pub at_record : (ℕ → ℕ) → Record → ℕ
at_record w (positions.pair i j) = w i + w j
at_record w (positions.single i) = w i

-- over some records
abbrev pub sum_at : (ℕ → ℕ) → List Record → ℕ
sum_at w rs = sum_by (at_record w) rs

-- over so many positions
abbrev pub total : (ℕ → ℕ) → ℕ → ℕ
total w zero = 0
total w (suc n) = total w n + w n

-- a record in front is the same on both sides
same_led : (w : ℕ → ℕ) (b : Bool) (r : Record) (xs ys : List Record) (m : ℕ) → sum_at w xs ≡ sum_at w ys + m →
    sum_at w (cond b (r ∷ xs) xs) ≡ sum_at w (cond b (r ∷ ys) ys) + m
same_led w true r xs ys m e = omega (arith, e, sum_by-cons (at_record w) r xs, sum_by-cons (at_record w) r ys)
same_led w false r xs ys m e = e

-- a position that stands alone is paired with a later one
set_more : (w : ℕ → ℕ) (i n : ℕ) (p : List (Option ℕ)) (k : ℕ) → k < length p → partner p k ≡ None → i + k < n →
    sum_at w (records_from i (set p k (Some n))) ≡ sum_at w (records_from i p) + w n
set_more w i n [] k lt none low = absurd (omega arith)
set_more w i n (None ∷ p) zero lt none low =
    let rest : List Record = records_from (suc i) p in
    let later : i < n = omega arith in
    rw (lt-ltb i n later) (omega (arith, sum_by-cons (at_record w) (positions.pair i n) rest, sum_by-cons (at_record w) (positions.single i) rest))
set_more w i n (Some j ∷ p) zero lt none low = absurd cc
set_more w i n (None ∷ p) (suc k) lt none low =
    let h = set_more w (suc i) n p k (omega arith) none (omega arith) in
    omega (
      arith,
      h,
      sum_by-cons (at_record w) (positions.single i) (records_from (suc i) (set p k (Some n))),
      sum_by-cons (at_record w) (positions.single i) (records_from (suc i) p),
    )
set_more w i n (Some j ∷ p) (suc k) lt none low =
    same_led w (ltb i j) (positions.pair i j) (records_from (suc i) (set p k (Some n))) (records_from (suc i) p) (w n)
    (set_more w (suc i) n p k (omega arith) none (omega arith))

-- one more position stands alone
alone_sum : (w : ℕ → ℕ) (q : List (Option ℕ)) (n : ℕ) → length q ≡ n →
    sum_at w (records_from 0 (q ++ None ∷ [])) ≡ sum_at w (records_from 0 q) + w n
alone_sum w q n size =
    let place : 0 + length q ≡ n = omega arith in
    ap (sum_at w) (records-append 0 q (None ∷ []))
    ∙ sum_by_push (at_record w) (records_from 0 q) (positions.single (0 + length q))
    ∙ ap (λ k. sum_at w (records_from 0 q) + w k) place

-- a later position has no record of its own
none_later : (n a : ℕ) → a < n → records_from n (Some a ∷ []) ≡ []
none_later n a before = rw (le-ltb n a (omega arith)) refl

-- one more position is paired with an earlier one
joined_sum : (w : ℕ → ℕ) (q : List (Option ℕ)) (a n : ℕ) → length q ≡ n → a < n → partner q a ≡ None →
    sum_at w (records_from 0 (joined q a n)) ≡ sum_at w (records_from 0 q) + w n
joined_sum w q a n size before free =
    let place : 0 + length (set q a (Some n)) ≡ n = omega (arith, length-set q a (Some n)) in
    let front : List Record = records_from 0 (set q a (Some n)) in
    ap (sum_at w) (records-append 0 (set q a (Some n)) (Some a ∷ []))
    ∙ ap (λ k. sum_at w (front ++ records_from k (Some a ∷ []))) place
    ∙ ap (λ rs. sum_at w (front ++ rs)) (none_later n a before)
    ∙ ap (sum_at w) (append-nil front)
    ∙ set_more w 0 n q a (omega arith) free (omega arith)

-- each position stands in one record
pub matching_sum : (R : ℕ → ℕ → Bool) (w : ℕ → ℕ) (n : ℕ) (p : List (Option ℕ)) → IsMatching R n p →
    sum_at w (records_from 0 p) ≡ total w n
matching_sum R w zero p holds = ap (λ q. sum_at w (records_from 0 q)) (unique R 0 p [] holds (nobody R))
matching_sum R w (suc n) p holds =
    let s = exists R n in
    let q : List (Option ℕ) = s.partners in
    let size : length q ≡ n = s.holds.total in
    let before : sum_at w (records_from 0 q) ≡ total w n = matching_sum R w n q s.holds in
    let on : n + 1 ≡ suc n = omega arith in
    elim (seek R n q n) [
      | inl nil ↦
          let m : IsMatching R (suc n) (q ++ None ∷ []) = subst (λ (k : ℕ). IsMatching R k (q ++ None ∷ [])) on (join_none R n q s.holds nil) in
          ap (λ t. sum_at w (records_from 0 t)) (unique R (suc n) p (q ++ None ∷ []) holds m)
          ∙ alone_sum w q n size ∙ ap (λ k. k + w n) before
      | inr f ↦
          let join = join_some R n f.index q s.holds (record { inside = f.inside; free = f.free; fits = f.fits; earlier = f.earlier }) in
          let m : IsMatching R (suc n) (joined q f.index n) = subst (λ (k : ℕ). IsMatching R k (joined q f.index n)) on join in
          ap (λ t. sum_at w (records_from 0 t)) (unique R (suc n) p (joined q f.index n) holds m)
          ∙ joined_sum w q f.index n size f.inside f.free ∙ ap (λ k. k + w n) before
    ]

-- a number of an event that may be absent
abbrev pub of_event : (EventParts → ℕ) → Option EventParts → ℕ
of_event f None = 0
of_event f (Some e) = f e

-- what a number for each event sums to over a record
abbrev pub of_record : (EventParts → ℕ) → RecordParts → ℕ
of_record f (pair query response) = f query + f response
of_record f (unmatched_query e) = f e
of_record f (unmatched_response e) = f e
of_record f (malformed e) = f e
of_record f (discarded e) = f e

abbrev of_found : (EventParts → ℕ) → Option RecordParts → ℕ
of_found f None = 0
of_found f (Some r) = of_record f r

single_sum : (f : EventParts → ℕ) (k : Kind) (e : EventParts) → of_record f (single_of_kind k e) ≤ f e
single_sum f Query e = omega arith
single_sum f Response e = omega arith
single_sum f Malformed e = omega arith
single_sum f Discarded e = omega arith

pair_sum : (f : EventParts → ℕ) (k : Kind) (a b : EventParts) → of_record f (pair_of_kind k a b) ≤ f a + f b
pair_sum f Query a b = omega arith
pair_sum f Response a b = omega arith
pair_sum f Malformed a b = omega arith
pair_sum f Discarded a b = omega arith

found_single : (f : EventParts → ℕ) (o : Option EventParts) → of_found f (option_map single_record o) ≤ of_event f o
found_single f None = omega arith
found_single f (Some e) = single_sum f e.kind e

found_pair : (f : EventParts → ℕ) (o q : Option EventParts) →
    of_found f (option_and_then (λ earlier. option_map (pair_record earlier) q) o) ≤ of_event f o + of_event f q
found_pair f None q = omega arith
found_pair f (Some a) None = omega arith
found_pair f (Some a) (Some b) = pair_sum f a.kind a b

-- the number at a position
abbrev pub at_place : (EventParts → ℕ) → List EventParts → ℕ → ℕ
at_place f events i = of_event f (slice_get events i)

found_sum : (f : EventParts → ℕ) (events : List EventParts) (r : Record) → of_found f (record_at events r) ≤ at_record (at_place f events) r
found_sum f events (positions.pair i j) = found_pair f (slice_get events i) (slice_get events j)
found_sum f events (positions.single i) = found_single f (slice_get events i)

kept_sum : (f : EventParts → ℕ) (h : Record → Option RecordParts) (r : Record) (rs : List Record) (o : Option RecordParts) → h r ≡ o →
    sum_by (of_record f) (filter_map h (r ∷ rs)) ≡ of_found f o + sum_by (of_record f) (filter_map h rs)
kept_sum f h r rs None is = rw is (omega arith)
kept_sum f h r rs (Some x) is = rw is (sum_by-cons (of_record f) x (filter_map h rs))

records_sum : (f : EventParts → ℕ) (events : List EventParts) (rs : List Record) →
    sum_by (of_record f) (records_at events rs) ≤ sum_at (at_place f events) rs
records_sum f events [] = omega arith
records_sum f events (r ∷ rs) =
    omega (
      arith,
      kept_sum f (record_at events) r rs (record_at events r) refl,
      found_sum f events r,
      records_sum f events rs,
      sum_by-cons (at_record (at_place f events)) r rs,
    )

-- the first position, and those after it
total_first : (w : ℕ → ℕ) (n : ℕ) → total w (suc n) ≡ w 0 + total (λ i. w (suc i)) n
total_first w zero = omega arith
total_first w (suc n) = let h = total_first w n in omega arith

pub total_events : (f : EventParts → ℕ) (events : List EventParts) → total (at_place f events) (length events) ≡ sum_by f events
total_events f [] = refl
total_events f (e ∷ es) =
    total_first (at_place f (e ∷ es)) (length es) ∙ ap (λ n. f e + n) (total_events f es) ∙ sym (sum_by-cons f e es)

-- sums over all records are at most those over the events
pub all_sum : (s : Settings) (events : List EventParts) (f : EventParts → ℕ) → sum_by (of_record f) (all_records s events) ≤ sum_by f events
unfolding all_records partners_of
all_sum s events f =
    let w : ℕ → ℕ = at_place f events in
    let R : ℕ → ℕ → Bool = are_compatible (windows_of s) (views_of events) in
    let found = exists R (length (views_of events)) in
    let bound : sum_by (of_record f) (records_at events (records found.partners)) ≤ sum_at w (records found.partners) =
    records_sum f events (records found.partners) in
    let same : sum_at w (records found.partners) ≡ sum_by f events =
    matching_sum R w (length (views_of events)) found.partners found.holds ∙ ap (total w) (length-map events view_of_parts) ∙ total_events f events in
    omega (arith, bound, same)
