-- The queries and responses of a capture are its items and its pairs together.
use Rattle.std.proofs.Common.{◌≡◌, ℕ, zero, suc, ◌+◌, ◌<◌, Bool, true, false, nat_eq, List, [], ◌∷◌, length, Option, Some, None, refl, ap, sym, ◌∙◌, arith, inl, inr}
use Rattle.std.specs.Prelude.{slice_get, option_and_then}
use Rattle.std.specs.List.{sum_by, count_by, filter_map}
use Rattle.std.specs.Option.{option_map, option_map_or}
use Rattle.std.proofs.lemmas.Bool.{and_parts, cases_lt, false≢true, lt-ltb, le-ltb}
use Rattle.std.proofs.lemmas.List.{length-map}
use Rattle.std.proofs.lemmas.List.Sums.{sum_by-cons}
use Rattle.cd_capture.specs.Formats.{capture}
use Rattle.cd_hints.specs.Records.{RecordParts, is_item}
use Rattle.cd_hints.specs.declared.settings.Settings.{Settings}
use Rattle.cd_ident.specs.Events.{EventParts}
use Rattle.cd_ident.specs.Keys.{side_of, view_of_parts}
use Rattle.cd_ident.specs.declared.event.Kind.{Kind}
use Rattle.cd_ident.specs.declared.event.Kind.TheVariants.{Query, Response, Malformed, Discarded}
use Rattle.cd_ident.specs.declared.event_rules.EventRules.{EventRules}
use Rattle.cd_packet.specs.declared.packet.Packet.{Packet}
use Rattle.cd_pairing.specs.Events.{event_at, are_opposite}
use Rattle.cd_pairing.specs.Matching.{partner}
use Rattle.cd_pairing.specs.Pairing.{StampedEvent, may_pair, are_compatible, IsPairing}
use Rattle.cd_pairing.specs.Records as positions
use Rattle.cd_pairing.specs.Records.{Record, records_from, records}
use Rattle.cd_pairing.specs.declared.keyed.Side.{Side}
use Rattle.cd_pairing.specs.declared.keyed.Side.TheVariants as side
use Rattle.cd_pairing.specs.declared.keyed.Windows.{Windows}
use Rattle.cd_engine.specs.Counting.{kind_index, is_of_kind, is_pair}
use Rattle.cd_engine.specs.Events.{rules_of, event_of, events_of}
use Rattle.cd_engine.specs.Filing.{one_if}
use Rattle.cd_engine.specs.Laws.{MessagesAreItemsAndPairs}
use Rattle.cd_engine.specs.Records.{windows_of, views_of, single_of_kind, single_record, pair_record, record_at, records_at}
use Rattle.cd_engine.specs.declared.counts.Counts.{Counts}
use Rattle.cd_engine.proofs.RecordSums.{at_record, sum_at, total, of_event, at_place, matching_sum, total_events}

-- one for a query or a response
messages_in : EventParts → ℕ
messages_in e = one_if (nat_eq (kind_index e.kind) 0) + one_if (nat_eq (kind_index e.kind) 1)

-- one for an item, and one more for a pair
items_in : RecordParts → ℕ
items_in r = one_if (is_item r) + one_if (is_pair r)

-- an event alone
alone_in : (k : Kind) (e : EventParts) → e.kind ≡ k → items_in (single_of_kind k e) ≡ messages_in e
unfolding messages_in items_in
alone_in Query e is = rw is refl
alone_in Response e is = rw is refl
alone_in Malformed e is = rw is refl
alone_in Discarded e is = rw is refl

-- two events of opposite sides
pair_in : (a b : EventParts) (k l : Kind) → a.kind ≡ k → b.kind ≡ l → are_opposite (side_of k) (side_of l) ≡ true →
    items_in (pair_record a b) ≡ messages_in a + messages_in b
unfolding messages_in items_in
pair_in a b Query Response first second fits = rw (first, second) refl
pair_in a b Response Query first second fits = rw (first, second) refl
pair_in a b Query Query first second fits = absurd (false≢true fits)
pair_in a b Query Malformed first second fits = absurd (false≢true fits)
pair_in a b Query Discarded first second fits = absurd (false≢true fits)
pair_in a b Response Response first second fits = absurd (false≢true fits)
pair_in a b Response Malformed first second fits = absurd (false≢true fits)
pair_in a b Response Discarded first second fits = absurd (false≢true fits)
pair_in a b Malformed Query first second fits = absurd (false≢true fits)
pair_in a b Malformed Response first second fits = absurd (false≢true fits)
pair_in a b Malformed Malformed first second fits = absurd (false≢true fits)
pair_in a b Malformed Discarded first second fits = absurd (false≢true fits)
pair_in a b Discarded Query first second fits = absurd (false≢true fits)
pair_in a b Discarded Response first second fits = absurd (false≢true fits)
pair_in a b Discarded Malformed first second fits = absurd (false≢true fits)
pair_in a b Discarded Discarded first second fits = absurd (false≢true fits)

-- the side of an event that may be absent
abbrev side_in : Option EventParts → Side
side_in None = side.Neither
side_in (Some e) = side_of e.kind

-- what is absent is opposite to nothing
no_first : (s : Side) → are_opposite side.Neither s ≡ true → ⊥
no_first side.Query fits = false≢true fits
no_first side.Response fits = false≢true fits
no_first side.Neither fits = false≢true fits

no_second : (s : Side) → are_opposite s side.Neither ≡ true → ⊥
no_second side.Query fits = false≢true fits
no_second side.Response fits = false≢true fits
no_second side.Neither fits = false≢true fits

-- the side that a position shows
side_seen : (events : List EventParts) (i : ℕ) → (event_at (views_of events) i).side ≡ side_in (slice_get events i)
side_seen [] zero = refl
side_seen [] (suc i) = refl
side_seen (e ∷ es) zero = refl
side_seen (e ∷ es) (suc i) = side_seen es i

-- what is counted of a record that may be absent
abbrev found_in : Option RecordParts → ℕ
found_in None = 0
found_in (Some r) = items_in r

found_alone : (o : Option EventParts) → found_in (option_map single_record o) ≡ of_event messages_in o
found_alone None = refl
found_alone (Some e) = alone_in e.kind e refl

found_pair : (o q : Option EventParts) → are_opposite (side_in o) (side_in q) ≡ true →
    found_in (option_and_then (λ earlier. option_map (pair_record earlier) q) o) ≡ of_event messages_in o + of_event messages_in q
found_pair None q fits = absurd (no_first (side_in q) fits)
found_pair (Some a) None fits = absurd (no_second (side_of a.kind) fits)
found_pair (Some a) (Some b) fits = pair_in a b a.kind b.kind refl refl fits

kept_more : (h : Record → Option RecordParts) (r : Record) (rs : List Record) (o : Option RecordParts) → h r ≡ o →
    sum_by items_in (filter_map h (r ∷ rs)) ≡ found_in o + sum_by items_in (filter_map h rs)
kept_more h r rs None is = rw is (omega arith)
kept_more h r rs (Some x) is = rw is (sum_by-cons items_in x (filter_map h rs))

module _ (events : List EventParts) where
  -- one record more
  record_more : (r : Record) (rs : List Record) → found_in (record_at events r) ≡ at_record (at_place messages_in events) r →
      sum_by items_in (records_at events rs) ≡ sum_at (at_place messages_in events) rs →
      sum_by items_in (records_at events (r ∷ rs)) ≡ sum_at (at_place messages_in events) (r ∷ rs)
  record_more r rs here rest =
      omega (
        arith,
        kept_more (record_at events) r rs (record_at events r) refl,
        here,
        rest,
        sum_by-cons (at_record (at_place messages_in events)) r rs,
      )

  -- the records of partners that are opposite
  records_in : (i : ℕ) (p : List (Option ℕ)) →
      ((n k j : ℕ) → n ≡ i + k → partner p k ≡ Some j → n < j → are_opposite (side_in (slice_get events n)) (side_in (slice_get events j)) ≡ true) →
      sum_by items_in (records_at events (records_from i p)) ≡ sum_at (at_place messages_in events) (records_from i p)
  records_in i [] fits = refl
  records_in i (None ∷ p) fits =
      record_more (positions.single i) (records_from (suc i) p) (found_alone (slice_get events i))
      (records_in (suc i) p (λ n k j at. fits n (suc k) j (omega (arith, at))))
  records_in i (Some j ∷ p) fits =
      elim (cases_lt i j) [
        | inl before ↦ rw (lt-ltb i j before)
            (record_more (positions.pair i j) (records_from (suc i) p)
            (found_pair (slice_get events i) (slice_get events j) (fits i 0 j (omega arith) refl before))
            (records_in (suc i) p (λ n k j at. fits n (suc k) j (omega (arith, at)))))
        | inr after ↦ rw (le-ltb i j after) (records_in (suc i) p (λ n k j at. fits n (suc k) j (omega (arith, at))))
      ]

-- the two that stand together are opposite
together_opposite : (windows : Windows) (a b : StampedEvent) → may_pair windows a b ≡ true → are_opposite a.view.side b.view.side ≡ true
unfolding may_pair
together_opposite windows a b e = (and_parts _ _ (and_parts _ _ e).0).0

paired_opposite : (windows : Windows) (events : List EventParts) (i j : ℕ) → are_compatible windows (views_of events) i j ≡ true →
    are_opposite (side_in (slice_get events i)) (side_in (slice_get events j)) ≡ true
unfolding are_compatible
paired_opposite windows events i j e =
    ap (λ s. are_opposite s (side_in (slice_get events j))) (sym (side_seen events i))
    ∙ ap (λ s. are_opposite (event_at (views_of events) i).side s) (sym (side_seen events j)) ∙ together_opposite windows _ _ e

-- all messages stand in the records of a pairing
all_in : (s : Settings) (events : List EventParts) (p : List (Option ℕ)) → IsPairing (windows_of s) (views_of events) p →
    sum_by items_in (records_at events (records p)) ≡ sum_by messages_in events
all_in s events p holds =
    let w : ℕ → ℕ = at_place messages_in events in
    let R : ℕ → ℕ → Bool = are_compatible (windows_of s) (views_of events) in
    records_in events 0 p (λ n k j at is before.
    let here : n ≡ k = omega (arith, at) in
    paired_opposite (windows_of s) events n j (holds.compatible n j before (ap (partner p) here ∙ is)))
    ∙ matching_sum R w (length (views_of events)) p holds
    ∙ ap (total w) (length-map events view_of_parts) ∙ total_events messages_in events

-- the messages of some packets
packet_in : (o : Option EventParts) →
    one_if (option_map_or (λ (e : EventParts). nat_eq (kind_index e.kind) 0) o false) + one_if (option_map_or (λ (e : EventParts). nat_eq (kind_index e.kind) 1) o false)
    ≡ of_event messages_in o
unfolding messages_in
packet_in None = refl
packet_in (Some e) = refl

event_more : (h : Packet → Option EventParts) (p : Packet) (ps : List Packet) (o : Option EventParts) → h p ≡ o →
    sum_by messages_in (filter_map h (p ∷ ps)) ≡ of_event messages_in o + sum_by messages_in (filter_map h ps)
event_more h p ps None is = rw is (omega arith)
event_more h p ps (Some e) is = rw is (sum_by-cons messages_in e (filter_map h ps))

packets_in : (rules : EventRules) (ps : List Packet) →
    count_by (is_of_kind rules 0) ps + count_by (is_of_kind rules 1) ps ≡ sum_by messages_in (events_of rules ps)
packets_in rules [] = refl
packets_in rules (p ∷ ps) =
    omega (
      arith,
      sum_by-cons (λ x. one_if (is_of_kind rules 0 x)) p ps,
      sum_by-cons (λ x. one_if (is_of_kind rules 1 x)) p ps,
      packet_in (event_of rules p),
      event_more (event_of rules) p ps (event_of rules p) refl,
      packets_in rules ps,
    )

-- items and pairs among some records
counted_in : (rs : List RecordParts) → count_by is_item rs + count_by is_pair rs ≡ sum_by items_in rs
unfolding items_in
counted_in [] = refl
counted_in (r ∷ rs) =
    omega (
      arith,
      sum_by-cons (λ x. one_if (is_item x)) r rs,
      sum_by-cons (λ x. one_if (is_pair x)) r rs,
      sum_by-cons (λ x. one_if (is_item x) + one_if (is_pair x)) r rs,
      counted_in rs,
    )

pub items_and_pairs : MessagesAreItemsAndPairs
items_and_pairs s bytes counts is =
    let rules : EventRules = rules_of s in
    let ps : List Packet = (capture bytes).packets in
    let p : List (Option ℕ) = is.compaction.partners in
    ap (λ (c : Counts). c.queries + c.responses) is.same
    ∙ packets_in rules ps
    ∙ sym (all_in s (events_of rules ps) p is.compaction.pairing)
    ∙ sym (counted_in (records_at (events_of rules ps) (records p)))
    ∙ sym (ap (λ (c : Counts). c.items + c.pairs) is.same)
