-- What is counted of packets, one by one, and that the counts of few packets fit 64 bits.
use Rattle.std.proofs.Common.{◌≡◌, ℕ, ◌+◌, ◌<◌, ◌≤◌, ◌^◌, Bool, true, false, cond, List, [], ◌∷◌, ◌++◌, length, map, Some, None, refl, ap, sym, ◌∙◌, arith, nat_eq, length-append}
use Rattle.std.specs.List.{sum_by, count_by, range_with_len}
use Rattle.std.specs.Option.{option_map_or}
use Rattle.std.proofs.lemmas.List.Sums.{sum_by-cons, sum_by_push, count_by-le-length}
use Rattle.cd_ident.specs.Events.{EventParts}
use Rattle.cd_ident.specs.declared.event.Kind.{Kind}
use Rattle.cd_ident.specs.declared.event.Kind.TheVariants.{Query, Response, Malformed, Discarded}
use Rattle.cd_ident.specs.declared.event_rules.EventRules.{EventRules}
use Rattle.cd_packet.specs.Layers.{Found, datagram, skipped, layer_of}
use Rattle.cd_packet.specs.declared.datagram.Reason.{Reason}
use Rattle.cd_packet.specs.declared.datagram.Reason.TheVariants as reason
use Rattle.cd_packet.specs.declared.packet.Packet.{Packet}
use Rattle.cd_capture.specs.Laws.{record_size}
use Rattle.cd_engine.specs.Counting.{kind_index, is_of_kind, reason_index, is_for_reason, is_skipped_for, packet_counts, packet_counts_with, packet_counts_without, held_in_64, held_packet_counts}
use Rattle.cd_engine.specs.Events.{event_found, event_of}

-- what is held of a number and one more is what is held of one more
held_more : (n : ℕ) → held_in_64 (held_in_64 n + 1) ≡ held_in_64 (n + 1)
held_more n = omega arith

-- a number that fits is held
pub held_small : (n : ℕ) → n < 2 ^ 64 → held_in_64 n ≡ n
held_small n few = omega arith

module _ (q : Packet → Bool) (ps : List Packet) (p : Packet) where
  more : (b : Bool) → q p ≡ b → count_by q (ps ++ p ∷ []) ≡ count_by q ps + cond b 1 0
  more b is = sum_by_push (λ x. cond (q x) 1 0) ps p ∙ ap (λ c. count_by q ps + cond c 1 0) is

  -- a packet that counts
  counted : q p ≡ true → held_in_64 (held_in_64 (count_by q ps) + 1) ≡ held_in_64 (count_by q (ps ++ p ∷ []))
  counted is = held_more (count_by q ps) ∙ ap held_in_64 (sym (more true is))

  -- a packet that does not count
  same_count : q p ≡ false → count_by q ps ≡ count_by q (ps ++ p ∷ [])
  same_count is = let k : count_by q (ps ++ p ∷ []) ≡ count_by q ps + 0 = more false is in omega arith

  uncounted : q p ≡ false → held_in_64 (count_by q ps) ≡ held_in_64 (count_by q (ps ++ p ∷ []))
  uncounted is = ap held_in_64 (same_count is)

-- what has an event is skipped for no reason
found_unskipped : (rules : EventRules) (f : Found) (e : EventParts) (k : ℕ) → event_found rules f ≡ Some e → is_for_reason k f ≡ false
found_unskipped rules (datagram d) e k is = refl
found_unskipped rules (skipped why) e k is = absurd cc

unskipped : (rules : EventRules) (p : Packet) (e : EventParts) (k : ℕ) → event_of rules p ≡ Some e → is_skipped_for rules k p ≡ false
unfolding event_of
unskipped rules p e k is = found_unskipped rules (layer_of rules.port p) e k is

-- the kind of its event is the packet's
kind_told : (rules : EventRules) (p : Packet) (e : EventParts) (k : ℕ) → event_of rules p ≡ Some e → is_of_kind rules k p ≡ nat_eq (kind_index e.kind) k
kind_told rules p e k is = ap (λ o. option_map_or (λ (x : EventParts). nat_eq (kind_index x.kind) k) o false) is

kind_more : (rules : EventRules) (ps : List Packet) (p : Packet) (kind : Kind) →
    ((k : ℕ) → is_of_kind rules k p ≡ nat_eq (kind_index kind) k) → ((k : ℕ) → is_skipped_for rules k p ≡ false) →
    packet_counts_with (held_packet_counts (packet_counts rules ps)) kind ≡ held_packet_counts (packet_counts rules (ps ++ p ∷ []))
kind_more rules ps p kind is none = by_kind kind is
  where
    all : held_in_64 (held_in_64 (length ps) + 1) ≡ held_in_64 (length (ps ++ p ∷ []))
    all = omega (arith, length-append ps (p ∷ []))

    skips : map held_in_64 (map (λ k. count_by (is_skipped_for rules k) ps) (range_with_len 0 9))
        ≡ map held_in_64 (map (λ k. count_by (is_skipped_for rules k) (ps ++ p ∷ [])) (range_with_len 0 9))
    skips = λ i. map held_in_64 (map (λ k. same_count (is_skipped_for rules k) ps p (none k) i) (range_with_len 0 9))

    by_kind : (k : Kind) → ((n : ℕ) → is_of_kind rules n p ≡ nat_eq (kind_index k) n) →
        packet_counts_with (held_packet_counts (packet_counts rules ps)) k ≡ held_packet_counts (packet_counts rules (ps ++ p ∷ []))
    by_kind Query told = λ i. record {
      packets = all i;
      queries = counted (is_of_kind rules 0) ps p (told 0) i;
      responses = uncounted (is_of_kind rules 1) ps p (told 1) i;
      malformed = uncounted (is_of_kind rules 2) ps p (told 2) i;
      discarded = uncounted (is_of_kind rules 3) ps p (told 3) i;
      skipped = skips i;
    }
    by_kind Response told = λ i. record {
      packets = all i;
      queries = uncounted (is_of_kind rules 0) ps p (told 0) i;
      responses = counted (is_of_kind rules 1) ps p (told 1) i;
      malformed = uncounted (is_of_kind rules 2) ps p (told 2) i;
      discarded = uncounted (is_of_kind rules 3) ps p (told 3) i;
      skipped = skips i;
    }
    by_kind Malformed told = λ i. record {
      packets = all i;
      queries = uncounted (is_of_kind rules 0) ps p (told 0) i;
      responses = uncounted (is_of_kind rules 1) ps p (told 1) i;
      malformed = counted (is_of_kind rules 2) ps p (told 2) i;
      discarded = uncounted (is_of_kind rules 3) ps p (told 3) i;
      skipped = skips i;
    }
    by_kind Discarded told = λ i. record {
      packets = all i;
      queries = uncounted (is_of_kind rules 0) ps p (told 0) i;
      responses = uncounted (is_of_kind rules 1) ps p (told 1) i;
      malformed = uncounted (is_of_kind rules 2) ps p (told 2) i;
      discarded = counted (is_of_kind rules 3) ps p (told 3) i;
      skipped = skips i;
    }

-- the counts with one packet more, which has an event
pub packets_more : (rules : EventRules) (ps : List Packet) (p : Packet) (e : EventParts) → event_of rules p ≡ Some e →
    packet_counts_with (held_packet_counts (packet_counts rules ps)) e.kind ≡ held_packet_counts (packet_counts rules (ps ++ p ∷ []))
packets_more rules ps p e is = kind_more rules ps p e.kind (λ k. kind_told rules p e k is) (λ k. unskipped rules p e k is)

-- a packet that is skipped has no event, and is of no kind
pub skipped_event : (rules : EventRules) (p : Packet) (why : Reason) → layer_of rules.port p ≡ skipped why → event_of rules p ≡ None
unfolding event_of
skipped_event rules p why is = ap (event_found rules) is

of_no_kind : (rules : EventRules) (p : Packet) (k : ℕ) → event_of rules p ≡ None → is_of_kind rules k p ≡ false
of_no_kind rules p k none = ap (λ o. option_map_or (λ (x : EventParts). nat_eq (kind_index x.kind) k) o false) none

module _ (rules : EventRules) (ps : List Packet) (p : Packet) where
  -- the packets that are skipped for the reason of one more, and for the other reasons
  here : (k : ℕ) → is_skipped_for rules k p ≡ true →
      held_in_64 (held_in_64 (count_by (is_skipped_for rules k) ps) + 1) ≡ held_in_64 (count_by (is_skipped_for rules k) (ps ++ p ∷ []))
  here k is = counted (is_skipped_for rules k) ps p is

  elsewhere : (k : ℕ) → is_skipped_for rules k p ≡ false →
      held_in_64 (count_by (is_skipped_for rules k) ps) ≡ held_in_64 (count_by (is_skipped_for rules k) (ps ++ p ∷ []))
  elsewhere k is = uncounted (is_skipped_for rules k) ps p is

  skips_more : (why : Reason) → ((k : ℕ) → is_skipped_for rules k p ≡ nat_eq (reason_index why) k) →
      (packet_counts_without (held_packet_counts (packet_counts rules ps)) why).skipped ≡ (held_packet_counts (packet_counts rules (ps ++ p ∷ []))).skipped
  skips_more reason.Link told = λ i.
      here 0 (told 0) i ∷ elsewhere 1 (told 1) i ∷ elsewhere 2 (told 2) i ∷ elsewhere 3 (told 3) i ∷ elsewhere 4 (told 4) i ∷ elsewhere 5 (told 5) i ∷ elsewhere 6 (told 6) i ∷ elsewhere 7 (told 7) i ∷ elsewhere 8 (told 8) i ∷ []
  skips_more reason.Length told = λ i.
      elsewhere 0 (told 0) i ∷ here 1 (told 1) i ∷ elsewhere 2 (told 2) i ∷ elsewhere 3 (told 3) i ∷ elsewhere 4 (told 4) i ∷ elsewhere 5 (told 5) i ∷ elsewhere 6 (told 6) i ∷ elsewhere 7 (told 7) i ∷ elsewhere 8 (told 8) i ∷ []
  skips_more reason.NotIp told = λ i.
      elsewhere 0 (told 0) i ∷ elsewhere 1 (told 1) i ∷ here 2 (told 2) i ∷ elsewhere 3 (told 3) i ∷ elsewhere 4 (told 4) i ∷ elsewhere 5 (told 5) i ∷ elsewhere 6 (told 6) i ∷ elsewhere 7 (told 7) i ∷ elsewhere 8 (told 8) i ∷ []
  skips_more reason.Fragment told = λ i.
      elsewhere 0 (told 0) i ∷ elsewhere 1 (told 1) i ∷ elsewhere 2 (told 2) i ∷ here 3 (told 3) i ∷ elsewhere 4 (told 4) i ∷ elsewhere 5 (told 5) i ∷ elsewhere 6 (told 6) i ∷ elsewhere 7 (told 7) i ∷ elsewhere 8 (told 8) i ∷ []
  skips_more reason.NotUdp told = λ i.
      elsewhere 0 (told 0) i ∷ elsewhere 1 (told 1) i ∷ elsewhere 2 (told 2) i ∷ elsewhere 3 (told 3) i ∷ here 4 (told 4) i ∷ elsewhere 5 (told 5) i ∷ elsewhere 6 (told 6) i ∷ elsewhere 7 (told 7) i ∷ elsewhere 8 (told 8) i ∷ []
  skips_more reason.Port told = λ i.
      elsewhere 0 (told 0) i ∷ elsewhere 1 (told 1) i ∷ elsewhere 2 (told 2) i ∷ elsewhere 3 (told 3) i ∷ elsewhere 4 (told 4) i ∷ here 5 (told 5) i ∷ elsewhere 6 (told 6) i ∷ elsewhere 7 (told 7) i ∷ elsewhere 8 (told 8) i ∷ []
  skips_more reason.Cut told = λ i.
      elsewhere 0 (told 0) i ∷ elsewhere 1 (told 1) i ∷ elsewhere 2 (told 2) i ∷ elsewhere 3 (told 3) i ∷ elsewhere 4 (told 4) i ∷ elsewhere 5 (told 5) i ∷ here 6 (told 6) i ∷ elsewhere 7 (told 7) i ∷ elsewhere 8 (told 8) i ∷ []
  skips_more reason.Time told = λ i.
      elsewhere 0 (told 0) i ∷ elsewhere 1 (told 1) i ∷ elsewhere 2 (told 2) i ∷ elsewhere 3 (told 3) i ∷ elsewhere 4 (told 4) i ∷ elsewhere 5 (told 5) i ∷ elsewhere 6 (told 6) i ∷ here 7 (told 7) i ∷ elsewhere 8 (told 8) i ∷ []
  skips_more reason.NoTime told = λ i.
      elsewhere 0 (told 0) i ∷ elsewhere 1 (told 1) i ∷ elsewhere 2 (told 2) i ∷ elsewhere 3 (told 3) i ∷ elsewhere 4 (told 4) i ∷ elsewhere 5 (told 5) i ∷ elsewhere 6 (told 6) i ∷ elsewhere 7 (told 7) i ∷ here 8 (told 8) i ∷ []

-- the counts with one packet more, which is skipped
pub packets_without : (rules : EventRules) (ps : List Packet) (p : Packet) (why : Reason) → layer_of rules.port p ≡ skipped why →
    packet_counts_without (held_packet_counts (packet_counts rules ps)) why ≡ held_packet_counts (packet_counts rules (ps ++ p ∷ []))
packets_without rules ps p why is =
    let none : event_of rules p ≡ None = skipped_event rules p why is in
    let all : held_in_64 (held_in_64 (length ps) + 1) ≡ held_in_64 (length (ps ++ p ∷ [])) = omega (arith, length-append ps (p ∷ [])) in
    let skips = skips_more rules ps p why (λ k. ap (is_for_reason k) is) in
    λ i. record {
      packets = all i;
      queries = uncounted (is_of_kind rules 0) ps p (of_no_kind rules p 0 none) i;
      responses = uncounted (is_of_kind rules 1) ps p (of_no_kind rules p 1 none) i;
      malformed = uncounted (is_of_kind rules 2) ps p (of_no_kind rules p 2 none) i;
      discarded = uncounted (is_of_kind rules 3) ps p (of_no_kind rules p 3 none) i;
      skipped = skips i;
    }

-- a packet takes at least one byte
pub few_packets : (ps : List Packet) → length ps ≤ sum_by record_size ps
few_packets [] = omega arith
few_packets (p ∷ ps) = omega (arith, few_packets ps, sum_by-cons record_size p ps)

map_held : (f : ℕ → ℕ) (ks : List ℕ) → ((k : ℕ) → held_in_64 (f k) ≡ f k) → map held_in_64 (map f ks) ≡ map f ks
map_held f [] h = refl
map_held f (k ∷ ks) h = λ i. h k i ∷ map_held f ks h i

-- the counts of few packets fit
pub packets_fit : (rules : EventRules) (ps : List Packet) → length ps ≤ 2 ^ 48 → held_packet_counts (packet_counts rules ps) ≡ packet_counts rules ps
packets_fit rules ps few = λ i. record {
  packets = held_small (length ps) (omega arith) i;
  queries = fits (is_of_kind rules 0) i;
  responses = fits (is_of_kind rules 1) i;
  malformed = fits (is_of_kind rules 2) i;
  discarded = fits (is_of_kind rules 3) i;
  skipped = map_held (λ k. count_by (is_skipped_for rules k) ps) (range_with_len 0 9) (λ k. fits (is_skipped_for rules k)) i;
}
  where
    fits : (q : Packet → Bool) → held_in_64 (count_by q ps) ≡ count_by q ps
    fits q = held_small (count_by q ps) (omega (arith, count_by-le-length q ps, few))
