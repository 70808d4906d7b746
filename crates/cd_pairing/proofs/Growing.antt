-- The pairing of events, as the list of events grows.
use Rattle.std.proofs.Common.{◌≡◌, ℕ, ◌+◌, ◌<◌, Bool, List, [], ◌∷◌, ◌++◌, length, take, drop, max, None, ap, sym, ◌∙◌, subst, arith}
use Rattle.std.specs.List.{fold, sum_by}
use Rattle.std.proofs.lemmas.List.{get_or_append_left, take-append-le, take-append-drop, length_push, length-take-le}
use Rattle.cd_pairing.specs.declared.keyed.Windows.{Windows}
use Rattle.cd_pairing.specs.Events.{EventView, event_at, clock, weight_sum, no_event}
use Rattle.cd_pairing.specs.Matching.{IsMatching}
use Rattle.cd_pairing.specs.Pairing.{StampedEvent, stamped_event, may_pair, are_compatible}
use Rattle.cd_pairing.specs.Laws.{pairs_below, FrontsKeepPairs, OneMoreJoins}
use Rattle.cd_pairing.proofs.Joining.{Agrees, moved, join_none, join_some, joined}
use Rattle.cd_pairing.proofs.Keeping.{cut}

-- what an event is stamped with stays, however the list goes on
pub stamped-append : (events more : List EventView) (i : ℕ) → i < length events → stamped_event (events ++ more) i ≡ stamped_event events i
stamped-append events more i h =
    let first : take (i + 1) (events ++ more) ≡ take (i + 1) events = take-append-le (i + 1) events more (omega arith) in
    let event : event_at (events ++ more) i ≡ event_at events i = get_or_append_left events more no_event i h in
    ap (λ (t : List EventView). let s : StampedEvent = record { view = event_at (events ++ more) i; index = i; clock = fold (λ latest e. max latest e.time) 0 t; weight_sum = sum_by (λ e. e.weight) t } in s) first
    ∙ ap (λ (x : EventView). let s : StampedEvent = record { view = x; index = i; clock = clock events i; weight_sum = weight_sum events i } in s) event

pub agrees-append : (windows : Windows) (events more : List EventView) → Agrees (are_compatible windows (events ++ more)) (are_compatible windows events) (length events)
unfolding are_compatible
agrees-append windows events more = record {
  same = λ i j lt below.
      ap (λ (s : StampedEvent). may_pair windows s (stamped_event (events ++ more) j)) (stamped-append events more i (omega arith))
      ∙ ap (λ (s : StampedEvent). may_pair windows (stamped_event events i) s) (stamped-append events more j below);
}

turned : (R S : ℕ → ℕ → Bool) (n : ℕ) → Agrees R S n → Agrees S R n
turned R S n a = record { same = λ i j lt below. sym (a.same i j lt below) }

pub kept : FrontsKeepPairs
kept windows events n p le P =
    let parts : take n events ++ drop n events ≡ events = take-append-drop n events in
    let count : length (take n events) ≡ n = length-take-le n events le in
    let a : Agrees (are_compatible windows events) (are_compatible windows (take n events)) n =
    subst (λ (es : List EventView). Agrees (are_compatible windows es) (are_compatible windows (take n events)) n) parts
    (subst (λ (k : ℕ). Agrees (are_compatible windows (take n events ++ drop n events)) (are_compatible windows (take n events)) k) count (agrees-append windows (take n events) (drop n events))) in
    subst (λ (k : ℕ). IsMatching (are_compatible windows (take n events)) k (pairs_below n p)) (sym count)
    (moved (are_compatible windows events) (are_compatible windows (take n events)) n (pairs_below n p) a (cut (are_compatible windows events) (length events) n p P le))

pub grown : OneMoreJoins
grown windows events e p P =
    let R : ℕ → ℕ → Bool = are_compatible windows (events ++ e ∷ []) in
    let n : ℕ = length events in
    let count : n + 1 ≡ length (events ++ e ∷ []) = sym (length_push events e) in
    let Q : IsMatching R n p = moved (are_compatible windows events) R n p (turned R (are_compatible windows events) n (agrees-append windows events (e ∷ []))) P in
    record {
      joined = λ i w. subst (λ (k : ℕ). IsMatching R k (joined p i n)) count (join_some R n i p Q (record { inside = w.within; free = w.free; fits = w.fits; earlier = record { none = w.earliest } }));
      alone = λ nil. subst (λ (k : ℕ). IsMatching R k (p ++ None ∷ [])) count (join_none R n p Q (record { none = nil }));
    }
