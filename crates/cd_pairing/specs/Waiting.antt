-- Scaffolding, which only contracts of private functions cite: what the matcher of a whole list keeps.
use Rattle.std.specs.Prelude.{◌≡◌, ℕ, ◌+◌, ◌*◌, ◌%◌, ◌^◌, ◌<◌, ◌≤◌, ◌⊎◌, true, false, max, List, length, take, drop, Option, None, slice_index_or}
use Rattle.std.specs.List.{fold, sum_by}
use Rattle.cd_pairing.specs.declared.digest.TheConstants.{FACTOR}
use Rattle.cd_pairing.specs.declared.keyed.Side.{Side}
use Rattle.cd_pairing.specs.declared.keyed.Side.TheVariants.{Query, Response, Neither}
use Rattle.cd_pairing.specs.declared.keyed.Windows.{Windows}
use Rattle.cd_pairing.specs.declared.stamp.Stamp.{Stamp}
use Rattle.cd_pairing.specs.declared.whole_list.Matcher.{Matcher}
use Rattle.cd_pairing.specs.Events.{EventView, event_at, clock, weight_sum}
use Rattle.cd_pairing.specs.Matching.{partner, IsMatching}
use Rattle.cd_pairing.specs.Pairing.{StampedEvent, stamped_event, is_in_window, may_pair, are_compatible}

-- an event with the stamp of its position
abbrev pub with_stamp : EventView → Stamp → StampedEvent
with_stamp view s = record { view = view; index = s.index; clock = s.clock; weight_sum = s.weight_sum }

-- a digest of these bytes, by which most that differ are told apart
unfoldable pub digest_of : List ℕ → ℕ
digest_of bytes = fold (λ digest byte. (digest * FACTOR % 2 ^ 64 + byte) % 2 ^ 64) 0 bytes

-- the stamp of the event at this position
abbrev pub stamp_at : List EventView → ℕ → Stamp
stamp_at events i = record {
  index = i;
  clock = clock events i;
  weight_sum = weight_sum events i;
  digest = digest_of (event_at events i).primary;
}

-- what stands past the end of a list of stamps
abbrev pub no_stamp : Stamp
no_stamp = record { index = 0; clock = 0; weight_sum = 0; digest = 0 }

-- the stamp under this number
abbrev pub stamp_under : List Stamp → ℕ → Stamp
stamp_under waiting k = slice_index_or waiting k no_stamp

-- the event of a stamp, with the stamp
abbrev pub event_of : List EventView → Stamp → StampedEvent
event_of events s = with_stamp (event_at events s.index) s

-- the side that an event of this side is paired with
abbrev pub other_side : Side → Side
other_side Query = Response
other_side Response = Query
other_side Neither = Neither

-- the first of those that wait that may stand with what comes now
pub record IsFirstFit (windows : Windows) (events : List EventView) (waiting : List Stamp) (now : Stamp) (k : ℕ) : Type 0 where
  pub within : k < length waiting
  pub good : may_pair windows (event_of events (stamp_under waiting k)) (event_of events now) ≡ true
  pub earlier : (m : ℕ) → m < k → may_pair windows (event_of events (stamp_under waiting m)) (event_of events now) ≡ false

-- nothing that waits may stand with what comes now
pub record NothingFits (windows : Windows) (events : List EventView) (waiting : List Stamp) (now : Stamp) : Type 0 where
  pub all : (m : ℕ) → m < length waiting →
      may_pair windows (event_of events (stamp_under waiting m)) (event_of events now) ≡ false

-- what waits first came too long before what comes now
pub record IsFrontClosed (windows : Windows) (events : List EventView) (waiting : List Stamp) (now : Stamp) : Type 0 where
  pub some : 0 < length waiting
  pub closed : is_in_window windows (event_of events (stamp_under waiting 0)) (event_of events now) ≡ false

-- a front of what waited is gone, all of which came too long before what comes now
pub record DropsClosed (windows : Windows) (events : List EventView) (before after : List Stamp) (now : Stamp) : Type 0 where
  pub count : ℕ
  pub left : after ≡ drop count before
  pub closed : (k : ℕ) → k < count →
      is_in_window windows (event_of events (stamp_under before k)) (event_of events now) ≡ false

-- a stamp is at one of these events, and has the digest of its primary
pub record IsInside (events : List EventView) (s : Stamp) : Type 0 where
  pub inside : s.index < length events
  pub digest : s.digest ≡ digest_of (event_at events s.index).primary

-- each stamp is
pub record AreInside (events : List EventView) (waiting : List Stamp) : Type 0 where
  pub each : (k : ℕ) → k < length waiting → IsInside events (stamp_under waiting k)

-- what a stamp of this side tells: it is that of an unpaired event of the side
pub record IsOfUnpaired (events : List EventView) (partners : List (Option ℕ)) (side : Side) (s : Stamp) : Type 0 where
  pub stamp : s ≡ stamp_at events s.index
  pub within : s.index < length partners
  pub free : partner partners s.index ≡ None
  pub side_is : (event_at events s.index).side ≡ side

-- this position stands in the window of no event from that one on
pub record HasClosed (windows : Windows) (events : List EventView) (i n : ℕ) : Type 0 where
  pub closed : (j : ℕ) → n ≤ j → j < length events →
      is_in_window windows (stamped_event events i) (stamped_event events j) ≡ false

-- the stamp of this position waits under this number
pub record WaitsUnder (waiting : List Stamp) (i : ℕ) : Type 0 where
  pub number : ℕ
  pub within : number < length waiting
  pub is : (stamp_under waiting number).index ≡ i

-- the stamps of one side that wait, in order: all of its unpaired events but those whose windows have closed
pub record IsWaiting (windows : Windows) (events : List EventView) (partners : List (Option ℕ)) (side : Side) (waiting : List Stamp) : Type 0 where
  pub each : (k : ℕ) → k < length waiting → IsOfUnpaired events partners side (stamp_under waiting k)
  pub order : (k l : ℕ) → k < l → l < length waiting → (stamp_under waiting k).index < (stamp_under waiting l).index
  pub all : (i : ℕ) → i < length partners → partner partners i ≡ None → (event_at events i).side ≡ side →
      HasClosed windows events i (length partners) ⊎ WaitsUnder waiting i

-- the first events are paired, and of an event of this side the own side and the other side wait
pub record ArePaired (windows : Windows) (events : List EventView) (partners : List (Option ℕ)) (side : Side) (others own : List Stamp) : Type 0 where
  pub pairing : IsMatching (are_compatible windows events) (length partners) partners
  pub others_wait : IsWaiting windows events partners (other_side side) others
  pub own_wait : IsWaiting windows events partners side own

-- the matcher has paired the first events, and keeps those that wait
pub record HasPaired (windows : Windows) (events : List EventView) (m : Matcher) : Type 0 where
  pub pairing : IsMatching (are_compatible windows events) (length m.partners.items) m.partners.items
  pub queries : IsWaiting windows events m.partners.items Query m.queries.items
  pub responses : IsWaiting windows events m.partners.items Response m.responses.items
  pub latest : m.clock ≡ fold (λ latest e. max latest e.time) 0 (take (length m.partners.items) events)
  pub total : m.weight_sum ≡ sum_by (λ e. e.weight) (take (length m.partners.items) events)
