-- Events that are matched and filed one by one.
use Rattle.std.specs.Prelude.{◌≡◌, ℕ, ◌+◌, ◌<◌, ◌≤◌, true, false, Bool, List, map, Some}
use Rattle.std.specs.List.{All}
use Rattle.cd_hints.specs.Records.{RecordParts, HasKinds}
use Rattle.cd_hints.specs.Records as parts
use Rattle.cd_ident.specs.Events.{EventParts}
use Rattle.cd_ident.specs.Keys.{parts_of, view_of}
use Rattle.cd_ident.specs.declared.event.Event.{Event}
use Rattle.cd_ident.specs.declared.event_making.TheConstants.{GREATEST_WEIGHT}
use Rattle.cd_pairing.specs.Events.{are_opposite}
use Rattle.cd_window.specs.History.{StandsFor}
use Rattle.cd_window.specs.Pops.{IsTrimmed}
use Rattle.cd_window.specs.Seen.{Seen, count_of, held_at, is_ready}
use Rattle.cd_window.specs.declared.held.Held.{Held}
use Rattle.cd_window.specs.declared.released.Released.{Released}
use Rattle.cd_window.specs.declared.released.Released.TheVariants.{Pair, One}
use Rattle.cd_engine.specs.Filing.{Filed, FilingStands}
use Rattle.cd_engine.specs.Records.{windows_of, single_record}

-- a released record, as the parts of it
abbrev pub released_parts : Released Event → RecordParts
released_parts (Pair lead query response) = parts.pair (parts_of query) (parts_of response)
released_parts (One lead e) = single_record (parts_of e)

-- what is held is the traffic of DNS: each event weighs at most what that of a datagram does, each partner was pushed,
-- and of two partners one is a query and the other a response
pub record HoldsTraffic (w : Seen Event) : Type 0 where
  pub light : (k : ℕ) (h : Held Event) → held_at w k ≡ Some h → h.event.weight ≤ GREATEST_WEIGHT
  pub within : (k j : ℕ) (h : Held Event) → held_at w k ≡ Some h → h.partner ≡ Some j → j < count_of w
  pub opposite : (k l : ℕ) (h o : Held Event) → held_at w k ≡ Some h → held_at w l ≡ Some o →
      h.partner ≡ Some (w.first + l) → are_opposite (view_of h.event).side (view_of o.event).side ≡ true

-- what blocks show: the window and the filing
pub record BlocksSeen : Type 0 where
  pub window : Seen Event
  pub filing : Filed
  -- whether memory ran out in a call
  pub spent : Bool

-- what holds between two calls that found memory: no record is ready, and the end was not told
pub record IsDrained (w : Seen Event) (f : Filed) : Type 0 where
  pub windows : w.windows ≡ windows_of f.settings
  pub going : w.finished ≡ false
  pub due : is_ready view_of w ≡ false
  pub trimmed : IsTrimmed w
  pub traffic : HoldsTraffic w

-- The blocks stand for these events, and this output was cleared. What is spent stands for nothing.
pub record BlocksStand (b : BlocksSeen) (events : List EventParts) (cleared : List ℕ) : Type 0 where
  pub fresh : b.spent ≡ false
  pub pushed : List Event
  pub events_are : map parts_of pushed ≡ events
  pub popped : List (Released Event)
  pub kinds : All (λ r. HasKinds (released_parts r)) popped
  pub window : StandsFor view_of b.window pushed popped
  pub filing : FilingStands b.filing (map released_parts popped) cleared

-- a window and a filing, as blocks that are not spent show them
abbrev pub blocks_seen : Seen Event → Filed → BlocksSeen
blocks_seen w f = record { window = w; filing = f; spent = false }

-- records were popped from a window and filed: these stand for all events and all output that those stood for
pub record FilesPopped (w : Seen Event) (f : Filed) (new_window : Seen Event) (new_filing : Filed) : Type 0 where
  pub history : (events : List EventParts) (cleared : List ℕ) →
      BlocksStand (blocks_seen w f) events cleared → BlocksStand (blocks_seen new_window new_filing) events cleared
  pub windows : new_window.windows ≡ w.windows
  pub finished : new_window.finished ≡ w.finished
  pub weight_sum : new_window.weight_sum ≡ w.weight_sum
  pub settings : new_filing.settings ≡ f.settings
  pub trimmed : IsTrimmed new_window
  pub traffic : HoldsTraffic new_window

-- all records that were ready were popped and filed
pub record FilesReady (w : Seen Event) (f : Filed) (new_window : Seen Event) (new_filing : Filed) : Type 0 where
  pub filed : FilesPopped w f new_window new_filing
  pub idle : is_ready view_of new_window ≡ false
