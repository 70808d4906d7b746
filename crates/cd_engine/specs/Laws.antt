-- What is known of the file of each capture, and of the weight of its events.
use Rattle.std.specs.Prelude.{◌≡◌, ℕ, ◌+◌, ◌*◌, ◌^◌, ◌<◌, ◌≤◌, List, ◌++◌, length}
use Rattle.std.specs.List.{sum, sum_by}
use Rattle.cd_capture.specs.Formats.{capture}
use Rattle.cd_drive.specs.Behaviors.{IsFront}
use Rattle.cd_hints.specs.Validity.{IsValid}
use Rattle.cd_hints.specs.declared.settings.Settings.{Settings}
use Rattle.cd_ident.specs.Events.{EventParts}
use Rattle.cd_ident.specs.declared.event_rules.EventRules.{EventRules}
use Rattle.cd_message.specs.MessageLaws.{AreBytes}
use Rattle.cd_engine.specs.Compactions.{IsFileOf, IsClosedPartOf}
use Rattle.cd_engine.specs.Counting.{AreCountsOf}
use Rattle.cd_engine.specs.Events.{events_of}
use Rattle.cd_engine.specs.declared.counts.Counts.{Counts}

-- the capture in these bytes has this file and no other
pub record HasOneFile (s : Settings) (bytes : List ℕ) : Type 0 where
  pub file : List ℕ
  pub holds : IsFileOf s bytes file
  pub only : (other : List ℕ) → IsFileOf s bytes other → other ≡ file

-- each capture has exactly one file, under each valid settings
abbrev pub EachCaptureHasOneFile : Type 0
EachCaptureHasOneFile = (s : Settings) (bytes : List ℕ) → IsValid s → HasOneFile s bytes

-- the front of the file of this capture that is closed is this and no other
pub record HasOneClosedPart (s : Settings) (bytes : List ℕ) : Type 0 where
  pub front : List ℕ
  pub holds : IsClosedPartOf s bytes front
  pub only : (other : List ℕ) → IsClosedPartOf s bytes other → other ≡ front
  -- it is a front of the file, however the bytes go on
  pub within : (more file : List ℕ) → IsFileOf s (bytes ++ more) file → IsFront front file

-- each capture has exactly one closed part, under each valid settings
abbrev pub EachCaptureHasOneClosedPart : Type 0
EachCaptureHasOneClosedPart = (s : Settings) (bytes : List ℕ) → IsValid s → HasOneClosedPart s bytes

-- the capture in these bytes has these counts and no others
pub record HasOneCounts (s : Settings) (bytes : List ℕ) : Type 0 where
  pub counts : Counts
  pub holds : AreCountsOf s bytes counts
  pub only : (other : Counts) → AreCountsOf s bytes other → other ≡ counts

-- each capture has exactly one set of counts, under each valid settings
abbrev pub EachCaptureHasOneCounts : Type 0
EachCaptureHasOneCounts = (s : Settings) (bytes : List ℕ) → IsValid s → HasOneCounts s bytes

-- what the events of a capture weigh together
abbrev pub weight_of_events : EventRules → List ℕ → ℕ
weight_of_events rules bytes = sum_by (λ (e : EventParts). e.weight) (events_of rules (capture bytes).packets)

-- sixteen times what the events of a capture weigh is at most 829 times its length in bytes
abbrev pub EventsAreLinear : Type 0
EventsAreLinear = (rules : EventRules) (bytes : List ℕ) → 16 * weight_of_events rules bytes ≤ 829 * length bytes

-- the events of a capture of at most 2^48 bytes weigh less than 2^63 together
abbrev pub EventsAreLight : Type 0
EventsAreLight = (rules : EventRules) (bytes : List ℕ) → length bytes ≤ 2 ^ 48 → weight_of_events rules bytes < 2 ^ 63

-- each packet of a capture of bytes is counted once: by the kind of its event, or by the reason why it has none
abbrev pub EachPacketIsCounted : Type 0
EachPacketIsCounted = (s : Settings) (bytes : List ℕ) (counts : Counts) → AreBytes bytes → AreCountsOf s bytes counts →
    counts.packets ≡ counts.queries + counts.responses + counts.malformed + counts.discarded + sum counts.skipped

-- the queries and responses of a capture are its items and its pairs together: each stands in one item
abbrev pub MessagesAreItemsAndPairs : Type 0
MessagesAreItemsAndPairs = (s : Settings) (bytes : List ℕ) (counts : Counts) → AreCountsOf s bytes counts →
    counts.queries + counts.responses ≡ counts.items + counts.pairs
