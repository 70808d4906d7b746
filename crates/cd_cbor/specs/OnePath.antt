-- What histories of the same bytes have in common.
use Rattle.std.specs.Prelude.{◌≡◌, ℕ, ◌-◌, ◌<◌, ◌≤◌, List, ◌++◌, Result, Ok, Err, All}
use Rattle.cd_cbor.specs.Spells.{most_depth, Cbor}
use Rattle.cd_cbor.specs.Readings.{piece}
use Rattle.cd_cbor.specs.Reading.{item_at}
use Rattle.cd_cbor.specs.Events.{Open, nothing_open}
use Rattle.cd_cbor.specs.Telling.{events_of}
use Rattle.cd_cbor.specs.Following.{Leads, Stops}
use Rattle.cd_cbor.specs.declared.item.Item.{Item}
use Rattle.cd_cbor.specs.declared.event.Event.{Event}
use Rattle.cd_cbor.specs.declared.event.Step.{Step}
use Rattle.cd_cbor.specs.declared.fault.Why.{Why}
use Rattle.cd_cbor.specs.declared.fault.Why.TheVariants.{Break, End}
use Rattle.cd_cbor.specs.declared.fault.CborFault.{CborFault}
use Rattle.cd_cbor.specs.declared.fault.CborFault.TheVariants as fault

-- Of two histories of the same bytes, that up to the earlier offset is a front of the other, and up to one offset they
-- are the same; the events alone fix how many bytes they have.
pub record OneHistory (one other : List Event) (now later : Open) (position after at next : ℕ) : Type 0 where
  pub front : at ≤ next → (more : List Event) × (other ≡ one ++ more)
  pub same : at ≡ next → (one ≡ other) × (now ≡ later) × (position ≡ after)
  pub position_is : one ≡ other → position ≡ after

-- Some bytes have one history.
abbrev pub HistoriesAreOne : Type 0
HistoriesAreOne = (fed : List ℕ) (one other : List Event) (now later : Open) (position after at next : ℕ) →
    Leads fed one now position at → Leads fed other later after next → OneHistory one other now later position after at next

-- A history of some bytes is one of more bytes.
abbrev pub HistoriesStay : Type 0
HistoriesStay = (fed more : List ℕ) (given : List Event) (now : Open) (position at : ℕ) → Leads fed given now position at →
    Leads (fed ++ more) given now position at

-- Some bytes stop at one place, for one reason, after the same events, and no history of them goes on from there.
pub record StopsOnce (fed : List ℕ) (given : List Event) (at : ℕ) (reason : Why) : Type 0 where
  pub once : (other : List Event) (next : ℕ) (another : Why) → Stops fed other next another →
      (given ≡ other) × (at ≡ next) × (reason ≡ another)
  pub last : (other : List Event) (later : Open) (position next : ℕ) → Leads fed other later position next →
      (next ≤ at) × ((more : List Event) × (given ≡ other ++ more))
  -- but for an end, bytes that come do not change it
  pub stays : (reason ≡ End → ⊥) → (more : List ℕ) → Stops (fed ++ more) given at reason

-- some bytes stop at one place at most, and all their histories lead there
abbrev pub StopsAreOne : Type 0
StopsAreOne = (fed : List ℕ) (given : List Event) (at : ℕ) (reason : Why) → Stops fed given at reason → StopsOnce fed given at reason

-- What is told of an item between two offsets: its events, and of any front of the bytes that holds some of it, some of
-- them.
pub record TellsItem (bytes : List ℕ) (given : List Event) (at : ℕ) (item : Item) (next : ℕ) : Type 0 where
  pub spelled : Cbor item (piece at (next - at) bytes)
  pub told : Leads bytes (given ++ events_of item (piece at (next - at) bytes) spelled) nothing_open next next
  pub fronts : (fed more : List ℕ) (other : List Event) (later : Open) (position place : ℕ) → bytes ≡ fed ++ more →
      Leads fed other later position place → at ≤ place → place ≤ next →
      (come : List Event) × (left : List Event) × (other ≡ given ++ come)
      × (events_of item (piece at (next - at) bytes) spelled ≡ come ++ left)

-- Where an item is due and nothing is open, the events that come next are those of the item that is read there.
abbrev pub EventsAreTheItems : Type 0
EventsAreTheItems = (bytes : List ℕ) (given : List Event) (position at : ℕ) (item : Item) (next : ℕ) → All (λ byte. byte < 256) bytes →
    Leads bytes given nothing_open position at → item_at most_depth bytes Break at ≡ Ok (item, next) → TellsItem bytes given at item next

-- a call that says this fault, unless it finds no memory
abbrev pub SaysAgain : ℕ → Why → Result Step CborFault → Type 0
SaysAgain at reason (Ok answer) = ⊥
SaysAgain at reason (Err (fault.Bad place other)) = (place ≡ at) × (other ≡ reason)
SaysAgain at reason (Err fault.NoMemory) = Unit {0}
