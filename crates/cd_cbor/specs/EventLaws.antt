-- What is known of the events of items.
use Rattle.std.specs.Prelude.{ℕ, ◌<◌, List, [], All}
use Rattle.cd_cbor.specs.Spells.{most_depth}
use Rattle.cd_cbor.specs.Reading.{item_at}
use Rattle.cd_cbor.specs.Events.{nothing_open}
use Rattle.cd_cbor.specs.Following.{Leads, Follows}
use Rattle.cd_cbor.specs.declared.event.Event.{Event}
use Rattle.cd_cbor.specs.declared.fault.Why.TheVariants.{Break}

-- Where an item is due and nothing is open, the events that come are those of what is read there: up to the end of the
-- item, after which nothing is open, or up to the fault that is read, at its place.
abbrev pub EventsFollow : Type 0
EventsFollow = (fed : List ℕ) (given : List Event) (position at : ℕ) → All (λ byte. byte < 256) fed → Leads fed given nothing_open position at →
    Follows fed given [] (item_at most_depth fed Break at)
