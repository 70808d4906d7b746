-- What the event of a datagram weighs.
use Rattle.std.specs.Prelude.{ℕ, ◌+◌, ◌*◌, ◌≤◌, List, length, map}
use Rattle.std.specs.List.{sum_by}
use Rattle.cd_pairing.specs.declared.keyed.TheConstants.{LEAST_WEIGHT}
use Rattle.cd_pairing.specs.Settling.{AreHeavy}
use Rattle.cd_packet.specs.Layers.{Datagram}
use Rattle.cd_ident.specs.declared.event_making.TheConstants.{GREATEST_WEIGHT}
use Rattle.cd_ident.specs.declared.event_rules.EventRules.{EventRules}
use Rattle.cd_ident.specs.declared.event.Event.{Event}
use Rattle.cd_ident.specs.Events.{event_parts}
use Rattle.cd_ident.specs.Keys.{view_of}

-- a weight within the bounds
pub record IsEventWeight (weight : ℕ) : Type 0 where
  pub least : LEAST_WEIGHT ≤ weight
  pub greatest : weight ≤ GREATEST_WEIGHT

-- the weight of the event of a datagram is one, where the payload has at most 65,535 bytes
abbrev pub EventWeightsAreBounded : Type 0
EventWeightsAreBounded = (rules : EventRules) (d : Datagram) → length d.payload ≤ 65535 →
    IsEventWeight (event_parts rules d).weight

-- sixteen times the weight of the event of a datagram is at most 829 times a number five above the length of its
-- payload
abbrev pub EventWeightsAreLinear : Type 0
EventWeightsAreLinear = (rules : EventRules) (d : Datagram) →
    16 * (event_parts rules d).weight ≤ 829 * (length d.payload + 5)

-- sixteen times what the events of some datagrams weigh together is at most 829 times the sum of such numbers: the
-- length of the payload and five, for each
abbrev pub SumsOfWeightsAreLinear : Type 0
SumsOfWeightsAreLinear = (rules : EventRules) (ds : List Datagram) →
    16 * sum_by (λ d. (event_parts rules d).weight) ds ≤ 829 * sum_by (λ d. length d.payload + 5) ds

-- no event is lighter than the laws of the pairing ask
abbrev pub EventsAreHeavy : Type 0
EventsAreHeavy = (events : List Event) → AreHeavy (map view_of events)
