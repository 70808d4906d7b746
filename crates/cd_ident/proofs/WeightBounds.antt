-- The event of a datagram weighs as much as its message, or its payload, which are bounded.
use Rattle.std.proofs.Common.{◌≡◌, ℕ, ◌+◌, ◌*◌, ◌≤◌, [], ◌∷◌, length, Result, Ok, Err, refl, arith, inl, inr}
use Rattle.std.proofs.lemmas.Bool.{cases_Bool}
use Rattle.std.proofs.lemmas.List.Sums.{sum_by-cons}
use Rattle.cd_message.specs.declared.message.Message.{Message}
use Rattle.cd_message.specs.declared.message.MsgWhy.{MsgWhy}
use Rattle.cd_message.specs.Messages.{message_of}
use Rattle.cd_message.proofs.Weights.{message_weights_are_linear}
use Rattle.cd_message.proofs.Within.{messages_lie_within}
use Rattle.cd_packet.specs.Layers.{Datagram}
use Rattle.cd_ident.specs.declared.event_rules.EventRules.{EventRules}
use Rattle.cd_ident.specs.Events.{event_parts, parts_of_reading}
use Rattle.cd_ident.specs.EventWeights.{EventWeightsAreBounded, EventWeightsAreLinear, SumsOfWeightsAreLinear}
use Rattle.cd_ident.specs.Headers.{is_listed, opcode_of}

-- a weight of 256 at least, of which sixteen times is at most 829 times a number five above so many bytes
record IsLinear (weight bytes : ℕ) : Type 0 where
  least : 256 ≤ weight
  greatest : 16 * weight ≤ 829 * (bytes + 5)

-- what a payload spells, or breaks
reading_weight : (rules : EventRules) (d : Datagram) (r : Result (Message × ℕ) MsgWhy) → message_of d.payload ≡ r →
    IsLinear (parts_of_reading rules d r).weight (length d.payload)
reading_weight rules d (Err why) is = record { least = omega arith; greatest = omega arith }
reading_weight rules d (Ok x) is =
    elim (cases_Bool (is_listed rules.opcodes (opcode_of (x.0).bits))) [
      | inl listed ↦ rw listed (record {
        least = omega arith;
        greatest = omega (arith, message_weights_are_linear d.payload x.0 x.1 is, (messages_lie_within d.payload x.0 x.1 is).1);
      })
      | inr other ↦ rw other (record { least = omega arith; greatest = omega arith })
    ]

-- the event that is made of it
made_weight : (rules : EventRules) (d : Datagram) → IsLinear (event_parts rules d).weight (length d.payload)
unfolding event_parts
made_weight rules d = reading_weight rules d (message_of d.payload) refl

-- it weighs no more than its payload allows
pub event_weights_are_linear : EventWeightsAreLinear
event_weights_are_linear rules d = (made_weight rules d).greatest

-- its weight is bounded
pub event_weights_are_bounded : EventWeightsAreBounded
event_weights_are_bounded rules d fits = let w = made_weight rules d in record { least = w.least; greatest = omega (arith, w.greatest) }

-- some events weigh no more than their payloads allow
pub sums_of_weights_are_linear : SumsOfWeightsAreLinear
sums_of_weights_are_linear rules [] = omega arith
sums_of_weights_are_linear rules (d ∷ ds) =
    omega (
      arith,
      sum_by-cons (λ (e : Datagram). (event_parts rules e).weight) d ds,
      sum_by-cons (λ (e : Datagram). length e.payload + 5) d ds,
      event_weights_are_linear rules d,
      sums_of_weights_are_linear rules ds,
    )
