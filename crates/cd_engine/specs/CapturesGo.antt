-- What is refused and what is compacted as the bytes of a capture go on.
use Rattle.std.proofs.Common.{◌≡◌, ℕ, List, [], ◌++◌, Option, Some, None, refl, ap, sym, ◌∙◌, arith}
use Rattle.std.proofs.lemmas.List.Elements.{filter_map-append}
use Rattle.cd_capture.specs.Formats.{capture}
use Rattle.cd_capture.specs.Reading.{refusal_of}
use Rattle.cd_capture.proofs.Growing.{captures_go_on, refusal-few, refusals_kept}
use Rattle.cd_ident.specs.Events.{EventParts}
use Rattle.cd_ident.specs.declared.event_rules.EventRules.{EventRules}
use Rattle.cd_packet.specs.declared.capture.BadCapture.{BadCapture}
use Rattle.cd_engine.specs.Events.{event_of, events_of}
use Rattle.cd_engine.specs.Refusals.{compacted_events}

-- no byte is refused for nothing
pub nothing_unrefused : refusal_of [] ≡ None
nothing_unrefused = refusal-few [] (omega arith)

-- what is not refused in all is not refused at the front
pub refusal_stays : (xs ys : List ℕ) → refusal_of (xs ++ ys) ≡ None → refusal_of xs ≡ None
refusal_stays xs ys none = before (refusal_of xs) refl
  where
    before : (o : Option BadCapture) → refusal_of xs ≡ o → refusal_of xs ≡ None
    before None is = is
    before (Some bad) is =
        let no_refusal : Some bad ≡ None = sym (refusals_kept xs ys bad is) ∙ none in absurd cc

-- the events that are compacted stay as the bytes go on
pub events_go_on : (rules : EventRules) (xs ys : List ℕ) →
    (rest : List EventParts) × (compacted_events rules (xs ++ ys) ≡ compacted_events rules xs ++ rest)
events_go_on rules xs ys =
    let g = (captures_go_on xs ys).packets in (
      events_of rules g.0,
      ap (events_of rules) g.1 ∙ filter_map-append (event_of rules) (capture xs).packets g.0,
    )
