-- What a capture is refused for, and the events that are compacted then.
use Rattle.std.specs.Prelude.{ℕ, List, Option}
use Rattle.cd_capture.specs.Formats.{capture}
use Rattle.cd_capture.specs.Reading.{refusal_in}
use Rattle.cd_ident.specs.Events.{EventParts}
use Rattle.cd_ident.specs.declared.event_rules.EventRules.{EventRules}
use Rattle.cd_packet.specs.declared.capture.BadCapture.{BadCapture}
use Rattle.cd_engine.specs.Events.{events_of}

-- what bytes are refused for where nothing follows them: the place that no capture can have
unfoldable pub refusal_at_end : List ℕ → Option BadCapture
refusal_at_end bytes = refusal_in (capture bytes).end

-- The events that are compacted, those of all packets of the capture: its packets stand before a refused place.
abbrev pub compacted_events : EventRules → List ℕ → List EventParts
compacted_events rules bytes = events_of rules (capture bytes).packets
