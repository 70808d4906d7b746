-- What a capture holds: its packets, and how it ends.
use Rattle.std.specs.Prelude.{◌≡◌, ℕ, List, [], ◌++◌, ⊤}
use Rattle.cd_packet.specs.declared.packet.Packet.{Packet}
use Rattle.cd_packet.specs.declared.capture.EndState.{EndState}
use Rattle.cd_packet.specs.declared.capture.EndState.TheVariants.{Whole, Cut, Bad}
use Rattle.cd_packet.specs.declared.capture.BadCapture.{BadCapture}
use Rattle.cd_packet.specs.declared.capture.CaptureWhy.{CaptureWhy}

-- what a capture holds
pub record Capture : Type 0 where
  pub packets : List Packet
  pub end : EndState

-- no packet, and this end
abbrev pub ends : EndState → Capture
ends e = record { packets = []; end = e }

-- no packet, and this refused place
abbrev pub refused_capture : ℕ → CaptureWhy → Capture
refused_capture at why = ends (Bad (record { at = at; why = why }))

-- these packets, and then what comes
abbrev pub after : List Packet → Capture → Capture
after packets rest = record { packets = packets ++ rest.packets; end = rest.end }

-- the end is no refused place
abbrev pub IsWholeOrCut : EndState → Type 0
IsWholeOrCut Whole = ⊤
IsWholeOrCut Cut = ⊤
IsWholeOrCut (Bad b) = ⊥

-- What a capture becomes as its bytes go on: its packets stay, and others may follow; after a refused place nothing
-- does.
pub record Grows (now later : Capture) : Type 0 where
  pub rest : Capture
  pub packets : later ≡ after now.packets rest
  pub refused : (b : BadCapture) → now.end ≡ Bad b → rest ≡ ends now.end
