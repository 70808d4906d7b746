-- What a pcapng capture holds, as one function of all its bytes (the pcapng draft, 3 and 4).
use Rattle.std.specs.Prelude.{ℕ, zero, suc, ◌+◌, ◌-◌, List, [], ◌∷◌, if◌then◌else◌}
use Rattle.cd_packet.specs.declared.capture.EndState.TheVariants.{Whole, Cut}
use Rattle.cd_packet.specs.declared.capture.CaptureWhy.TheVariants.{Magic}
use Rattle.cd_packet.specs.Capture.{Capture, ends, refused_capture, after}
use Rattle.cd_pcapng.specs.Blocks.{Front, cut_front, refused_front, other_block, packet_block, is_section_header, front_of}
use Rattle.cd_pcapng.specs.Sections.{Section, no_section}

-- what a capture holds from a front on, in this section and at this offset, where what comes after the front's first
-- byte is read so: in the section after the block, of which so many bytes are left
abbrev pub from_front : Front → Section → ℕ → (Section → ℕ → Capture) → Capture
from_front cut_front s at rest = ends Cut
from_front (refused_front why) s at rest = refused_capture at why
from_front (other_block next size) s at rest = rest next (size - 1)
from_front (packet_block p size) s at rest = after (p ∷ []) (rest s (size - 1))

-- What these bytes hold, which stand at this offset in a section: so many of them still belong to the block before, and
-- then come the blocks.
unfoldable pub blocks : Section → ℕ → ℕ → List ℕ → Capture
blocks s zero at [] = ends Whole
blocks s (suc inside) at [] = ends Cut
blocks s (suc inside) at (b ∷ bytes) = blocks s inside (at + 1) bytes
blocks s zero at (b ∷ bytes) =
    from_front (front_of s at (b ∷ bytes)) s at (λ next inside. blocks next inside (at + 1) bytes)

-- the capture: it begins with a section header
unfoldable pub pcapng : List ℕ → Capture
pcapng bytes = if is_section_header bytes then blocks no_section 0 0 bytes else refused_capture 0 Magic
