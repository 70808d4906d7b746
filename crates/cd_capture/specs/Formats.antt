-- What a capture holds, in the format that its first four bytes tell.
use Rattle.std.specs.Prelude.{ℕ, List, if◌then◌else◌}
use Rattle.cd_packet.specs.Capture.{Capture}
use Rattle.cd_pcap.specs.Pcap.{pcap}
use Rattle.cd_pcapng.specs.Blocks.{is_section_header}
use Rattle.cd_pcapng.specs.Pcapng.{pcapng}

-- The capture: a pcapng capture where a section header is in front, and else a pcap capture, which refuses all bytes
-- that begin with no magic of its own.
unfoldable pub capture : List ℕ → Capture
capture bytes = if is_section_header bytes then pcapng bytes else pcap bytes
