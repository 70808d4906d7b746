-- What a pcap capture holds, as one function of all its bytes (the pcap draft, 4 and 5).
use Rattle.std.specs.Prelude.{ℕ, zero, suc, ◌+◌, ◌*◌, ◌%◌, nat_lt, nat_eq, List, [], ◌∷◌, length, take, drop}
use Rattle.std.specs.Prelude.{if◌then◌else◌, Option, Some, None}
use Rattle.cd_packet.specs.declared.packet.Packet.{Packet}
use Rattle.cd_packet.specs.declared.capture.EndState.TheVariants.{Whole, Cut}
use Rattle.cd_packet.specs.declared.capture.CaptureWhy.TheVariants.{Magic, Version, Record}
use Rattle.cd_bytes.specs.Numbers.{number16_at, number32_at}
use Rattle.cd_bytes.specs.declared.order.Order.TheVariants.{Big, Little}
use Rattle.cd_packet.specs.Magic.{has_magic}
use Rattle.cd_packet.specs.Time.{when_at, when_at-timely}
use Rattle.cd_packet.specs.Capture.{Capture, ends, refused_capture, after}
pub use Rattle.cd_pcap.specs.declared.form.Form.{Form}

-- little-endian order and microseconds
abbrev pub little_micros : Form
little_micros = record { order = Little; unit = 1000 }

-- big-endian order and microseconds
abbrev pub big_micros : Form
big_micros = record { order = Big; unit = 1000 }

-- little-endian order and nanoseconds
abbrev pub little_nanos : Form
little_nanos = record { order = Little; unit = 1 }

-- big-endian order and nanoseconds
abbrev pub big_nanos : Form
big_nanos = record { order = Big; unit = 1 }

-- The form that the first four bytes tell: d4 c3 b2 a1, a1 b2 c3 d4, 4d 3c b2 a1 or a1 b2 3c 4d. Others tell none.
unfoldable pub form_of : List ℕ → Option Form
form_of bytes =
    if has_magic 0xa1b2c3d4 bytes then Some little_micros
    else (if has_magic 0xd4c3b2a1 bytes then Some big_micros
    else (if has_magic 0xa1b23c4d bytes then Some little_nanos
    else (if has_magic 0x4d3cb2a1 bytes then Some big_nanos else None)))

-- the major version of a header
abbrev pub version : Form → List ℕ → ℕ
version form bytes = number16_at form.order 4 bytes

-- the link type of a header: the low half of its last word
abbrev pub link_type : Form → List ℕ → ℕ
link_type form bytes = number32_at form.order 20 bytes % 0x10000

-- the captured length of the record at the front of these bytes
abbrev pub captured_length : Form → List ℕ → ℕ
captured_length form bytes = number32_at form.order 8 bytes

-- a packet of these parts: link type, offset, seconds, fraction of a second, original length and captured bytes
abbrev pub packet_of_parts : Form → ℕ → ℕ → ℕ → ℕ → ℕ → List ℕ → Packet
packet_of_parts form link at seconds fraction original bytes = record {
  at = at;
  when = when_at (seconds * 1000000000 + fraction * form.unit);
  link = link;
  original = original;
  bytes = bytes;
  timely = when_at-timely (seconds * 1000000000 + fraction * form.unit);
}

-- the packet of the record at the front of these bytes, which stand at this offset
abbrev pub packet_at : Form → ℕ → ℕ → List ℕ → Packet
packet_at form link at bytes =
    packet_of_parts form link at (number32_at form.order 0 bytes) (number32_at form.order 4 bytes)
    (number32_at form.order 12 bytes) (take (captured_length form bytes) (drop 16 bytes))

-- What these bytes hold, which stand at this offset: so many of them still belong to the record before, and then come
-- the records.
unfoldable pub records : Form → ℕ → ℕ → ℕ → List ℕ → Capture
records form link zero at [] = ends Whole
records form link (suc inside) at [] = ends Cut
records form link (suc inside) at (b ∷ bytes) = records form link inside (at + 1) bytes
records form link zero at (b ∷ bytes) =
    if nat_lt (length (b ∷ bytes)) 16 then ends Cut
    else (if nat_lt 262144 (captured_length form (b ∷ bytes)) then refused_capture at Record
    else (if nat_lt (length (b ∷ bytes)) (16 + captured_length form (b ∷ bytes)) then ends Cut
    else after (packet_at form link at (b ∷ bytes) ∷ [])
    (records form link (15 + captured_length form (b ∷ bytes)) (at + 1) bytes)))

-- a capture that begins with the magic of this form: a header of 24 bytes, with the version and the link type, and
-- records
unfoldable pub pcap_in : Form → List ℕ → Capture
pcap_in form bytes =
    if nat_lt (length bytes) 24 then ends Cut
    else (if nat_eq (version form bytes) 2 then records form (link_type form bytes) 0 24 (drop 24 bytes)
    else refused_capture 0 Version)

-- a capture in this form, or in none that is read
abbrev pub pcap_of : Option Form → List ℕ → Capture
pcap_of None bytes = refused_capture 0 Magic
pcap_of (Some form) bytes = pcap_in form bytes

-- the capture, in the form that its magic tells
unfoldable pub pcap : List ℕ → Capture
pcap bytes = pcap_of (form_of bytes) bytes
