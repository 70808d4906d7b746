-- A capture that is written: IP packets with no link header, in nanoseconds, all bytes captured (the pcap draft, 4 and
-- 5; link type 101).
use Rattle.std.specs.Prelude.{ℕ, ◌/◌, ◌%◌, List, [], ◌∷◌, length}
use Rattle.cd_pcap.specs.Pcap.{Form, little_nanos}
use Rattle.cd_pcap.specs.Spelled.{RawHeader, RawRecord, header}

-- the form that is written: little-endian order and nanoseconds
abbrev pub written_form : Form
written_form = little_nanos

-- what the header says: minor version 4, time zone and accuracy 0, at most 262,144 captured bytes, and link type 101
abbrev pub written_header_parts : RawHeader
written_header_parts = record {
  unread = 4 ∷ 0 ∷ 0 ∷ 0 ∷ 0 ∷ 0 ∷ 0 ∷ 0 ∷ 0 ∷ 0 ∷ 0 ∷ 0 ∷ 4 ∷ 0 ∷ [];
  link_word = 101;
}

-- the header
abbrev pub written_header : List ℕ
written_header = header written_form written_header_parts

-- the record of a packet of this time, all of it captured
abbrev pub written_record : ℕ → List ℕ → RawRecord
written_record time bytes = record {
  seconds = time / 1000000000;
  fraction = time % 1000000000;
  original = length bytes;
  captured = bytes;
}
