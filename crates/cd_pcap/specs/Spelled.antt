-- A pcap capture as it is spelled: a header, records and what stands after them (the pcap draft, 4 and 5).
use Rattle.std.specs.Prelude.{◌≡◌, ℕ, ◌+◌, ◌%◌, ◌^◌, ◌<◌, ◌≤◌, ◌⊎◌, nat_eq, List, [], ◌∷◌, ◌++◌, length, if◌then◌else◌}
use Rattle.std.specs.Int.{w16, w32}
use Rattle.std.specs.List.{AllByRecursion}
use Rattle.cd_bytes.specs.Numbers.{bytes_of}
use Rattle.cd_packet.specs.declared.packet.Packet.{Packet}
use Rattle.cd_packet.specs.declared.capture.EndState.{EndState}
use Rattle.cd_packet.specs.declared.capture.EndState.TheVariants.{Whole, Cut, Bad}
use Rattle.cd_packet.specs.declared.capture.CaptureWhy.TheVariants.{Magic, Version, Record}
use Rattle.cd_packet.specs.Capture.{Capture, ends, refused_capture}
use Rattle.cd_pcap.specs.Pcap.{Form, packet_of_parts}

-- the number that tells a unit of the fraction: a nanosecond, or else a microsecond
abbrev pub magic_number : ℕ → ℕ
magic_number unit = if nat_eq unit 1 then 0xa1b23c4d else 0xa1b2c3d4

-- the first four bytes
abbrev pub magic : Form → List ℕ
magic form = bytes_of w32 form.order (magic_number form.unit)

-- what a header says: 14 bytes that change nothing here (minor version, time zone, accuracy, greatest captured length),
-- and the word whose low half is the link type
pub record RawHeader : Type 0 where
  pub unread : List ℕ
  pub link_word : ℕ

-- the 14 bytes are there, and the word fits its four bytes
pub record HeaderFits (h : RawHeader) : Type 0 where
  pub unread : length h.unread ≡ 14
  pub link_word : h.link_word < 2 ^ 32

-- the magic, the major version 2, and what the header says
abbrev pub header : Form → RawHeader → List ℕ
header form h = magic form ++ bytes_of w16 form.order 2 ++ h.unread ++ bytes_of w32 form.order h.link_word

-- what a record says of a packet: its time, the bytes that the packet had, and those that were captured
pub record RawRecord : Type 0 where
  pub seconds : ℕ
  pub fraction : ℕ
  pub original : ℕ
  pub captured : List ℕ

-- each number fits its four bytes, and the captured bytes are no more than a record may have
pub record Fits (r : RawRecord) : Type 0 where
  pub seconds : r.seconds < 2 ^ 32
  pub fraction : r.fraction < 2 ^ 32
  pub original : r.original < 2 ^ 32
  pub captured : length r.captured ≤ 262144

-- the 16 bytes before the captured ones: seconds, fraction, captured length and original length
abbrev pub record_header : Form → ℕ → ℕ → ℕ → ℕ → List ℕ
record_header form seconds fraction count original =
    bytes_of w32 form.order seconds ++ bytes_of w32 form.order fraction ++ bytes_of w32 form.order count
    ++ bytes_of w32 form.order original

-- a record
abbrev pub spelling_of : Form → RawRecord → List ℕ
spelling_of form r = record_header form r.seconds r.fraction (length r.captured) r.original ++ r.captured

-- records, one after another
abbrev pub spellings : Form → List RawRecord → List ℕ
spellings form [] = []
spellings form (r ∷ rs) = spelling_of form r ++ spellings form rs

-- the packet that a record means, under this link type and at this offset
abbrev pub packet_of_raw : Form → ℕ → ℕ → RawRecord → Packet
packet_of_raw form link at r = packet_of_parts form link at r.seconds r.fraction r.original r.captured

-- the packets that records mean, of which the first stands at this offset
abbrev pub packets_of : Form → ℕ → ℕ → List RawRecord → List Packet
packets_of form link at [] = []
packets_of form link at (r ∷ rs) =
    packet_of_raw form link at r ∷ packets_of form link (at + (16 + length r.captured)) rs

-- these bytes begin with a record's header that says so many captured bytes
pub record BeginsRecord (form : Form) (count : ℕ) (bytes : List ℕ) : Type 0 where
  pub seconds : ℕ
  pub fraction : ℕ
  pub original : ℕ
  pub more : List ℕ
  pub fits : count < 2 ^ 32
  pub split : bytes ≡ record_header form seconds fraction count original ++ more

-- a record that is cut within its header, or within its captured bytes
abbrev pub IsCutRecord : Form → List ℕ → Type 0
IsCutRecord form bytes =
    ((0 < length bytes) × (length bytes < 16))
    ⊎ ((count : ℕ) × (count ≤ 262144) × BeginsRecord form count bytes × (length bytes < 16 + count))

-- a record that says more captured bytes than one may have
abbrev pub IsTooLong : Form → List ℕ → Type 0
IsTooLong form bytes = (count : ℕ) × (262144 < count) × BeginsRecord form count bytes

-- what stands after the last whole record, at this offset, where the capture ends so
abbrev pub IsRest : Form → ℕ → List ℕ → EndState → Type 0
IsRest form at rest Whole = rest ≡ []
IsRest form at rest Cut = IsCutRecord form rest
IsRest form at rest (Bad bad) = (bad ≡ record { at = at; why = Record }) × IsTooLong form rest

-- These bytes after the header, at this offset, are whole records and a rest, which hold this.
pub record SpellsRecords (form : Form) (link at : ℕ) (bytes : List ℕ) (c : Capture) : Type 0 where
  pub raws : List RawRecord
  pub fit : AllByRecursion Fits raws
  pub rest : List ℕ
  pub split : bytes ≡ spellings form raws ++ rest
  pub packets : c.packets ≡ packets_of form link at raws
  pub end : IsRest form (at + length (spellings form raws)) rest c.end

-- a header, and then records and a rest
pub record SpellsAfterHeader (form : Form) (bytes : List ℕ) (c : Capture) : Type 0 where
  pub raw : RawHeader
  pub fits : HeaderFits raw
  pub more : List ℕ
  pub split : bytes ≡ header form raw ++ more
  pub records : SpellsRecords form (raw.link_word % 0x10000) 24 more c

-- the magic of this form, and fewer bytes than a header has
pub record IsCutHeader (form : Form) (bytes : List ℕ) : Type 0 where
  pub more : List ℕ
  pub few : length more < 20
  pub split : bytes ≡ magic form ++ more

-- as many bytes as a header has, with the magic of this form and another major version
pub record HasOtherVersion (form : Form) (bytes : List ℕ) : Type 0 where
  pub version : ℕ
  pub fits : version < 2 ^ 16
  pub other : version ≡ 2 → ⊥
  pub more : List ℕ
  pub many : 18 ≤ length more
  pub split : bytes ≡ magic form ++ bytes_of w16 form.order version ++ more

-- These bytes, with the magic of this form, spell this capture.
abbrev pub SpellsIn : Form → List ℕ → Capture → Type 0
SpellsIn form bytes c =
    SpellsAfterHeader form bytes c
    ⊎ ((IsCutHeader form bytes × (c ≡ ends Cut)) ⊎ (HasOtherVersion form bytes × (c ≡ refused_capture 0 Version)))

-- the forms that are read: of microseconds and of nanoseconds, in either order
abbrev pub IsRead : Form → Type 0
IsRead form = (form.unit ≡ 1000) ⊎ (form.unit ≡ 1)

-- no form that is read has its magic in front
abbrev pub HasNoMagic : List ℕ → Type 0
HasNoMagic bytes = (form : Form) (more : List ℕ) → IsRead form → bytes ≡ magic form ++ more → ⊥

-- These bytes spell this capture, in a form that is read.
abbrev pub Spells : List ℕ → Capture → Type 0
Spells bytes c = ((form : Form) × IsRead form × SpellsIn form bytes c)
    ⊎ (HasNoMagic bytes × (c ≡ refused_capture 0 Magic))
