-- What a reader of a pcap capture keeps, and for which histories it stands.
use Rattle.std.specs.Prelude.{◌≡◌, ℕ, ◌+◌, ◌≤◌, nat_lt, List, [], ◌∷◌, ◌++◌, length, drop, Option, Some, None}
use Rattle.std.specs.Prelude.{if◌then◌else◌}
use Rattle.cd_packet.specs.Capture.{Capture, ends, after}
use Rattle.cd_pcap.specs.Pcap.{Form, pcap, records}
use Rattle.cd_packet.specs.declared.packet.Packet.{Packet}
use Rattle.cd_packet.specs.declared.capture.BadCapture.{BadCapture}
use Rattle.cd_packet.specs.declared.capture.CaptureWhy.TheVariants.{Magic}
use Rattle.cd_packet.specs.declared.capture.EndState.{EndState}
use Rattle.cd_packet.specs.declared.capture.EndState.TheVariants.{Whole, Cut, Bad}

-- what a reader keeps
pub record Kept : Type 0 where
  -- the form that is read, once the header is
  pub form : Form
  -- how many bytes were fed
  pub fed_count : ℕ
  -- the bytes that were fed and are not read, up to a refused place
  pub held : List ℕ
  -- their offset in the capture
  pub at : ℕ
  -- so many of the bytes held are whole records: the mark stands after them
  pub whole : ℕ
  -- the link type, once the header is read
  pub link : Option ℕ
  -- the refused place, once it came
  pub refused : Option BadCapture

-- what is read of these bytes from here on, in this form once the header is read
abbrev pub reading_on : Form → Option ℕ → ℕ → List ℕ → Capture
reading_on form None at bytes = pcap bytes
reading_on form (Some link) at bytes = records form link 0 at bytes

-- these bytes are whole records, of which there are none before the header
abbrev pub AreWhole : Form → Option ℕ → ℕ → List ℕ → Type 0
AreWhole form None at bytes = (at ≡ 0) × (bytes ≡ [])
AreWhole form (Some link) at bytes = (records form link 0 at bytes).end ≡ Whole

-- the end of bytes that hold neither a whole record nor a refused place: fewer than four are no capture
abbrev pub open_end : Option ℕ → List ℕ → EndState
open_end None bytes = if nat_lt (length bytes) 4 then Bad (record { at = 0; why = Magic }) else Cut
open_end (Some link) [] = Whole
open_end (Some link) (byte ∷ bytes) = Cut

-- these bytes hold neither a whole record nor a refused place
abbrev pub AreOpen : Form → Option ℕ → ℕ → List ℕ → Type 0
AreOpen form link at bytes = reading_on form link at bytes ≡ ends (open_end link bytes)

-- these bytes begin with a refused place, however they go on
pub record AreRefused (form : Form) (link : Option ℕ) (at : ℕ) (bad : BadCapture) (bytes : List ℕ) : Type 0 where
  pub told : 4 ≤ length bytes
  pub reads : (more : List ℕ) → reading_on form link at (bytes ++ more) ≡ ends (Bad bad)

-- what stands after the mark: bytes that are all held and open, or a refused place, from which on nothing is held
abbrev pub StandsAfter : Form → Option BadCapture → Option ℕ → ℕ → List ℕ → List ℕ → Type 0
StandsAfter form None link at held let_go = AreOpen form link at held × (let_go ≡ [])
StandsAfter form (Some bad) link at held let_go = (held ≡ []) × AreRefused form link at bad let_go

-- Of the bytes fed, the first are read, the next are held, and the last are let go. However the bytes go on after
-- those that are read, the capture is the packets given, and then what is read from here on.
pub record HasRead (r : Kept) (fed let_go : List ℕ) (given : List Packet) : Type 0 where
  pub front : List ℕ
  pub split : fed ≡ front ++ (r.held ++ let_go)
  pub count : length fed ≡ r.fed_count
  pub place : length front ≡ r.at
  pub reads : (more : List ℕ) → pcap (front ++ more) ≡ after given (reading_on r.form r.link r.at more)

-- The reader stands for the bytes fed and the packets given: some bytes are read, and after the mark no whole record
-- stands.
pub record StandsFor (r : Kept) (fed : List ℕ) (given : List Packet) : Type 0 where
  pub let_go : List ℕ
  pub read : HasRead r fed let_go given
  pub mark : StandsAfter r.form r.refused r.link (r.at + r.whole) (drop r.whole r.held) let_go

-- the refused place of an end
abbrev pub refusal_in : EndState → Option BadCapture
refusal_in Whole = None
refusal_in Cut = None
refusal_in (Bad bad) = Some bad

-- the refused place of a capture of these bytes, which fewer than four bytes don't tell yet
unfoldable pub refusal_of : List ℕ → Option BadCapture
refusal_of bytes = if nat_lt (length bytes) 4 then None else refusal_in (pcap bytes).end
