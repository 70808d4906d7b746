-- What stands at the front of some bytes of a capture.
use Rattle.std.specs.Prelude.{◌≡◌, ℕ, ◌+◌, ◌≤◌, List, length, take, drop, Option, Some, None}
use Rattle.cd_pcap.specs.Pcap.{Form, form_of, version, link_type, captured_length}
use Rattle.cd_packet.specs.declared.capture.BadCapture.{BadCapture}
use Rattle.cd_pcap.specs.Reading.{AreWhole, AreOpen, AreRefused}
use Rattle.cd_pcap.specs.declared.record.Header.{Header}
use Rattle.cd_pcap.specs.declared.record.Header.TheVariants as header
use Rattle.cd_pcap.specs.declared.record.Front.{Front}
use Rattle.cd_pcap.specs.declared.record.Front.TheVariants as front
use Rattle.cd_pcap.specs.declared.record.Records.{Records}

-- these bytes begin with a header in this form, of this link type
pub record HasHeader (form : Form) (link : ℕ) (bytes : List ℕ) : Type 0 where
  pub magic : form_of bytes ≡ Some form
  pub long : 24 ≤ length bytes
  pub version : version form bytes ≡ 2
  pub type : link ≡ link_type form bytes

-- these bytes begin with a whole record in this form, of this size
pub record HasRecord (form : Form) (size : ℕ) (bytes : List ℕ) : Type 0 where
  pub sum : size ≡ 16 + captured_length form bytes
  pub small : captured_length form bytes ≤ 262144
  pub whole : size ≤ length bytes

-- a header, or why there is none
abbrev pub HeaderIs : List ℕ → Header → Type 0
HeaderIs bytes (header.Read form link) = HasHeader form link bytes
HeaderIs bytes header.Open = (form : Form) → AreOpen form None 0 bytes
HeaderIs bytes (header.Refused bad) = (form : Form) → AreRefused form None 0 bad bytes

-- a record of this size, or why there is none, after a header of any link type
abbrev pub FrontIs : Form → ℕ → List ℕ → Front → Type 0
FrontIs form at bytes (front.Record size) = HasRecord form size bytes
FrontIs form at bytes front.Open = (link : ℕ) → AreOpen form (Some link) at bytes
FrontIs form at bytes (front.Refused bad) = (link : ℕ) → AreRefused form (Some link) at bad bytes

-- these bytes are open, or begin with this refused place
abbrev pub IsStopped : Form → Option BadCapture → ℕ → ℕ → List ℕ → Type 0
IsStopped form None link at bytes = AreOpen form (Some link) at bytes
IsStopped form (Some bad) link at bytes = AreRefused form (Some link) at bad bytes

-- whole records up to bytes that are open or refused, after a header of any link type
pub record RecordsAre (form : Form) (at : ℕ) (bytes : List ℕ) (r : Records) : Type 0 where
  pub within : r.size ≤ length bytes
  pub whole : (link : ℕ) → AreWhole form (Some link) at (take r.size bytes)
  pub stopped : (link : ℕ) → IsStopped form r.refused link (at + r.size) (drop r.size bytes)
