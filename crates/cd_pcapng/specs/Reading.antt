-- What a reader of a pcapng capture keeps, and for which histories it stands.
use Rattle.std.specs.Prelude.{◌≡◌, ℕ, ◌≤◌, nat_lt, List, [], ◌∷◌, ◌++◌, length, Option, Some, None, if◌then◌else◌}
use Rattle.cd_packet.specs.Capture.{Capture, ends, after}
use Rattle.cd_packet.specs.declared.packet.Packet.{Packet}
use Rattle.cd_packet.specs.declared.capture.BadCapture.{BadCapture}
use Rattle.cd_packet.specs.declared.capture.CaptureWhy.TheVariants.{Magic}
use Rattle.cd_packet.specs.declared.capture.EndState.{EndState}
use Rattle.cd_packet.specs.declared.capture.EndState.TheVariants.{Whole, Cut, Bad}
use Rattle.cd_pcapng.specs.Pcapng.{blocks, pcapng}
use Rattle.cd_pcapng.specs.Sections.{Section}

-- what a reader keeps
pub record Kept : Type 0 where
  -- how many bytes were fed
  pub fed_count : ℕ
  -- the packets that came whole and are not given
  pub ready : List Packet
  -- the bytes that were fed after the last whole block, up to a refused place
  pub held : List ℕ
  -- their offset in the capture
  pub at : ℕ
  -- the section in which they stand, once one began
  pub section : Option Section
  -- the refused place, once it came
  pub refused : Option BadCapture

-- what is read of these bytes from here on
abbrev pub reading_on : Option Section → ℕ → List ℕ → Capture
reading_on None at bytes = pcapng bytes
reading_on (Some s) at bytes = blocks s 0 at bytes

-- the end of bytes that hold neither a whole block nor a refused place: fewer than four are no capture
abbrev pub open_end : Option Section → List ℕ → EndState
open_end None bytes = if nat_lt (length bytes) 4 then Bad (record { at = 0; why = Magic }) else Cut
open_end (Some s) [] = Whole
open_end (Some s) (byte ∷ bytes) = Cut

-- these bytes hold neither a whole block nor a refused place
abbrev pub AreOpen : Option Section → ℕ → List ℕ → Type 0
AreOpen section at bytes = reading_on section at bytes ≡ ends (open_end section bytes)

-- these bytes begin with a refused place, however they go on
pub record AreRefused (section : Option Section) (at : ℕ) (bad : BadCapture) (bytes : List ℕ) : Type 0 where
  pub told : 4 ≤ length bytes
  pub reads : (more : List ℕ) → reading_on section at (bytes ++ more) ≡ ends (Bad bad)

-- what stands after the last whole block: bytes that are all held and open, or a refused place, from which on nothing
-- is held
abbrev pub StandsAfter : Option BadCapture → Option Section → ℕ → List ℕ → List ℕ → Type 0
StandsAfter None section at held let_go = AreOpen section at held × (let_go ≡ [])
StandsAfter (Some bad) section at held let_go = (held ≡ []) × AreRefused section at bad let_go

-- Of the bytes fed, the first are whole blocks, the next are held, and the last are let go. However the bytes go on
-- after the blocks, the capture is the packets given and those that are ready, and then what is read from here on.
pub record HasRead (r : Kept) (fed let_go : List ℕ) (given : List Packet) : Type 0 where
  pub front : List ℕ
  pub split : fed ≡ front ++ (r.held ++ let_go)
  pub count : length fed ≡ r.fed_count
  pub place : length front ≡ r.at
  pub reads : (more : List ℕ) → pcapng (front ++ more) ≡ after (given ++ r.ready) (reading_on r.section r.at more)

-- The reader stands for the bytes fed and the packets given: all whole blocks among these bytes are read.
pub record StandsFor (r : Kept) (fed : List ℕ) (given : List Packet) : Type 0 where
  pub let_go : List ℕ
  pub read : HasRead r fed let_go given
  pub rest : StandsAfter r.refused r.section r.at r.held let_go

-- the refused place of an end
abbrev pub refusal_in : EndState → Option BadCapture
refusal_in Whole = None
refusal_in Cut = None
refusal_in (Bad bad) = Some bad

-- the refused place of a capture of these bytes, which fewer than four bytes don't tell yet
unfoldable pub refusal_of : List ℕ → Option BadCapture
refusal_of bytes = if nat_lt (length bytes) 4 then None else refusal_in (pcapng bytes).end
